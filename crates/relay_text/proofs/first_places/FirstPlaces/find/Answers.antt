use Rattle.std.proofs.Common.{◌≡◌, ℕ, ◌+◌, ◌<◌, ◌≤◌, List, length, get_or, arith, sym, ap, subst, ◌∙◌}
use Rattle.std.specs.Prelude.{slice_set, map}
use Rattle.std.proofs.lemmas.Bool.{true≢false}
use Rattle.relay_text.specs.FirstPlaces.{first_place, bytes_of}
use Rattle.relay_text.proofs.Firsts.{AreSorted, AreFound, first_of_place, place_within, has_text_at, begun, begun_anew, kept_on, found_more, found_all}
use Rattle.relay_text.proofs.first_places.FirstPlaces.find.Goals as goal
use Rattle.relay_text.proofs.first_places.FirstPlaces.find.Goals.{then-index-eq0, then-index-eq0-via-then-index-eq0, then-index-eq0-via-else-index-eq0+then-not-is_same_as, else-index-eq0+else-not-is_same_as}

pub index_mut-requires : goal.index_mut-requires
index_mut-requires c =
    let gathered = c.self.inside.texts.items in
    let items = c.sort_unstable.new.self.items in
    let sorted : AreSorted gathered items = record { in_place = c.self.invariant; moved = c.sort_unstable.ensures.permutation; up = c.sort_unstable.ensures.sorted } in
    let same = c.deref-text-items.ensures.value in
    let x = c.text-item.result in
    let i = c.loop-index.index in
    let inside : i < length items = omega (arith, ap length same) in
    omega (arith, place_within gathered items sorted x (has_text_at gathered items sorted i x inside (c.text-item.is ∙ ap (λ l. get_or l i x) same)), ap length same, c.loop-index.invariant.long)

pub loop-index-preserved : goal.loop-index-preserved
loop-index-preserved c =
    let gathered = c.self.inside.texts.items in
    let items = c.sort_unstable.new.self.items in
    let sorted : AreSorted gathered items = record { in_place = c.self.invariant; moved = c.sort_unstable.ensures.permutation; up = c.sort_unstable.ensures.sorted } in
    let same = c.deref-text-items.ensures.value in
    let places = c.loop-index.places.items in
    let first = c.loop-index.first in
    let next = c.if-index-eq0.first in
    let x = c.text-item.result in
    let i = c.loop-index.index in
    let inside : i < length items = omega (arith, ap length same) in
    let is : x ≡ get_or items i x = c.text-item.is ∙ ap (λ l. get_or l i x) same in
    let so_far : AreFound (bytes_of gathered) items places first i =
    subst (λ texts. AreFound texts items places first i) (sym c.self.view_is) (subst (λ l. AreFound c.args.self l places first i) same c.loop-index.invariant) in
    let now : next ≡ first_of_place (bytes_of gathered) x.place =
    elim c.if-index-eq0.branch [
      | then-index-eq0 w ↦
          w.first-is
          ∙ elim w.then-index-eq0.branch [
            | then-index-eq0-via-then-index-eq0 w' ↦ begun gathered items sorted i x inside is w'.if-index-eq0.true
            | then-index-eq0-via-else-index-eq0+then-not-is_same_as w' ↦
                begun_anew gathered items sorted i x inside is w'.index.result.now w'.index.ensures
                (λ e. true≢false (sym (w'.is_same_as.ensures.1 e) ∙ w'.if-not-is_same_as.true))
          ]
      | else-index-eq0+else-not-is_same_as w ↦
          w.first-is
          ∙ kept_on gathered items sorted i x inside is w.index.result.now places first so_far (omega (arith, w.if-index-eq0.false)) w.index.ensures (w.is_same_as.ensures.0 w.if-not-is_same_as.false)
    ] in
    let more = found_more (bytes_of gathered) items places first next i x so_far inside is (place_within gathered items sorted x (has_text_at gathered items sorted i x inside is)) now in
    subst (λ l. AreFound c.args.self l (slice_set places x.place next) next (i + 1)) (sym same)
    (subst (λ texts. AreFound texts items (slice_set places x.place next) next (i + 1)) c.self.view_is more)

pub returns : goal.returns
returns c =
    let gathered = c.self.inside.texts.items in
    let items = c.sort_unstable.new.self.items in
    let sorted : AreSorted gathered items = record { in_place = c.self.invariant; moved = c.sort_unstable.ensures.permutation; up = c.sort_unstable.ensures.sorted } in
    let same = c.deref-text-items.ensures.value in
    let places = c.loop-index.places.items in
    let first = c.loop-index.first in
    let i = c.loop-index.index in
    let so_far : AreFound (bytes_of gathered) items places first i =
    subst (λ texts. AreFound texts items places first i) (sym c.self.view_is) (subst (λ l. AreFound c.args.self l places first i) same c.loop-index.invariant) in
    let past : length items ≤ i = omega (arith, ap length same) in
    let P : List (List ℕ) → Type 0 = λ texts. places ≡ map (first_place texts) texts in
    subst P c.self.view_is (found_all gathered items places first i sorted so_far past)
