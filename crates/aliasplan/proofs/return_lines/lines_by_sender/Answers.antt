use Rattle.std.proofs.Common.{◌≡◌, ◌⊎◌, ◌<◌, List, [], ℕ, length, get_or, arith, ap, sym, subst, inl, inr, Err, ◌∙◌}
use Rattle.std.specs.Prelude.{◌↔◌, IsTrue, Some, slice_get}
use Rattle.std.proofs.lemmas.Option.{slice_get-get_or}
use Rattle.std.proofs.lemmas.Result.{err_from_is_err_and}
use Rattle.relay_text.specs.Bytes.{has_text}
use Rattle.relay_rounds.specs.declared.fault.ReachFault.TheVariants.{TooManyPairs}
use Rattle.relay_pairs.specs.declared.reached.Reached.{Reached}
use Rattle.relay_pairs.specs.Pairs.{ArePairsFrom, HasMorePairsFrom}
use Rattle.aliasplan.specs.ReturnLines.{AreCounted, IsLineBefore, IsLineFrom, ReportsEach, lines_at}
use Rattle.aliasplan.proofs.ReturnSteps.{counted_more, places_more}
use Rattle.aliasplan.proofs.return_lines.lines_by_sender.Goals as goal

pub loop-place-preserved : goal.loop-place-preserved
loop-place-preserved g c =
    let graph = c.args.search.now.graph.now in
    let undelivered = c.args.undelivered.now in
    let recipients = c.args.recipients.now in
    let k = c.loop-place.place in
    let old = c.loop-place.invariant in
    let before = c.loop-place.lists.items in
    let after = c.add_recipient.new.lists.items in
    let count = c.in_ok-count.count in
    let recipient = c.index-recipients-place.result in
    let roots_are = c.roots-roots.ensures in
    let root : ℕ = get_or graph.roots k 0 in
    let inside : k < length recipients = c.loop-place-test.true in
    let at : slice_get recipients k ≡ Some recipient = slice_get-get_or recipients k recipient inside ∙ ap (λ a. Some a) (sym c.index-recipients-place.is) in
    let root_at : slice_get graph.roots k ≡ Some root = slice_get-get_or graph.roots k 0 (omega (arith, inside, c.requires.roots)) in
    record {
      lines =
          places_more graph undelivered recipients c.in_ok-lists.lists.items before after k root recipient at root_at old.lines
          (subst (λ (rs : List ℕ). ReportsEach before after (IsLineFrom graph undelivered recipient (get_or rs k 0))) roots_are c.in_ok-count.ensures.lines);
      counted =
          counted_more graph c.args.limit c.loop-place.left k count root old.counted root_at c.in_ok-count.ensures.within
          (subst (λ (rs : List ℕ). (pairs : List Reached) × ArePairsFrom graph (get_or rs k 0) pairs × (length pairs ≡ count)) roots_are c.in_ok-count.ensures.counted);
      few = omega (arith, old.few);
    }

pub returns-in_err-lists : goal.returns-in_err-lists
returns-in_err-lists g c =
    let p = err_from_is_err_and c.from_residual.result c.from_residual.ensures.1 in
    rw (p.1, p.2) (record { long = tt; lines = tt; counted = tt; refused = λ e. absurd (let no : ⊥ = cc in no) })

pub returns-in_err-count : goal.returns-in_err-count
returns-in_err-count g c =
    let graph = c.args.search.now.graph.now in
    let k = c.loop-place.place in
    let left = c.loop-place.left in
    let p = err_from_is_err_and c.from_residual-in_err-count.result c.from_residual-in_err-count.ensures.1 in
    let inside : k < length c.args.recipients.now = c.loop-place-test.true in
    rw (p.1, p.2) (record {
      long = tt;
      lines = tt;
      counted = tt;
      refused = λ e. record {
        left = left;
        place = k;
        root = get_or graph.roots k 0;
        before = c.loop-place.invariant.counted;
        at = slice_get-get_or graph.roots k 0 (omega (arith, inside, c.requires.roots));
        more = subst (λ (rs : List ℕ). HasMorePairsFrom graph (get_or rs k 0) left) c.roots-roots.ensures (c.in_err-count.ensures.refused (let same : c.in_err-count.field-0.0 ≡ TooManyPairs = cc in ap Err same));
      };
    })

pub returns : goal.returns
returns g c =
    let graph = c.args.search.now.graph.now in
    let undelivered = c.args.undelivered.now in
    let recipients = c.args.recipients.now in
    let first = c.in_ok-lists.lists.items in
    let old = c.loop-place.invariant in
    let all : c.loop-place.place ≡ length recipients = omega (arith, c.loop-place.auto.place-end, c.loop-place-test.false) in
    record {
      long = old.lines.long ∙ c.in_ok-lists.ensures.long;
      lines = λ s q inside.
          let within : s < length first = omega (arith, inside, c.in_ok-lists.ensures.long) in
          let each = subst (λ (k : ℕ). IsTrue (has_text (lines_at c.loop-place.lists.items s) q) ↔ (IsTrue (has_text (lines_at first s) q) ⊎ IsLineBefore graph undelivered recipients k s q)) all (old.lines.each s q within) in (
            λ has. elim (each.0 has) [
              | inl had ↦ let none : IsTrue (has_text [] q) = subst (λ (ls : List (List ℕ)). IsTrue (has_text ls q)) (c.in_ok-lists.ensures.empty s [] within) had in absurd {A = IsLineBefore graph undelivered recipients (length recipients) s q} (let no : ⊥ = cc in no)
              | inr line ↦ line
            ],
            λ line. each.1 (inr line),
          );
      counted = (c.loop-place.left, subst (λ (k : ℕ). AreCounted graph c.args.limit c.loop-place.left k) all old.counted);
      refused = λ e. absurd (let no : ⊥ = cc in no);
    }
