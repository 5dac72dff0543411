-- The exchange that draws a piece.
use Rattle.std.proofs.Common.{◌≡◌, ℕ, suc, ◌+◌, ◌-◌, ◌*◌, ◌%◌, ◌<◌, ◌≤◌, true, false, eqb, min, List, ◌++◌, length, set, slice_index, sym, refl, ap, ◌∙◌, subst, arith, length-set, get_or-set_other, get_or-set_same, mul-le-mul_right, div-add-mod', suc-mul}
use Rattle.std.proofs.lemmas.Bool.Decides.{nat_tests}
use mathlib.Core.Option.{some, none}
use mathlib.Core.Logic.{dite}
use native.Mathlib.Decide.{ℕ_discrete}
use prog.Atomic.{either}
use lib.ListN.{get_elem?}
use Rattle.atomic_table.specs.Seated.{TableId}
use Rattle.atomic_table.specs.Table.{State, Me, Act, keeps, Allows, Valid, carried_after, stepped, step}
use Rattle.atomic_table.proofs.Lists.{exchanged}
use Rattle.relay_claims.specs.declared.view.View.{View}
use Rattle.relay_claims.specs.Counting.{times, span, once_below}
use Rattle.relay_claims.specs.Round.{pieces_of, head_word, link_word, ticket_of, link_of}
use Rattle.relay_claims.specs.View.{piece, took, missed, no_flight, both_views}
use Rattle.relay_claims.specs.Seat.{Progress, IsIdle, shown}
use Rattle.relay_claims.specs.Lawful.{Leads, Lawful}
use Rattle.relay_claims.specs.Steps.{tried_ticket}
use Rattle.relay_claims.specs.Round.{ArePlaces}
use Rattle.relay_claims.proofs.Counts.{total_at, times_append, times_span}
use Rattle.relay_claims.proofs.Chains.{leads_same}
use Rattle.relay_claims.proofs.Rules.{same_chains, rebuilt}
use Rattle.relay_claims.proofs.Looks.{stays}

below : (x m : ℕ) → 0 < once_below x m → x < m
below x m o = grind (arith, nat_tests)

-- a piece begins at a place
pub piece_start : (n cut t : ℕ) → 0 < cut → t < pieces_of n cut → t * cut < n
piece_start n cut t room small =
    let a : suc t * cut ≤ pieces_of n cut * cut = mul-le-mul_right cut small in let d = div-add-mod' (n + (cut - 1)) cut in
    let p : ℕ = pieces_of n cut * cut in let q : p + (n + (cut - 1)) % cut ≡ n + (cut - 1) = d in let b : suc t * cut ≤ p = a in let e : suc t * cut ≡ t * cut + cut = suc-mul t cut in
    let z : ℕ = t * cut in let e' : suc t * cut ≡ z + cut = e in omega arith

-- after the last piece no place is left
pub pieces_end : (n cut : ℕ) → 0 < cut → n ≤ pieces_of n cut * cut
pieces_end n cut room = let d = div-add-mod' (n + (cut - 1)) cut in let p : ℕ = pieces_of n cut * cut in let q : p + (n + (cut - 1)) % cut ≡ n + (cut - 1) = d in omega arith

pub piece_counts : (n cut t x : ℕ) → 0 < cut → t < pieces_of n cut → times x (piece n cut t) + once_below x (min (t * cut) n) ≡ once_below x (min ((t + 1) * cut) n)
piece_counts n cut t x room small =
    let h = piece_start n cut t room small in let z : ℕ = t * cut in let e : (t + 1) * cut ≡ z + cut = let k : suc t * cut ≡ t * cut + cut = suc-mul t cut in ap (λ (m : ℕ). m * cut) (let o : t + 1 ≡ suc t = omega arith in o) ∙ k in
    let a : once_below x (min (t * cut) n) ≡ once_below x z = ap (λ (m : ℕ). once_below x m) (let o : min z n ≡ z = omega arith in o) in
    let b : once_below x (min ((t + 1) * cut) n) ≡ once_below x (z + min cut (n - z)) = ap (λ (m : ℕ). once_below x m) (let o : min ((t + 1) * cut) n ≡ z + min cut (n - z) = rw e (omega arith) in o) in
    let s = times_span x z (min cut (n - z)) in omega arith

pub places_append : (keys xs ys : List ℕ) → ArePlaces keys xs → ArePlaces keys ys → ArePlaces keys (xs ++ ys)
places_append keys xs ys a b x on = let t = times_append x xs ys in dite (ℕ_discrete (times x xs) 0) (λ e. b x (omega arith)) (λ n. a x (omega arith))

pub places_piece : (keys : List ℕ) (cut t : ℕ) → 0 < cut → t < pieces_of (length keys) cut → ArePlaces keys (piece (length keys) cut t)
places_piece keys cut t room small x on = let n : ℕ = length keys in let h : t * cut < n = piece_start n cut t room small in let z : ℕ = t * cut in let s : times x (piece n cut t) + once_below x z ≡ once_below x (z + min cut (n - z)) = times_span x z (min cut (n - z)) in
    let h' : z < n = h in let o : 0 < once_below x (z + min cut (n - z)) = omega arith in let p : x < z + min cut (n - z) = below x (z + min cut (n - z)) o in omega arith

-- a seat that took a piece is idle
pub took_idle : (me now : Me Unit View) → IsIdle me → now ≡ (took me.0, me.1) → 0 < me.0.cut → me.0.seen < pieces_of (length me.0.keys) me.0.cut → IsIdle now
took_idle me now i e room small = subst (λ (m : Me Unit View). IsIdle m) (sym e) (record {
  live = i.live;
  no_claim = i.no_claim;
  no_slot = i.no_slot;
  places = places_append me.0.keys me.0.drawn (piece (length me.0.keys) me.0.cut me.0.seen) i.places (places_piece me.0.keys me.0.cut me.0.seen room small);
})

-- and has what it had, but for what a draw changes
pub took_others : (name old : TableId) (me now : Me Unit View) (s : Progress) → name ≡ old → now ≡ (took me.0, me.1) → shown old me.0 ≡ record s { seen = me.0.seen; draw_tries = me.0.draw_tries }
    → shown name now.0 ≡ record s { drawn = now.0.drawn; seen = now.0.seen; draw_tries = now.0.draw_tries }
took_others name old me now s same e was =
    let v : View = took me.0 in
    subst (λ (m : Me Unit View). shown name m.0 ≡ record s { drawn = m.0.drawn; seen = m.0.seen; draw_tries = m.0.draw_tries }) (sym e)
    (ap (λ (n : TableId). shown n v) same ∙ ap (λ (p : Progress). record p { drawn = v.drawn; seen = v.seen; draw_tries = v.draw_tries }) was)

-- what it drew is the piece of the ticket t, of which it had nothing
pub took_drawn : (me now : Me Unit View) (drawn keys : List ℕ) (cut t len : ℕ) → now ≡ (took me.0, me.1) → me.0.drawn ≡ drawn → me.0.keys ≡ keys → me.0.cut ≡ cut → me.0.seen ≡ t → len ≡ min cut (length keys - t * cut)
    → now.0.drawn ≡ drawn ++ span (t * cut) (t * cut + len - t * cut)
took_drawn me now drawn keys cut t len e d k c s l =
    let z : ℕ = t * cut in let whole : z + len - z ≡ len = omega arith in
    ap (λ m. m.0.drawn) e ∙ (λ i. d i ++ span (s i * c i) (min (c i) (length (k i) - s i * c i))) ∙ sym (ap (λ (n : ℕ). drawn ++ span z n) (whole ∙ l))

pub took_fresh : (me : Me Unit View) (drawn : List ℕ) (cut t : ℕ) → ((x : ℕ) → me.0.seen * me.0.cut ≤ x → times x me.0.drawn ≡ 0) → me.0.drawn ≡ drawn → me.0.cut ≡ cut → me.0.seen ≡ t → (x : ℕ) → t * cut ≤ x → times x drawn ≡ 0
took_fresh me drawn cut t fresh d c s x far =
    subst (λ (xs : List ℕ). times x xs ≡ 0) d (fresh x (subst (λ (n : ℕ). n ≤ x) (sym (λ i. s i * c i)) far))

-- and so is one that took in another
pub both_idle : (v w now : Me Unit View) → IsIdle v → IsIdle w → w.0.keys ≡ v.0.keys → now ≡ (both_views v.0 w.0, v.1) → IsIdle now
both_idle v w now i k same e = subst (λ (m : Me Unit View). IsIdle m) (sym e) (record {
  live = i.live;
  no_claim = i.no_claim;
  no_slot = i.no_slot;
  places = places_append v.0.keys v.0.drawn w.0.drawn i.places (subst (λ (ks : List ℕ). ArePlaces ks w.0.drawn) same k.places);
})

module _ (keys : List ℕ) (heads cut : ℕ) where
  abbrev St : Type 0
  St = State Unit View

  abbrev Law : St → Type 0
  Law = Lawful keys heads cut

  takes_now : (s : St) (r : Law s) (id : ℕ) (v : View) → get_elem? s.views id ≡ some v → v.spent ≡ false → v.flight ≡ no_flight → slice_index s.words 0 ≡ v.seen → v.seen < pieces_of (length keys) cut → (new : ℕ) → new ≡ v.seen + 1
      → Law record { words = set s.words 0 new; homes = s.homes; views = set s.views id (took v) }
  takes_now s r id v at live idle hit small new is_new =
      let so = r.each id v at live in let w : View = took v in let ws : List ℕ = set s.words 0 new in let t : ℕ = v.seen in
      let here : slice_index ws 0 ≡ t + 1 = get_or-set_same s.words 0 new 0 (let h = r.wide in omega arith) ∙ is_new in
      let else_same : (i : ℕ) → slice_index ws (suc i) ≡ slice_index s.words (suc i) = λ i. get_or-set_other s.words 0 (suc i) new 0 (λ q. omega arith) in
      let link_same : (i : ℕ) → link_of heads ws i ≡ link_of heads s.words i = λ i. get_or-set_other s.words 0 (link_word heads i) new 0 (λ q. omega arith) in
      let drawn : (x : ℕ) → times x w.drawn ≡ times x v.drawn + times x (piece (length keys) cut t) = λ x.
      times_append x v.drawn (piece (length v.keys) v.cut t) ∙ (λ i. times x v.drawn + times x (piece (length (so.same_keys i)) (so.same_cut i) t)) in
      rebuilt keys heads cut s r ws r.chain id v w at live live refl (length-set s.words 0 new)
      (λ b h. subst (λ (m : ℕ). Leads (link_of heads ws) m (r.chain b)) (sym (get_or-set_other s.words 0 (head_word b) new 0 (λ q. omega arith)))
      (leads_same (link_of heads s.words) (link_of heads ws) (slice_index s.words (head_word b)) (r.chain b) (λ i on. link_same i) (r.leads b h)))
      r.inside r.once r.distinct (λ x. refl)
      (λ x. let d = drawn x in let p = piece_counts (length keys) cut t x r.some_cut small in
      let a : once_below x (min (slice_index s.words 0 * cut) (length keys)) ≡ once_below x (min (t * cut) (length keys)) = ap (λ (m : ℕ). once_below x (min (m * cut) (length keys))) hit in
      let b : once_below x (min (slice_index ws 0 * cut) (length keys)) ≡ once_below x (min ((t + 1) * cut) (length keys)) = ap (λ (m : ℕ). once_below x (min (m * cut) (length keys))) here in omega arith)
      (omega arith) (same_chains r.chain) (omega arith) (λ i u apart au lu bu. link_same u.flight.place)
      (record {
        same_keys = so.same_keys;
        same_heads = so.same_heads;
        same_cut = so.same_cut;
        seen = omega arith;
        tried = let h = so.tried in omega arith;
        within = λ x. let d = drawn x in let h = so.within x in omega arith;
        held = so.held;
        flight = λ e. absurd (let q : false ≡ true = sym (ap (λ f. f.busy) idle) ∙ e in cc);
      })

  pub tries_ticket : (n id : ℕ) (me : Me Unit View) (e new : ℕ) → me.0.spent ≡ false → me.0.flight ≡ no_flight → e ≡ me.0.seen → new ≡ e + 1 → e < pieces_of (length keys) cut
      → Allows Law n id me 0 (λ x. either (eqb x e) new x) (tried_ticket (step n 0 e new none) me)
  tries_ticket n id me e new live idle is_e is_new small s r wide at _ =
      let v = me.0 in let so = r.each id v at live in let x : ℕ = slice_index s.words 0 in
      let told : ℕ → Me Unit View → Type 0 = tried_ticket (step n 0 e new none) me in
      let all : pieces_of (length v.keys) v.cut ≡ pieces_of (length keys) cut = (λ i. pieces_of (length (so.same_keys i)) (so.same_cut i)) in
      exchanged x e new (λ y. (w : View) × (a : Act Unit) × Valid s.homes me.1 a × Law (stepped s 0 y id me.1 w a) × told x (w, carried_after me.1 a))
      (λ hit. (
        took v,
        keeps,
        tt,
        takes_now s r id v at live idle (hit ∙ is_e) (omega arith) new (is_new ∙ ap (λ (m : ℕ). m + 1) is_e),
        (
          so.tried,
          (λ _. (
            refl,
            λ y high.
                let t = total_at (λ (z : View). times y z.drawn) s.views id v at in let d = r.draws y in
                let c : v.seen * v.cut ≡ v.seen * cut = ap (λ (m : ℕ). v.seen * m) so.same_cut in
                let o : once_below y (min (ticket_of s.words * cut) (length keys)) ≡ once_below y (min (v.seen * cut) (length keys)) = ap (λ (m : ℕ). once_below y (min (m * cut) (length keys))) (hit ∙ is_e) in
                let b : once_below y (min (v.seen * cut) (length keys)) ≡ 0 = let q : ℕ = v.seen * cut in let low : min q (length keys) ≤ y = omega arith in grind (arith, nat_tests) in omega arith,
          )),
          λ ne. absurd (ne hit),
        ),
      ))
      (λ miss. (
        missed x v,
        keeps,
        tt,
        stays keys heads cut s r 0 id v (missed x v) at live live refl refl (λ y. refl) (record {
          same_keys = so.same_keys;
          same_heads = so.same_heads;
          same_cut = so.same_cut;
          seen = omega arith;
          tried = let h = so.tried in let g = so.seen in omega arith;
          within = so.within;
          held = so.held;
          flight = λ q. absurd (let z : false ≡ true = sym (ap (λ f. f.busy) idle) ∙ q in cc);
        }),
        (so.tried, (λ hit. absurd (miss hit)), λ _. (refl, (let g = so.seen in omega arith), let t = r.ticket in omega arith)),
      ))
