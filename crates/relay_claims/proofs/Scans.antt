-- A load of a link on the way down a chain.
use Rattle.std.proofs.Common.{◌≡◌, ◌≢◌, ℕ, suc, ◌+◌, ◌-◌, ◌%◌, ◌≤◌, Bool, true, false, cond, eqb, eq-eqb, ne_eqb, List, [], ◌∷◌, ◌++◌, length, slice_index, sym, refl, ap, ◌∙◌, subst, arith, append_assoc, length-append}
use Rattle.std.proofs.lemmas.Bool.Decides.{nat_tests}
use mathlib.Core.Option.{some, none}
use mathlib.Core.Logic.{dite}
use native.Mathlib.Decide.{ℕ_discrete}
use lib.ListN.{get_elem?}
use Rattle.atomic_table.specs.Table.{State, Me, keeps, Allows, step}
use Rattle.relay_claims.specs.declared.view.View.{View}
use Rattle.relay_claims.specs.declared.view.Settled.{Settled}
use Rattle.relay_claims.specs.Counting.{times, IsIn}
use Rattle.relay_claims.specs.Settled.{settled, places_of}
use Rattle.relay_claims.specs.Round.{bucket_of, head_word, link_word, link_of}
use Rattle.relay_claims.specs.View.{won, claimed, looked, settle, scan_on}
use Rattle.relay_claims.specs.Lawful.{word_of, Leads, key_of, IsOn, AreHeld, AreOther, Flies, Sound, Lawful}
use Rattle.relay_claims.specs.Steps.{saw_link}
use Rattle.relay_claims.proofs.Counts.{times_append, times_head, times_else}
use Rattle.relay_claims.proofs.Chains.{leads_at, word_small}
use Rattle.relay_claims.proofs.Looks.{stays, bucket_small, chain_short, off_chain, won_append, claimed_append}

pub in_append : (i : ℕ) (xs ys : List ℕ) → IsIn i (xs ++ i ∷ ys)
in_append i xs ys = let a = times_append i xs (i ∷ ys) in let b = times_head i ys in omega arith

nothing : (x : ℕ) (xs : List ℕ) → times x (xs ++ []) ≡ times x xs
nothing x xs = let h = times_append x xs [] in omega arith

module _ (keys : List ℕ) (heads cut : ℕ) where
  pub held_snoc : (chain : ℕ → List ℕ) (ps : List Settled) (p : Settled) → AreHeld keys heads cut chain ps → IsOn keys heads cut chain p.holder × (key_of keys heads cut p.holder ≡ key_of keys heads cut p.place) → AreHeld keys heads cut chain (ps ++ p ∷ [])
  held_snoc chain [] p h on = (on, tt)
  held_snoc chain (q ∷ ps) p h on = (h.0, held_snoc chain ps p h.1 on)

  other_snoc : (chain : ℕ → List ℕ) (j : ℕ) (is : List ℕ) (i : ℕ) → AreOther keys heads cut chain j is → slice_index keys i ≢ slice_index keys j → AreOther keys heads cut chain j (is ++ i ∷ [])
  other_snoc chain j [] i o n = (n, tt)
  other_snoc chain j (k ∷ is) i o n = (o.0, other_snoc chain j is i o.1 n)

  abbrev St : Type 0
  St = State Unit View

  abbrev Law : St → Type 0
  Law = Lawful keys heads cut

  first_of : (rest : List ℕ) (i : ℕ) → i + 1 ≡ word_of rest → (ys : List ℕ) × (rest ≡ i ∷ ys)
  first_of [] i e = absurd (omega arith)
  first_of (k ∷ ys) i e = (ys, let q : k ≡ i = omega arith in ap (λ (n : ℕ). n ∷ ys) q)

  -- the seat settles its place, where the place i on its chain has the key
  finds : (s : St) (r : Law s) (id : ℕ) (v : View) (i : ℕ) → get_elem? s.views id ≡ some v → v.spent ≡ false → Flies keys heads cut r.chain (link_of heads s.words) v
      → IsIn i (r.chain (bucket_of keys heads v.flight.place)) → slice_index keys i ≡ slice_index keys v.flight.place
      → ((x : ℕ) → times x (won (settle v.flight.place i v)) ≡ times x (won v)) × Sound keys heads cut r.chain (slice_index s.words 0) (link_of heads s.words) (settle v.flight.place i v)
  finds s r id v i at live f on key =
      let j : ℕ = v.flight.place in let so = r.each id v at live in let b : ℕ = bucket_of keys heads j in
      let off = off_chain keys heads cut s r id v j at f.drawn f.fresh in
      let apart : j ≢ i = λ e. let q : times i (r.chain b) ≡ times j (r.chain b) = ap (λ (n : ℕ). times n (r.chain b)) (sym e) in omega arith in
      let on' : IsOn keys heads cut r.chain i = subst (λ (k : ℕ). IsIn i (r.chain (k % heads))) (sym key) on in (
        (λ x. ap (λ (l : List ℕ). times x l) (won_append v.settled (settled j i ∷ []) ∙ ap (λ (b : Bool). won v ++ cond b (j ∷ []) []) (ne_eqb j i apart)) ∙ nothing x (won v)),
        record {
          same_keys = so.same_keys;
          same_heads = so.same_heads;
          same_cut = so.same_cut;
          seen = so.seen;
          tried = so.tried;
          within = λ x. let c : times x (places_of (v.settled ++ settled j i ∷ [])) ≡ times x (claimed v) + times x (j ∷ []) = ap (λ (l : List ℕ). times x l) (claimed_append v.settled (settled j i ∷ [])) ∙ times_append x (claimed v) (j ∷ []) in
              let h = so.within x in dite (ℕ_discrete x j)
              (λ e. let d : IsIn x v.drawn = subst (λ (n : ℕ). IsIn n v.drawn) (sym e) f.drawn in let fr : times x (claimed v) ≡ 0 = subst (λ (n : ℕ). times n (claimed v) ≡ 0) (sym e) f.fresh in
              let o : times x (j ∷ []) ≤ 1 = grind (arith, nat_tests) in omega arith)
              (λ n. let o = times_else x j [] n in omega arith);
          held = held_snoc r.chain v.settled (settled j i) so.held (on', key);
          flight = λ e. absurd (let q : false ≡ true = e in cc);
        },
      )

  goes_on : (s : St) (r : Law s) (id : ℕ) (v : View) (i : ℕ) (ys : List ℕ) → get_elem? s.views id ≡ some v → v.spent ≡ false → (f : Flies keys heads cut r.chain (link_of heads s.words) v)
      → f.rest ≡ i ∷ ys → slice_index keys i ≢ slice_index keys v.flight.place
      → Sound keys heads cut r.chain (slice_index s.words 0) (link_of heads s.words) (scan_on i (link_of heads s.words i) v)
  goes_on s r id v i ys at live f is key =
      let j : ℕ = v.flight.place in let so = r.each id v at live in let b : ℕ = bucket_of keys heads j in
      let whole : v.flight.scanned ++ f.rest ≡ (v.flight.scanned ++ i ∷ []) ++ ys = ap (λ (l : List ℕ). v.flight.scanned ++ l) is ∙ sym (append_assoc v.flight.scanned (i ∷ []) ys) in
      let below = f.below ∙ ap (λ (l : List ℕ). f.newer ++ l) whole in
      let down : r.chain b ≡ (f.newer ++ v.flight.scanned) ++ i ∷ ys = f.below ∙ ap (λ (l : List ℕ). f.newer ++ (v.flight.scanned ++ l)) is ∙ sym (append_assoc f.newer v.flight.scanned (i ∷ ys)) in
      let next : link_of heads s.words i ≡ word_of ys = leads_at (link_of heads s.words) (slice_index s.words (head_word b)) (f.newer ++ v.flight.scanned) i ys
      (subst (λ (l : List ℕ). Leads (link_of heads s.words) (slice_index s.words (head_word b)) l) down (r.leads b (bucket_small keys heads cut s r j))) in
      record {
        same_keys = so.same_keys;
        same_heads = so.same_heads;
        same_cut = so.same_cut;
        seen = so.seen;
        tried = so.tried;
        within = so.within;
        held = so.held;
        flight = λ e. record {
          newer = f.newer;
          rest = ys;
          drawn = f.drawn;
          fresh = f.fresh;
          below = below;
          expected = f.expected ∙ ap word_of whole;
          next = next;
          other = other_snoc r.chain j v.flight.scanned i f.other key;
          stored = λ st. absurd (let q : i ∷ ys ≡ [] = sym is ∙ (f.stored st).1 in cc);
          tries = subst (λ (l : List ℕ). v.claim_tries ≤ length l) whole f.tries;
        };
      }

  abbrev Fits : (s : St) (r : Law s) → View → View → Type 0
  Fits s r v u = (u.spent ≡ false) × (u.position ≡ v.position) × (u.drawn ≡ v.drawn) × ((y : ℕ) → times y (won u) ≡ times y (won v)) × Sound keys heads cut r.chain (slice_index s.words 0) (link_of heads s.words) u

  by_key : (s : St) (r : Law s) (id : ℕ) (v : View) (i : ℕ) (ys : List ℕ) → get_elem? s.views id ≡ some v → v.spent ≡ false → (f : Flies keys heads cut r.chain (link_of heads s.words) v)
      → f.rest ≡ i ∷ ys → IsIn i (r.chain (bucket_of keys heads v.flight.place)) → (c : Bool) → eqb (slice_index keys i) (slice_index keys v.flight.place) ≡ c
      → Fits s r v (cond c (settle v.flight.place i v) (scan_on i (link_of heads s.words i) v))
  by_key s r id v i ys at live f is on true e = let t = finds s r id v i at live f on (let q : slice_index keys i ≡ slice_index keys v.flight.place = grind (arith, nat_tests) in q) in (live, refl, refl, t.0, t.1)
  by_key s r id v i ys at live f is on false e = (live, refl, refl, (λ y. refl), goes_on s r id v i ys at live f is (λ q. let t = eq-eqb (slice_index keys i) (slice_index keys v.flight.place) q in let u : true ≡ false = sym t ∙ e in cc))

  pub sees_link : (n id : ℕ) (me : Me Unit View) (i k : ℕ) → me.0.spent ≡ false → me.0.flight.busy ≡ true → me.0.flight.next ≡ i + 1 → k ≡ link_word heads i
      → Allows Law n id me k (λ x. x) (saw_link (step n k 0 0 none) me)
  sees_link n id me i k live busy next is s r wide at _ =
      let v = me.0 in let j : ℕ = v.flight.place in let b : ℕ = bucket_of keys heads j in let small = bucket_small keys heads cut s r j in
      let so = r.each id v at live in let f = so.flight busy in let x : ℕ = slice_index s.words k in
      let first = first_of f.rest i (sym next ∙ f.next) in let ys = first.0 in
      let it : k - (1 + v.heads) ≡ i = let h = so.same_heads in omega arith in
      let w : View = looked (k - (1 + v.heads)) x v in
      let link : x ≡ link_of heads s.words i = ap (λ (m : ℕ). slice_index s.words m) is in
      let same_w : looked i (link_of heads s.words i) v ≡ w = λ p. looked (sym it p) (sym link p) v in
      let down : r.chain b ≡ (f.newer ++ v.flight.scanned) ++ i ∷ ys = f.below ∙ ap (λ (l : List ℕ). f.newer ++ (v.flight.scanned ++ l)) first.1 ∙ sym (append_assoc f.newer v.flight.scanned (i ∷ ys)) in
      let on : IsIn i (r.chain b) = subst (λ (l : List ℕ). IsIn i l) (sym down) (in_append i (f.newer ++ v.flight.scanned) ys) in
      let short = chain_short keys heads cut s r b small in let n_keys : length v.keys ≡ length keys = ap length so.same_keys in
      let len : length (r.chain b) ≡ length f.newer + (length v.flight.scanned + length f.rest) = ap length f.below ∙ length-append f.newer (v.flight.scanned ++ f.rest) ∙ ap (λ (m : ℕ). length f.newer + m) (length-append v.flight.scanned f.rest) in
      let len_rest : length f.rest ≡ suc (length ys) = ap length first.1 in
      let len_tail = length-append v.flight.scanned f.rest in let tries = f.tries in
      let low : x ≤ length keys = let e = leads_at (link_of heads s.words) (slice_index s.words (head_word b)) (f.newer ++ v.flight.scanned) i ys
      (subst (λ (l : List ℕ). Leads (link_of heads s.words) (slice_index s.words (head_word b)) l) down (r.leads b small)) in
      let g = word_small ys (length keys) (λ m o. (r.inside b m small (subst (λ (l : List ℕ). IsIn m l) (sym down) (let a = times_append m (f.newer ++ v.flight.scanned) (i ∷ ys) in omega arith))).0) in omega arith in
      let test : eqb (slice_index keys i) (slice_index keys j) ≡ eqb (slice_index v.keys i) (slice_index v.keys j) = ap (λ (l : List ℕ). eqb (slice_index l i) (slice_index l j)) (sym so.same_keys) in
      let off = off_chain keys heads cut s r id v j at f.drawn f.fresh in
      let p : Fits s r v w = subst (λ (u : View). Fits s r v u) same_w (by_key s r id v i ys at live f first.1 on (eqb (slice_index v.keys i) (slice_index v.keys j)) test) in
      (w, keeps, tt, stays keys heads cut s r k id v w at live p.0 p.1 p.2 p.3 p.4, (refl, omega arith, omega arith, omega arith, λ q. let z : times j (r.chain b) ≡ times i (r.chain b) = ap (λ (m : ℕ). times m (r.chain b)) (sym q ∙ it) in omega arith))
