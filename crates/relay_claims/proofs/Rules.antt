-- A state after a step is lawful where these few facts hold.
use Rattle.std.proofs.Common.{◌≡◌, ◌≢◌, ℕ, ◌+◌, ◌*◌, ◌<◌, ◌≤◌, Bool, true, false, min, List, [], ◌∷◌, ◌++◌, length, set, slice_index, sym, refl, ap, ◌∙◌, subst, arith, ◌⊎◌, ⊎_elim, append_assoc}
use mathlib.Core.Option.{some}
use lib.ListN.{get_elem?}
use Rattle.atomic_table.specs.Table.{State}
use Rattle.atomic_table.proofs.Lists.{at_set}
use Rattle.relay_claims.specs.declared.view.View.{View}
use Rattle.relay_claims.specs.declared.view.Settled.{Settled}
use Rattle.relay_claims.specs.Counting.{times, IsIn, once_below}
use Rattle.relay_claims.specs.Round.{pieces_of, bucket_of, head_word, link_word, link_of}
use Rattle.relay_claims.specs.View.{won}
use Rattle.relay_claims.specs.Lawful.{Leads, CameFrom, IsOn, AreHeld, Flies, Sound, Lawful}
use Rattle.relay_claims.proofs.Counts.{total_set, times_append}

-- each chain is what it was, below what is new
abbrev pub Grows : (ℕ → List ℕ) → (ℕ → List ℕ) → Type 0
Grows chain to = (b : ℕ) → (extra : List ℕ) × (to b ≡ extra ++ chain b)

pub same_chains : (chain : ℕ → List ℕ) → Grows chain chain
same_chains chain b = ([], refl)

module _ (keys : List ℕ) (heads cut : ℕ) where
  still_on : (chain to : ℕ → List ℕ) → Grows chain to → (i : ℕ) → IsOn keys heads cut chain i → IsOn keys heads cut to i
  still_on chain to g i on = let b : ℕ = bucket_of keys heads i in let t = g b in
      let e : times i (to b) ≡ times i (t.0 ++ chain b) = ap (λ (l : List ℕ). times i l) t.1 in let h = times_append i t.0 (chain b) in omega arith

  pub still_held : (chain to : ℕ → List ℕ) → Grows chain to → (ps : List Settled) → AreHeld keys heads cut chain ps → AreHeld keys heads cut to ps
  still_held chain to g [] h = tt
  still_held chain to g (p ∷ ps) h = ((still_on chain to g p.holder h.0.0, h.0.1), still_held chain to g ps h.1)

  still_flies : (chain to : ℕ → List ℕ) (link links : ℕ → ℕ) (v : View) → Grows chain to → links v.flight.place ≡ link v.flight.place → Flies keys heads cut chain link v → Flies keys heads cut to links v
  still_flies chain to link links v g same f = let t = g (bucket_of keys heads v.flight.place) in record {
    newer = t.0 ++ f.newer;
    rest = f.rest;
    drawn = f.drawn;
    fresh = f.fresh;
    below = t.1 ∙ ap (λ (l : List ℕ). t.0 ++ l) f.below ∙ sym (append_assoc t.0 f.newer (v.flight.scanned ++ f.rest));
    expected = f.expected;
    next = f.next;
    other = f.other;
    stored = λ e. (same ∙ (f.stored e).0, (f.stored e).1);
    tries = f.tries;
  }

  -- a seat that takes no step stays sound
  pub still_sound : (chain to : ℕ → List ℕ) (t u : ℕ) (link links : ℕ → ℕ) (v : View) → Grows chain to → t ≤ u → (v.flight.busy ≡ true → links v.flight.place ≡ link v.flight.place)
      → Sound keys heads cut chain t link v → Sound keys heads cut to u links v
  still_sound chain to t u link links v g le same s = record {
    same_keys = s.same_keys;
    same_heads = s.same_heads;
    same_cut = s.same_cut;
    seen = let h = s.seen in omega arith;
    tried = s.tried;
    within = s.within;
    held = still_held chain to g v.settled s.held;
    flight = λ e. still_flies chain to link links v g (same e) (s.flight e);
  }

  abbrev pub St : Type 0
  St = State Unit View

  -- one seat steps, from the view v to w
  pub rebuilt : (s : St) (r : Lawful keys heads cut s) (ws : List ℕ) (to : ℕ → List ℕ) (id : ℕ) (v w : View)
      → get_elem? s.views id ≡ some v → v.spent ≡ false → w.spent ≡ false → w.position ≡ v.position
      → length ws ≡ length s.words
      → ((b : ℕ) → b < heads → Leads (link_of heads ws) (slice_index ws (head_word b)) (to b))
      → ((b i : ℕ) → b < heads → IsIn i (to b) → (i < length keys) × (bucket_of keys heads i ≡ b))
      → ((b i : ℕ) → b < heads → times i (to b) ≤ 1)
      → ((b i k : ℕ) → b < heads → IsIn i (to b) → IsIn k (to b) → slice_index keys i ≡ slice_index keys k → i ≡ k)
      → ((x : ℕ) → times x (won w) + times x (r.chain (bucket_of keys heads x)) ≡ times x (won v) + times x (to (bucket_of keys heads x)))
      → ((x : ℕ) → times x w.drawn + once_below x (min (slice_index s.words 0 * cut) (length keys)) ≡ times x v.drawn + once_below x (min (slice_index ws 0 * cut) (length keys)))
      → slice_index ws 0 ≤ pieces_of (length keys) cut
      → Grows r.chain to → slice_index s.words 0 ≤ slice_index ws 0
      → ((k : ℕ) (u : View) → k ≢ id → get_elem? s.views k ≡ some u → u.spent ≡ false → u.flight.busy ≡ true → slice_index ws (link_word heads u.flight.place) ≡ slice_index s.words (link_word heads u.flight.place))
      → Sound keys heads cut to (slice_index ws 0) (link_of heads ws) w
      → Lawful keys heads cut record { words = ws; homes = s.homes; views = set s.views id w }
  rebuilt s r ws to id v w at live live' pos long leads inside once distinct wins draws ticket grows later links sound =
      let views' : List View = set s.views id w in
      let seats : (k : ℕ) (u : View) → get_elem? views' k ≡ some u → ((k ≡ id) × (w ≡ u)) ⊎ ((k ≢ id) × (get_elem? s.views k ≡ some u)) = λ k u e. at_set s.views id k w u e in
      let before : (k : ℕ) (u : View) → get_elem? views' k ≡ some u → u.spent ≡ false → (o : View) × (get_elem? s.views k ≡ some o) × (o.spent ≡ false) × (u.position ≡ o.position) = λ k u e not_spent.
      ⊎_elim (λ h. (v, subst (λ (n : ℕ). get_elem? s.views n ≡ some v) (sym h.0) at, live, ap (λ (z : View). z.position) (sym h.1) ∙ pos)) (λ h. (u, h.1, not_spent, refl)) (seats k u e) in
      record {
        chain = to;
        some_head = r.some_head;
        some_cut = r.some_cut;
        wide = long ∙ r.wide;
        leads = leads;
        inside = inside;
        once = once;
        distinct = distinct;
        wins = λ x. let t = total_set (λ (z : View). times x (won z)) s.views id v w at in let o = r.wins x in let n = wins x in omega arith;
        draws = λ x. let t = total_set (λ (z : View). times x z.drawn) s.views id v w at in let o = r.draws x in let n = draws x in omega arith;
        ticket = ticket;
        each = λ k u e not_spent. ⊎_elim (λ h. subst (Sound keys heads cut to (slice_index ws 0) (link_of heads ws)) h.1 sound)
            (λ h. still_sound r.chain to (slice_index s.words 0) (slice_index ws 0) (link_of heads s.words) (link_of heads ws) u grows later (links k u h.0 h.1 not_spent) (r.each k u h.1 not_spent)) (seats k u e);
        empty = λ k u e is_spent. ⊎_elim (λ h. absurd (let q : true ≡ false = sym is_spent ∙ ap (λ (z : View). z.spent) (sym h.1) ∙ live' in cc)) (λ h. r.empty k u h.1 is_spent) (seats k u e);
        apart = λ k l u z e d nu nz c. let a = before k u e nu in let b = before l z d nz in
            r.apart k l a.0 b.0 a.1 b.1 a.2 b.2 (subst (λ (p : List Bool). CameFrom b.0.position p) a.3 (subst (λ (p : List Bool). CameFrom p u.position) b.3 c));
      }
