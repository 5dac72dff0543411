-- Making, splitting and joining seats.
use Rattle.std.proofs.Common.{◌≡◌, ◌≢◌, ℕ, zero, suc, ◌+◌, ◌*◌, ◌<◌, Bool, true, false, cond, min, List, [], ◌∷◌, ◌++◌, length, replicate, get_or, set, slice_index, sym, refl, ap, ◌∙◌, subst, arith, ◌⊎◌, inl, inr, ⊎_elim, length-set}
use Rattle.std.proofs.lemmas.Bool.Decides.{nat_tests}
use Rattle.std.proofs.lemmas.List.{get_or-replicate}
use mathlib.Core.Option.{some, some-injective, some-ne-none}
use lib.ListN.{get_elem?, length-replicate}
use Rattle.atomic_table.specs.Table.{State, Splits, Joins, opening}
use Rattle.atomic_table.proofs.Lists.{at_set, set_else}
use Rattle.relay_claims.specs.declared.view.View.{View}
use Rattle.relay_claims.specs.declared.view.Settled.{Settled}
use Rattle.relay_claims.specs.Counting.{times, once_below}
use Rattle.relay_claims.specs.Round.{head_word, link_of}
use Rattle.relay_claims.specs.View.{won, claimed, left_view, right_view, both_views, back, spent_view, new_view, no_flight}
use Rattle.relay_claims.specs.Lawful.{CameFrom, AreHeld, Sound, Lawful}
use Rattle.relay_claims.proofs.Counts.{total_set, total_snoc, times_append}
use Rattle.relay_claims.proofs.Chains.{came_up, came_split, came_down, came_apart}
use Rattle.relay_claims.proofs.Looks.{won_append, claimed_append}

at_end : {A : Type 0} (l : List A) (a b : A) (k : ℕ) → get_elem? (l ++ a ∷ []) k ≡ some b → (get_elem? l k ≡ some b) ⊎ ((k ≡ length l) × (a ≡ b))
at_end [] a b zero e = inr (refl, some-injective a b e)
at_end [] a b (suc k) e = absurd (some-ne-none b (sym e))
at_end (x ∷ xs) a b zero e = inl e
at_end (x ∷ xs) a b (suc k) e = ⊎_elim (λ h. inl h) (λ h. inr (ap suc h.0, h.1)) (at_end xs a b k e)

only : {A : Type 0} (a : A) (k : ℕ) (v : A) → get_elem? (a ∷ []) k ≡ some v → (P : A → Type 0) → P a → P v
only a zero v e P p = subst P (some-injective a v e) p
only a (suc k) v e P p = absurd (some-ne-none v (sym e))

sole : {A : Type 0} (a : A) (k : ℕ) (v : A) → get_elem? (a ∷ []) k ≡ some v → k ≡ 0
sole a zero v e = refl
sole a (suc k) v e = absurd (some-ne-none v (sym e))

module _ (keys : List ℕ) (heads cut : ℕ) where
  abbrev St : Type 0
  St = State Unit View

  abbrev Law : St → Type 0
  Law = Lawful keys heads cut

  pub opens : 0 < heads → 0 < cut → (ws : List ℕ) → ws ≡ replicate (1 + heads + length keys) 0 → Law (opening ws [] (new_view keys heads cut [] 0))
  opens h c ws is = let start : View = new_view keys heads cut [] 0 in let nought : (i : ℕ) → i < 1 + heads + length keys → slice_index ws i ≡ 0 = λ i l. ap (λ (x : List ℕ). get_or x i 0) is ∙ get_or-replicate (1 + heads + length keys) i 0 0 l in record {
    chain = λ b. [];
    some_head = h;
    some_cut = c;
    wide = ap length is ∙ length-replicate (1 + heads + length keys) 0;
    leads = λ b l. nought (head_word b) (omega arith);
    inside = λ b i l on. absurd (omega arith);
    once = λ b i l. omega arith;
    distinct = λ b i k l on. absurd (omega arith);
    wins = λ x. refl;
    draws = λ x. let z = nought 0 (omega arith) in let o : once_below x (min (slice_index ws 0 * cut) (length keys)) ≡ once_below x (min (0 * cut) (length keys)) = ap (λ (t : ℕ). once_below x (min (t * cut) (length keys))) z in
        let q : once_below x (min (0 * cut) (length keys)) ≡ 0 = grind (arith, nat_tests) in omega arith;
    ticket = let z = nought 0 (omega arith) in omega arith;
    each = λ k v e live. only start k v e (λ u. Sound keys heads cut (λ b. []) (slice_index ws 0) (link_of heads ws) u) (record {
      same_keys = refl;
      same_heads = refl;
      same_cut = refl;
      seen = omega arith;
      tried = omega arith;
      within = λ x. omega arith;
      held = tt;
      flight = λ q. absurd (let z : false ≡ true = q in cc);
    });
    empty = λ k v e dead. only start k v e (λ u. (u.drawn ≡ []) × (u.settled ≡ [])) (refl, refl);
    apart = λ k l v w e d lv lw came. sole start k v e ∙ sym (sole start l w d);
  }

  -- a half of the view v, which stood at id, or another seat
  abbrev Half : St → ℕ → View → ℕ → View → Type 0
  Half s id v k u = (x : Bool) × (u.position ≡ x ∷ v.position) × (k ≡ cond x (length s.views) id)

  pub splits : (id : ℕ) (v : View) → v.spent ≡ false → v.flight ≡ no_flight → Splits Law id v (left_view v) (right_view v)
  splits id v live idle s r at =
      let l : View = left_view v in let m : View = right_view v in let so = r.each id v at live in let vs : List View = set s.views id l in
      let seats : (k : ℕ) (u : View) → get_elem? (vs ++ m ∷ []) k ≡ some u → (((k ≢ id) × (get_elem? s.views k ≡ some u)) ⊎ ((k ≡ id) × (l ≡ u))) ⊎ ((k ≡ length s.views) × (m ≡ u)) = λ k u e.
      ⊎_elim (λ h. inl (⊎_elim (λ g. inr g) (λ g. inl g) (at_set s.views id k l u h))) (λ h. inr (h.0 ∙ length-set s.views id l, h.1)) (at_end vs m u k e) in
      let kinds : (k : ℕ) (u : View) → get_elem? (vs ++ m ∷ []) k ≡ some u → ((k ≢ id) × (get_elem? s.views k ≡ some u)) ⊎ Half s id v k u = λ k u e.
      ⊎_elim (λ h. ⊎_elim (λ g. inl g) (λ g. inr (false, ap (λ (z : View). z.position) (sym g.1), g.0)) h) (λ h. inr (true, ap (λ (z : View). z.position) (sym h.1), h.0)) (seats k u e) in
      record {
        chain = r.chain;
        some_head = r.some_head;
        some_cut = r.some_cut;
        wide = r.wide;
        leads = r.leads;
        inside = r.inside;
        once = r.once;
        distinct = r.distinct;
        wins = λ x. let a = total_snoc (λ (z : View). times x (won z)) vs m in let t = total_set (λ (z : View). times x (won z)) s.views id v l at in let o = r.wins x in omega arith;
        draws = λ x. let a = total_snoc (λ (z : View). times x z.drawn) vs m in let t = total_set (λ (z : View). times x z.drawn) s.views id v l at in let o = r.draws x in omega arith;
        ticket = r.ticket;
        each = λ k u e lu. let P : View → Type 0 = Sound keys heads cut r.chain (slice_index s.words 0) (link_of heads s.words) in ⊎_elim
            (λ h. ⊎_elim (λ g. r.each k u g.1 lu) (λ g. subst P g.1 (record {
              same_keys = so.same_keys;
              same_heads = so.same_heads;
              same_cut = so.same_cut;
              seen = so.seen;
              tried = so.tried;
              within = so.within;
              held = so.held;
              flight = λ q. absurd (let z : false ≡ true = sym (ap (λ f. f.busy) idle) ∙ q in cc);
            })) h)
            (λ h. subst P h.1 (record {
              same_keys = so.same_keys;
              same_heads = so.same_heads;
              same_cut = so.same_cut;
              seen = so.seen;
              tried = omega arith;
              within = λ x. omega arith;
              held = tt;
              flight = λ q. absurd (let z : false ≡ true = q in cc);
            })) (seats k u e);
        empty = λ k u e dead. ⊎_elim
            (λ h. ⊎_elim (λ g. r.empty k u g.1 dead) (λ g. absurd (let z : true ≡ false = sym dead ∙ ap (λ (y : View). y.spent) (sym g.1) ∙ live in cc)) h)
            (λ h. absurd (let z : true ≡ false = sym dead ∙ ap (λ (y : View). y.spent) (sym h.1) in cc)) (seats k u e);
        apart = λ k n u z e d lu lz came. ⊎_elim
            (λ a. ⊎_elim (λ b. r.apart k n u z a.1 b.1 lu lz came)
            (λ b. let c : CameFrom (b.0 ∷ v.position) u.position = subst (λ (p : List Bool). CameFrom p u.position) b.1 came in ⊎_elim
            (λ h. absurd (a.0 (r.apart k id u v a.1 at lu live h)))
            (λ h. absurd (a.0 (sym (r.apart id k v u at a.1 live lu (b.0 ∷ [], h))))) (came_split b.0 v.position u.position c)) (kinds n z d))
            (λ a. let c : CameFrom z.position (a.0 ∷ v.position) = subst (λ (p : List Bool). CameFrom z.position p) a.1 came in ⊎_elim
            (λ b. absurd (b.0 (sym (r.apart id n v z at b.1 live lz (came_up z.position a.0 v.position c)))))
            (λ b. let q = came_apart a.0 b.0 v.position (subst (λ (p : List Bool). CameFrom p (a.0 ∷ v.position)) b.1 c) in a.2 ∙ ap (λ (x : Bool). cond x (length s.views) id) q ∙ sym b.2) (kinds n z d)) (kinds k u e);
      }

  held_append : (chain : ℕ → List ℕ) (ps qs : List Settled) → AreHeld keys heads cut chain ps → AreHeld keys heads cut chain qs → AreHeld keys heads cut chain (ps ++ qs)
  held_append chain [] qs h g = g
  held_append chain (p ∷ ps) qs h g = (h.0, held_append chain ps qs h.1 g)

  -- a seat that came from a half of p is one of the two
  by_half : {s : St} (r : Law s) (id : ℕ) (v : View) (other : ℕ) (w : View) (p : List Bool) (n : ℕ) (z : View) → get_elem? s.views id ≡ some v → get_elem? s.views other ≡ some w → v.spent ≡ false → w.spent ≡ false
      → v.position ≡ false ∷ p → w.position ≡ true ∷ p → z.spent ≡ false → (n ≢ id) × (n ≢ other) × (get_elem? s.views n ≡ some z) → (x : Bool) → CameFrom z.position (x ∷ p) → id ≡ n
  by_half r id v other w p n z at at_w live live_w first second lz o true came = absurd (o.1 (sym (r.apart other n w z at_w o.2 live_w lz (subst (λ (q : List Bool). CameFrom z.position q) (sym second) came))))
  by_half r id v other w p n z at at_w live live_w first second lz o false came = absurd (o.0 (sym (r.apart id n v z at o.2 live lz (subst (λ (q : List Bool). CameFrom z.position q) (sym first) came))))

  pub joins : (id : ℕ) (v : View) (other : ℕ) (w : View) (p : List Bool) → v.spent ≡ false → v.flight ≡ no_flight → w.spent ≡ false → v.position ≡ false ∷ p → w.position ≡ true ∷ p
      → Joins Law id v other w (both_views v w) spent_view
  joins id v other w p live idle live_w first second s r at apart at' =
      let b : View = both_views v w in let at_w : get_elem? s.views other ≡ some w = sym (set_else s.views id other b apart) ∙ at' in
      let so = r.each id v at live in let sw = r.each other w at_w live_w in let vs : List View = set s.views id b in
      let seats : (k : ℕ) (u : View) → get_elem? (set vs other spent_view) k ≡ some u → (((k ≢ id) × (k ≢ other) × (get_elem? s.views k ≡ some u)) ⊎ ((k ≡ id) × (b ≡ u))) ⊎ ((k ≡ other) × (spent_view ≡ u)) = λ k u e.
      ⊎_elim (λ h. inr h) (λ h. inl (⊎_elim (λ g. inr g) (λ g. inl (g.0, h.0, g.1)) (at_set s.views id k b u h.1))) (at_set vs other k spent_view u e) in
      let dead_is : (u : View) → spent_view ≡ u → u.spent ≡ true = λ u e. ap (λ (y : View). y.spent) (sym e) in
      let top : b.position ≡ p = ap (λ (q : List Bool). back q) first in
      record {
        chain = r.chain;
        some_head = r.some_head;
        some_cut = r.some_cut;
        wide = r.wide;
        leads = r.leads;
        inside = r.inside;
        once = r.once;
        distinct = r.distinct;
        wins = λ x. let a = total_set (λ (z : View). times x (won z)) s.views id v b at in let t = total_set (λ (z : View). times x (won z)) vs other w spent_view at' in let o = r.wins x in
            let c : times x (won b) ≡ times x (won v) + times x (won w) = ap (λ (l : List ℕ). times x l) (won_append v.settled w.settled) ∙ times_append x (won v) (won w) in omega arith;
        draws = λ x. let a = total_set (λ (z : View). times x z.drawn) s.views id v b at in let t = total_set (λ (z : View). times x z.drawn) vs other w spent_view at' in let o = r.draws x in
            let c = times_append x v.drawn w.drawn in omega arith;
        ticket = r.ticket;
        each = λ k u e lu. ⊎_elim
            (λ h. ⊎_elim (λ g. r.each k u g.2 lu) (λ g. subst (Sound keys heads cut r.chain (slice_index s.words 0) (link_of heads s.words)) g.1 (record {
              same_keys = so.same_keys;
              same_heads = so.same_heads;
              same_cut = so.same_cut;
              seen = let x = so.seen in let y = sw.seen in omega arith;
              tried = let x = so.tried in omega arith;
              within = λ x. let c = times_append x v.drawn w.drawn in let d : times x (claimed b) ≡ times x (claimed v) + times x (claimed w) = ap (λ (l : List ℕ). times x l) (claimed_append v.settled w.settled) ∙ times_append x (claimed v) (claimed w) in
                  let e = so.within x in let f = sw.within x in omega arith;
              held = held_append r.chain v.settled w.settled so.held sw.held;
              flight = λ q. absurd (let z : false ≡ true = sym (ap (λ f. f.busy) idle) ∙ q in cc);
            })) h)
            (λ h. absurd (let z : true ≡ false = sym (dead_is u h.1) ∙ lu in cc)) (seats k u e);
        empty = λ k u e dead. ⊎_elim
            (λ h. ⊎_elim (λ g. r.empty k u g.2 dead) (λ g. absurd (let z : true ≡ false = sym dead ∙ ap (λ (y : View). y.spent) (sym g.1) ∙ live in cc)) h)
            (λ h. subst (λ (z : View). (z.drawn ≡ []) × (z.settled ≡ [])) h.1 (refl, refl)) (seats k u e);
        apart = λ k n u z e d lu lz came. ⊎_elim
            (λ a. ⊎_elim
            (λ a1. ⊎_elim
            (λ c. ⊎_elim (λ c1. r.apart k n u z a1.2 c1.2 lu lz came)
            (λ c1. let came_p : CameFrom p u.position = subst (λ (q : List Bool). CameFrom q u.position) (ap (λ (y : View). y.position) (sym c1.1) ∙ top) came in
            absurd (a1.0 (r.apart k id u v a1.2 at lu live (false ∷ came_p.0, first ∙ ap (λ (q : List Bool). false ∷ q) came_p.1)))) c)
            (λ c. absurd (let q : true ≡ false = sym (dead_is z c.1) ∙ lz in cc)) (seats n z d))
            (λ a1. ⊎_elim
            (λ c. ⊎_elim
            (λ c1. let came_p : CameFrom z.position p = subst (λ (q : List Bool). CameFrom z.position q) (ap (λ (y : View). y.position) (sym a1.1) ∙ top) came in ⊎_elim
            (λ h. absurd (c1.0 (r.apart n id z v c1.2 at lz live (false ∷ [], first ∙ ap (λ (q : List Bool). false ∷ q) (sym h)))))
            (λ h. a1.0 ∙ by_half r id v other w p n z at at_w live live_w first second lz c1 h.0 h.1) (came_down z.position p came_p))
            (λ c1. a1.0 ∙ sym c1.0) c)
            (λ c. absurd (let q : true ≡ false = sym (dead_is z c.1) ∙ lz in cc)) (seats n z d)) a)
            (λ a. absurd (let q : true ≡ false = sym (dead_is u a.1) ∙ lu in cc)) (seats k u e);
      }
