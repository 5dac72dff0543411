-- The steps that only look: a load of a head, of a link, or of the ticket.
use Rattle.std.proofs.Common.{◌≡◌, ℕ, zero, suc, ◌*◌, ◌<◌, ◌≤◌, Bool, true, false, cond, eqb, min, List, [], ◌∷◌, ◌++◌, length, get_or, set, slice_index, sym, refl, ap, ◌∙◌, subst, arith, mod-lt}
use Rattle.std.proofs.lemmas.Bool.Decides.{nat_tests}
use mathlib.Core.Option.{some, none}
use lib.ListN.{get_elem?}
use Rattle.atomic_table.specs.Table.{State, Me, keeps, Allows, step}
use Rattle.relay_claims.specs.declared.view.View.{View}
use Rattle.relay_claims.specs.declared.view.Settled.{Settled}
use Rattle.relay_claims.specs.Counting.{times, IsIn, once_below}
use Rattle.relay_claims.specs.Settled.{won_of, places_of}
use Rattle.relay_claims.specs.Round.{pieces_of, bucket_of, head_word, ticket_of, link_of}
use Rattle.relay_claims.specs.View.{won, claimed, begun, saw_ticket, no_flight}
use Rattle.relay_claims.specs.Lawful.{word_of, Sound, Lawful}
use Rattle.relay_claims.specs.Steps.{saw_head, found_ticket}
use Rattle.relay_claims.proofs.Counts.{total_at, total_rest, few}
use Rattle.relay_claims.proofs.Chains.{leads_word, word_small}
use Rattle.relay_claims.proofs.Rules.{same_chains, rebuilt}

pub set_same : (l : List ℕ) (i : ℕ) → set l i (get_or l i 0) ≡ l
set_same [] i = refl
set_same (x ∷ xs) zero = refl
set_same (x ∷ xs) (suc i) = ap (λ (l : List ℕ). x ∷ l) (set_same xs i)

more : (b : Bool) (i : ℕ) (xs ys zs : List ℕ) → zs ≡ xs ++ ys → cond b (i ∷ zs) zs ≡ cond b (i ∷ xs) xs ++ ys
more true i xs ys zs e = ap (λ (l : List ℕ). i ∷ l) e
more false i xs ys zs e = e

less : (x i : ℕ) (b : Bool) (xs ys : List ℕ) → times x xs ≤ times x ys → times x (cond b (i ∷ xs) xs) ≤ times x (i ∷ ys)
less x i true xs ys h = omega arith
less x i false xs ys h = omega arith

pub won_append : (ps qs : List Settled) → won_of (ps ++ qs) ≡ won_of ps ++ won_of qs
won_append [] qs = refl
won_append (p ∷ ps) qs = more (eqb p.place p.holder) p.place (won_of ps) (won_of qs) (won_of (ps ++ qs)) (won_append ps qs)

pub claimed_append : (ps qs : List Settled) → places_of (ps ++ qs) ≡ places_of ps ++ places_of qs
claimed_append [] qs = refl
claimed_append (p ∷ ps) qs = ap (λ (l : List ℕ). p.place ∷ l) (claimed_append ps qs)

pub won_le : (x : ℕ) (ps : List Settled) → times x (won_of ps) ≤ times x (places_of ps)
won_le x [] = omega arith
won_le x (p ∷ ps) = less x p.place (eqb p.place p.holder) (won_of ps) (places_of ps) (won_le x ps)

module _ (keys : List ℕ) (heads cut : ℕ) where
  abbrev St : Type 0
  St = State Unit View

  abbrev Law : St → Type 0
  Law = Lawful keys heads cut

  -- a seat's new view, where no word changes
  pub stays : (s : St) (r : Law s) (i id : ℕ) (v w : View) → get_elem? s.views id ≡ some v → v.spent ≡ false → w.spent ≡ false → w.position ≡ v.position → w.drawn ≡ v.drawn
      → ((x : ℕ) → times x (won w) ≡ times x (won v)) → Sound keys heads cut r.chain (slice_index s.words 0) (link_of heads s.words) w
      → Law record { words = set s.words i (slice_index s.words i); homes = s.homes; views = set s.views id w }
  stays s r i id v w at live live' pos drawn same sound = subst (λ (ws : List ℕ). Law record { words = ws; homes = s.homes; views = set s.views id w }) (sym (set_same s.words i))
      (rebuilt keys heads cut s r s.words r.chain id v w at live live' pos refl r.leads r.inside r.once r.distinct
      (λ x. let h = same x in omega arith)
      (λ x. let h : times x w.drawn ≡ times x v.drawn = ap (λ (l : List ℕ). times x l) drawn in omega arith)
      r.ticket (same_chains r.chain) (omega arith) (λ k u n e l b. refl) sound)

  pub bucket_small : (s : St) (r : Law s) (i : ℕ) → bucket_of keys heads i < heads
  bucket_small s r i = mod-lt (slice_index keys i) r.some_head

  pub chain_short : (s : St) (r : Law s) (b : ℕ) → b < heads → length (r.chain b) ≤ length keys
  chain_short s r b h = few (length keys) (r.chain b) (λ x. r.once b x h) (λ x i. (r.inside b x h i).0)

  pub place_small : (s : St) (r : Law s) (id : ℕ) (v : View) (x : ℕ) → get_elem? s.views id ≡ some v → IsIn x v.drawn → x < length keys
  place_small s r id v x at i = let h = total_at (λ (z : View). times x z.drawn) s.views id v at in let d = r.draws x in
      let o : 0 < once_below x (min (ticket_of s.words * cut) (length keys)) = omega arith in grind (arith, nat_tests)

  won_drawn : (s : St) (r : Law s) (x k : ℕ) (u : View) → get_elem? s.views k ≡ some u → (b : Bool) → u.spent ≡ b → times x (won u) ≤ times x u.drawn
  won_drawn s r x k u e true is = let h : times x (won u) ≡ 0 = ap (λ (l : List Settled). times x (won_of l)) (r.empty k u e is).1 in omega arith
  won_drawn s r x k u e false is = let h = (r.each k u e is).within x in let g = won_le x u.settled in omega arith

  -- a place that its seat has not settled is on no chain
  pub off_chain : (s : St) (r : Law s) (id : ℕ) (v : View) (x : ℕ) → get_elem? s.views id ≡ some v → IsIn x v.drawn → times x (claimed v) ≡ 0 → times x (r.chain (bucket_of keys heads x)) ≡ 0
  off_chain s r id v x at i fresh =
      let t = total_rest (λ (z : View). times x z.drawn) (λ (z : View). times x (won z)) s.views id v (λ k u e. won_drawn s r x k u e u.spent refl) at in
      let g = won_le x v.settled in let d = r.draws x in let w = r.wins x in
      let o : once_below x (min (ticket_of s.words * cut) (length keys)) ≤ 1 = grind (arith, nat_tests) in omega arith

  pub sees_head : (n id : ℕ) (me : Me Unit View) (j k : ℕ) → me.0.spent ≡ false → IsIn j me.0.drawn → times j (claimed me.0) ≡ 0 → k ≡ head_word (bucket_of keys heads j)
      → Allows Law n id me k (λ x. x) (saw_head j (step n k 0 0 none) me)
  sees_head n id me j k live drawn fresh is s r wide at _ =
      let v = me.0 in let x : ℕ = slice_index s.words k in let w : View = begun j x v in let b : ℕ = bucket_of keys heads j in let small = bucket_small s r j in
      let so = r.each id v at live in
      let word : x ≡ word_of (r.chain b) = ap (λ (i : ℕ). slice_index s.words i) is ∙ leads_word (link_of heads s.words) (slice_index s.words (head_word b)) (r.chain b) (r.leads b small) in (
        w,
        keeps,
        tt,
        stays s r k id v w at live live refl refl (λ y. refl) (record {
          same_keys = so.same_keys;
          same_heads = so.same_heads;
          same_cut = so.same_cut;
          seen = so.seen;
          tried = so.tried;
          within = so.within;
          held = so.held;
          flight = λ e. record {
            newer = [];
            rest = r.chain b;
            drawn = drawn;
            fresh = fresh;
            below = refl;
            expected = word;
            next = word;
            other = tt;
            stored = λ f. absurd (let q : false ≡ true = f in cc);
            tries = omega arith;
          };
        }),
        (refl, let h = word_small (r.chain b) (length keys) (λ i on. (r.inside b i small on).0) in let l : length v.keys ≡ length keys = ap length so.same_keys in omega arith),
      )

  pub sees_ticket : (n id : ℕ) (me : Me Unit View) → me.0.spent ≡ false → me.0.flight ≡ no_flight → Allows Law n id me 0 (λ x. x) (found_ticket (step n 0 0 0 none) me)
  sees_ticket n id me live idle s r wide at _ =
      let v = me.0 in let x : ℕ = slice_index s.words 0 in let w : View = saw_ticket x v in let so = r.each id v at live in (
        w,
        keeps,
        tt,
        stays s r 0 id v w at live live refl refl (λ y. refl) (record {
          same_keys = so.same_keys;
          same_heads = so.same_heads;
          same_cut = so.same_cut;
          seen = omega arith;
          tried = omega arith;
          within = so.within;
          held = so.held;
          flight = λ e. absurd (let q : false ≡ true = sym (ap (λ f. f.busy) idle) ∙ e in cc);
        }),
        (refl, so.seen, (let t = r.ticket in let l : pieces_of (length v.keys) v.cut ≡ pieces_of (length keys) cut = (λ i. pieces_of (length (so.same_keys i)) (so.same_cut i)) in omega arith)),
      )
