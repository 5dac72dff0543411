-- The store of a link, and the exchange that puts a place on its chain.
use Rattle.std.proofs.Common.{◌≡◌, ◌≢◌, ℕ, suc, ◌+◌, ◌*◌, ◌<◌, ◌≤◌, Bool, true, false, cond, eqb, eq-eqb, ne_eqb, min, List, [], ◌∷◌, ◌++◌, length, get_or, set, slice_index, sym, refl, ap, ◌∙◌, subst, arith, ◌⊎◌, inl, inr, ⊎_elim, append-nil, length-set, get_or-set_other, get_or-set_same}
use Rattle.std.proofs.lemmas.Bool.Decides.{nat_tests}
use mathlib.Core.Option.{some, none}
use mathlib.Core.Logic.{dite}
use native.Mathlib.Decide.{ℕ_discrete}
use prog.Atomic.{either}
use lib.ListN.{get_elem?}
use Rattle.atomic_table.specs.Table.{State, Me, Act, keeps, Allows, Valid, carried_after, stepped, step}
use Rattle.atomic_table.proofs.Lists.{exchanged}
use Rattle.relay_claims.specs.declared.view.View.{View}
use Rattle.relay_claims.specs.declared.view.Settled.{Settled}
use Rattle.relay_claims.specs.Counting.{times, IsIn, once_below}
use Rattle.relay_claims.specs.Settled.{settled, places_of}
use Rattle.relay_claims.specs.Round.{bucket_of, head_word, link_word, ticket_of, link_of}
use Rattle.relay_claims.specs.View.{won, linked, put_on, again}
use Rattle.relay_claims.specs.Lawful.{word_of, Leads, AreOther, Flies, Lawful}
use Rattle.relay_claims.specs.Steps.{stored_link, tried_head}
use Rattle.relay_claims.proofs.Counts.{total_two, times_append, times_head, times_else, few}
use Rattle.relay_claims.proofs.Chains.{leads_word, leads_same, word_small, word_none, no_newer, longer}
use Rattle.relay_claims.proofs.Rules.{Grows, same_chains, rebuilt, still_held}
use Rattle.relay_claims.proofs.Looks.{stays, bucket_small, chain_short, place_small, off_chain, won_append, claimed_append}
use Rattle.relay_claims.proofs.Scans.{held_snoc}

-- the place j is put on the chain of the bucket b
abbrev pushed : (ℕ → List ℕ) → ℕ → ℕ → ℕ → List ℕ
pushed chain b j c = cond (eqb c b) (j ∷ chain c) (chain c)

pushed_here : (chain : ℕ → List ℕ) (b j c : ℕ) → c ≡ b → pushed chain b j c ≡ j ∷ chain c
pushed_here chain b j c e = ap (λ (t : Bool). cond t (j ∷ chain c) (chain c)) (eq-eqb c b e)

pushed_else : (chain : ℕ → List ℕ) (b j c : ℕ) → c ≢ b → pushed chain b j c ≡ chain c
pushed_else chain b j c n = ap (λ (t : Bool). cond t (j ∷ chain c) (chain c)) (ne_eqb c b n)

pushed_grows : (chain : ℕ → List ℕ) (b j : ℕ) → Grows chain (pushed chain b j)
pushed_grows chain b j c = dite (ℕ_discrete c b) (λ e. (j ∷ [], pushed_here chain b j c e)) (λ n. ([], pushed_else chain b j c n))

at_most_one : (x j : ℕ) → times x (j ∷ []) ≤ 1
at_most_one x j = grind (arith, nat_tests)

pub within_more : (x j i : ℕ) (ps : List Settled) (drawn : List ℕ) → times x (places_of ps) ≤ times x drawn → IsIn j drawn → times j (places_of ps) ≡ 0 → times x (places_of (ps ++ settled j i ∷ [])) ≤ times x drawn
within_more x j i ps drawn le on fresh =
    let c : times x (places_of (ps ++ settled j i ∷ [])) ≡ times x (places_of ps) + times x (j ∷ []) = ap (λ (l : List ℕ). times x l) (claimed_append ps (settled j i ∷ [])) ∙ times_append x (places_of ps) (j ∷ []) in
    dite (ℕ_discrete x j)
    (λ e. let d : IsIn x drawn = subst (λ (n : ℕ). IsIn n drawn) (sym e) on in let f : times x (places_of ps) ≡ 0 = subst (λ (n : ℕ). times n (places_of ps) ≡ 0) (sym e) fresh in let o = at_most_one x j in omega arith)
    (λ n. let o = times_else x j [] n in omega arith)

-- what a list has in front, or behind
in_cons : (x j : ℕ) (xs : List ℕ) → IsIn x (j ∷ xs) → (x ≡ j) ⊎ IsIn x xs
in_cons x j xs i = dite (ℕ_discrete x j) (λ e. inl e) (λ n. inr (let h = times_else x j xs n in omega arith))

module _ (keys : List ℕ) (heads cut : ℕ) where
  abbrev St : Type 0
  St = State Unit View

  abbrev Law : St → Type 0
  Law = Lawful keys heads cut

  other_at : (chain : ℕ → List ℕ) (j : ℕ) (is : List ℕ) (i : ℕ) → AreOther keys heads cut chain j is → IsIn i is → slice_index keys i ≢ slice_index keys j
  other_at chain j [] i o on = absurd (omega arith)
  other_at chain j (k ∷ is) i o on = ⊎_elim (λ e. subst (λ (n : ℕ). slice_index keys n ≢ slice_index keys j) (sym e) o.0) (λ h. other_at chain j is i o.1 h) (in_cons i k is on)

  pub stores_link : (n id : ℕ) (me : Me Unit View) (k e : ℕ) → me.0.spent ≡ false → me.0.flight.busy ≡ true → me.0.flight.next ≡ 0 → e ≡ me.0.flight.expected → k ≡ link_word heads me.0.flight.place
      → Allows Law n id me k (λ _. e) (λ _. stored_link (step n k e 0 none) me e)
  stores_link n id me k e live busy next is_e is s r wide at _ =
      let v = me.0 in let j : ℕ = v.flight.place in let so = r.each id v at live in let f = so.flight busy in let w : View = linked v in
      let ws : List ℕ = set s.words k e in let link : ℕ → ℕ = link_of heads s.words in let links : ℕ → ℕ = link_of heads ws in
      let off = off_chain keys heads cut s r id v j at f.drawn f.fresh in
      let small : j < length keys = place_small keys heads cut s r id v j at f.drawn in
      let none_left : f.rest ≡ [] = word_none f.rest (sym f.next ∙ next) in
      let zero_same : slice_index ws 0 ≡ slice_index s.words 0 = get_or-set_other s.words k 0 e 0 (λ q. omega arith) in
      let else_same : (i : ℕ) → i ≢ j → links i ≡ link i = λ i d. get_or-set_other s.words k (link_word heads i) e 0 (λ q. d (omega arith)) in
      let head_same : (b : ℕ) → b < heads → slice_index ws (head_word b) ≡ slice_index s.words (head_word b) = λ b h. get_or-set_other s.words k (head_word b) e 0 (λ q. omega arith) in
      let here : links j ≡ e = subst (λ (m : ℕ). get_or (set s.words k e) m 0 ≡ e) is (get_or-set_same s.words k e 0 (let h = r.wide in omega arith)) in
      let law : Law record { words = ws; homes = s.homes; views = set s.views id w } = rebuilt keys heads cut s r ws r.chain id v w at live live refl (length-set s.words k e)
      (λ b h. subst (λ (m : ℕ). Leads links m (r.chain b)) (sym (head_same b h))
      (leads_same link links (slice_index s.words (head_word b)) (r.chain b)
      (λ i on. else_same i (λ q. let m : times j (r.chain b) ≡ times i (r.chain b) = ap (λ (z : ℕ). times z (r.chain b)) (sym q) in
      let bk : bucket_of keys heads j ≡ b = ap (λ (z : ℕ). bucket_of keys heads z) (sym q) ∙ (r.inside b i h on).1 in
      let o : times j (r.chain b) ≡ 0 = subst (λ (z : ℕ). times j (r.chain z) ≡ 0) bk off in omega arith)) (r.leads b h)))
      r.inside r.once r.distinct (λ x. refl)
      (λ x. ap (λ (t : ℕ). times x v.drawn + once_below x (min (t * cut) (length keys))) (sym zero_same))
      (let t = r.ticket in omega arith) (same_chains r.chain) (omega arith)
      (λ i u apart au lu bu. else_same u.flight.place (λ q.
      let uf = (r.each i u au lu).flight bu in let two = total_two (λ (z : View). times j z.drawn) s.views id i v u apart at au in let d = r.draws j in
      let on : IsIn j u.drawn = subst (λ (z : ℕ). IsIn z u.drawn) q uf.drawn in let mine = f.drawn in
      let o : once_below j (min (ticket_of s.words * cut) (length keys)) ≤ 1 = grind (arith, nat_tests) in omega arith))
      (record {
        same_keys = so.same_keys;
        same_heads = so.same_heads;
        same_cut = so.same_cut;
        seen = let h = so.seen in omega arith;
        tried = so.tried;
        within = so.within;
        held = so.held;
        flight = λ b. record {
          newer = f.newer;
          rest = f.rest;
          drawn = f.drawn;
          fresh = f.fresh;
          below = f.below;
          expected = f.expected;
          next = f.next;
          other = f.other;
          stored = λ t. (here ∙ is_e, none_left);
          tries = f.tries;
        };
      }) in
      (w, keeps, tt, law, refl)

  -- the exchange finds the head that was expected: the place goes on its chain, and the claim has tried less than there are places
  wins_now : (s : St) (r : Law s) (id : ℕ) (v : View) → get_elem? s.views id ≡ some v → v.spent ≡ false → (f : Flies keys heads cut r.chain (link_of heads s.words) v) → (k new : ℕ)
      → k ≡ head_word (bucket_of keys heads v.flight.place) → new ≡ v.flight.place + 1 → (link_of heads s.words v.flight.place ≡ v.flight.expected) × (f.rest ≡ []) → slice_index s.words k ≡ v.flight.expected
      → Law record { words = set s.words k new; homes = s.homes; views = set s.views id (put_on v) } × (v.claim_tries < length keys)
  wins_now s r id v at live f k new is is_new linked hit =
      let j : ℕ = v.flight.place in let b : ℕ = bucket_of keys heads j in let small = bucket_small keys heads cut s r j in let so = r.each id v at live in
      let w : View = put_on v in let ws : List ℕ = set s.words k new in let link : ℕ → ℕ = link_of heads s.words in let links : ℕ → ℕ = link_of heads ws in
      let to : ℕ → List ℕ = pushed r.chain b j in
      let off : times j (r.chain b) ≡ 0 = off_chain keys heads cut s r id v j at f.drawn f.fresh in
      let j_small : j < length keys = place_small keys heads cut s r id v j at f.drawn in
      let head : slice_index s.words (head_word b) ≡ v.flight.expected = ap (λ (i : ℕ). slice_index s.words i) (sym is) ∙ hit in
      let none_newer : f.newer ≡ [] = no_newer f.newer (v.flight.scanned ++ f.rest) (λ y. subst (λ (l : List ℕ). times y l ≤ 1) f.below (r.once b y small))
      (ap word_of (sym f.below) ∙ sym (leads_word link (slice_index s.words (head_word b)) (r.chain b) (r.leads b small)) ∙ head ∙ f.expected) in
      let all : r.chain b ≡ v.flight.scanned = f.below ∙ (λ i. none_newer i ++ (v.flight.scanned ++ linked.1 i)) ∙ append-nil v.flight.scanned in
      let new_key : (i : ℕ) → IsIn i (r.chain b) → slice_index keys i ≢ slice_index keys j = λ i on. other_at r.chain j v.flight.scanned i f.other (subst (λ (l : List ℕ). IsIn i l) all on) in
      let in_range : k < length s.words = let h = r.wide in omega arith in
      let zero_same : slice_index ws 0 ≡ slice_index s.words 0 = get_or-set_other s.words k 0 new 0 (λ q. omega arith) in
      let link_same : (i : ℕ) → links i ≡ link i = λ i. get_or-set_other s.words k (link_word heads i) new 0 (λ q. omega arith) in
      let at_b : to b ≡ j ∷ r.chain b = pushed_here r.chain b j b refl in
      let in_to : (c i : ℕ) → IsIn i (to c) → ((c ≡ b) × (i ≡ j)) ⊎ IsIn i (r.chain c) = λ c i on. dite (ℕ_discrete c b)
      (λ q. ⊎_elim (λ h. inl (q, h)) (λ h. inr h) (in_cons i j (r.chain c) (subst (λ (l : List ℕ). IsIn i l) (pushed_here r.chain b j c q) on)))
      (λ n. inr (subst (λ (l : List ℕ). IsIn i l) (pushed_else r.chain b j c n) on)) in
      let once' : (c i : ℕ) → c < heads → times i (to c) ≤ 1 = λ c i h. dite (ℕ_discrete c b)
      (λ q. subst (λ (l : List ℕ). times i l ≤ 1) (sym (pushed_here r.chain b j c q)) (dite (ℕ_discrete i j)
      (λ p. let z : times i (r.chain c) ≡ 0 = (λ t. times (p t) (r.chain (q t))) ∙ off in let o = at_most_one i j in let a = times_append i (j ∷ []) (r.chain c) in omega arith)
      (λ p. let z = times_else i j (r.chain c) p in let o = r.once c i h in omega arith)))
      (λ n. subst (λ (l : List ℕ). times i l ≤ 1) (sym (pushed_else r.chain b j c n)) (r.once c i h)) in
      let inside' : (c i : ℕ) → c < heads → IsIn i (to c) → (i < length keys) × (bucket_of keys heads i ≡ c) = λ c i h on. ⊎_elim
      (λ q. (let z = q.1 in omega arith, ap (λ (z : ℕ). bucket_of keys heads z) q.1 ∙ sym q.0)) (λ q. r.inside c i h q) (in_to c i on) in
      let distinct' : (c i l : ℕ) → c < heads → IsIn i (to c) → IsIn l (to c) → slice_index keys i ≡ slice_index keys l → i ≡ l = λ c i l h on ol same. ⊎_elim
      (λ p. ⊎_elim (λ q. p.1 ∙ sym q.1)
      (λ q. absurd (new_key l (subst (λ (z : ℕ). IsIn l (r.chain z)) p.0 q) (sym same ∙ ap (λ (z : ℕ). slice_index keys z) p.1))) (in_to c l ol))
      (λ p. ⊎_elim (λ q. absurd (new_key i (subst (λ (z : ℕ). IsIn i (r.chain z)) q.0 p) (same ∙ ap (λ (z : ℕ). slice_index keys z) q.1))) (λ q. r.distinct c i l h p q same) (in_to c l ol)) (in_to c i on) in
      let leads' : (c : ℕ) → c < heads → Leads links (slice_index ws (head_word c)) (to c) = λ c h. dite (ℕ_discrete c b)
      (λ q. subst (λ (l : List ℕ). Leads links (slice_index ws (head_word c)) l) (sym (pushed_here r.chain b j c q)) (
        ap (λ (z : ℕ). get_or (set s.words k new) z 0) (ap head_word q ∙ sym is) ∙ get_or-set_same s.words k new 0 in_range ∙ is_new,
        subst (λ (z : ℕ). Leads links z (r.chain c)) (sym (link_same j ∙ linked.0 ∙ sym head ∙ ap (λ (z : ℕ). slice_index s.words (head_word z)) (sym q)))
            (leads_same link links (slice_index s.words (head_word c)) (r.chain c) (λ i on. link_same i) (r.leads c h)),
      ))
      (λ n. subst (λ (l : List ℕ). Leads links (slice_index ws (head_word c)) l) (sym (pushed_else r.chain b j c n))
      (subst (λ (z : ℕ). Leads links z (r.chain c)) (sym (get_or-set_other s.words k (head_word c) new 0 (λ q. n (omega arith))))
      (leads_same link links (slice_index s.words (head_word c)) (r.chain c) (λ i on. link_same i) (r.leads c h)))) in
      let won_w : (x : ℕ) → times x (won w) ≡ times x (won v) + times x (j ∷ []) = λ x.
      ap (λ (l : List ℕ). times x l) (won_append v.settled (settled j j ∷ []) ∙ ap (λ (t : Bool). won v ++ cond t (j ∷ []) []) (eq-eqb j j refl)) ∙ times_append x (won v) (j ∷ []) in
      let to_x : (x : ℕ) → times x (to (bucket_of keys heads x)) ≡ times x (r.chain (bucket_of keys heads x)) + times x (j ∷ []) = λ x. dite (ℕ_discrete (bucket_of keys heads x) b)
      (λ q. ap (λ (l : List ℕ). times x l) (pushed_here r.chain b j (bucket_of keys heads x) q) ∙ (let a = times_append x (j ∷ []) (r.chain (bucket_of keys heads x)) in omega arith))
      (λ n. ap (λ (l : List ℕ). times x l) (pushed_else r.chain b j (bucket_of keys heads x) n) ∙ (let z = times_else x j [] (λ q. n (ap (λ (y : ℕ). bucket_of keys heads y) q)) in omega arith)) in
      let on_j : IsIn j (to b) = subst (λ (l : List ℕ). IsIn j l) (sym at_b) (let h = times_head j (r.chain b) in omega arith) in
      let len : length (r.chain b) < length keys = let h = few (length keys) (to b) (λ x. once' b x small) (λ x i. (inside' b x small i).0) in let l : length (to b) ≡ suc (length (r.chain b)) = ap length at_b in omega arith in
      let tries : v.claim_tries < length keys = let t = f.tries in let q : length (v.flight.scanned ++ f.rest) ≡ length (r.chain b) = sym (ap length (f.below ∙ ap (λ (l : List ℕ). l ++ (v.flight.scanned ++ f.rest)) none_newer)) in omega arith in (
        rebuilt keys heads cut s r ws to id v w at live live refl (length-set s.words k new) leads' inside' once' distinct'
            (λ x. let a = won_w x in let c = to_x x in omega arith)
            (λ x. ap (λ (t : ℕ). times x v.drawn + once_below x (min (t * cut) (length keys))) (sym zero_same))
            (let t = r.ticket in omega arith) (pushed_grows r.chain b j) (omega arith) (λ i u apart au lu bu. link_same u.flight.place)
            (record {
              same_keys = so.same_keys;
              same_heads = so.same_heads;
              same_cut = so.same_cut;
              seen = let h = so.seen in omega arith;
              tried = so.tried;
              within = λ x. within_more x j j v.settled v.drawn (so.within x) f.drawn f.fresh;
              held = held_snoc keys heads cut to v.settled (settled j j) (still_held keys heads cut r.chain to (pushed_grows r.chain b j) v.settled so.held) (on_j, refl);
              flight = λ e. absurd (let q : false ≡ true = e in cc);
            }),
        tries,
      )

  pub tries_head : (n id : ℕ) (me : Me Unit View) (k e new : ℕ) → me.0.spent ≡ false → me.0.flight.busy ≡ true → me.0.flight.stored ≡ true → e ≡ me.0.flight.expected → new ≡ me.0.flight.place + 1
      → k ≡ head_word (bucket_of keys heads me.0.flight.place) → Allows Law n id me k (λ x. either (eqb x e) new x) (tried_head (step n k e new none) me)
  tries_head n id me k e new live busy stored is_e is_new is s r wide at _ =
      let v = me.0 in let j : ℕ = v.flight.place in let b : ℕ = bucket_of keys heads j in let small = bucket_small keys heads cut s r j in
      let so = r.each id v at live in let f = so.flight busy in let x : ℕ = slice_index s.words k in let link : ℕ → ℕ = link_of heads s.words in
      let n_keys : length v.keys ≡ length keys = ap length so.same_keys in
      let word : x ≡ word_of (r.chain b) = ap (λ (i : ℕ). slice_index s.words i) is ∙ leads_word link (slice_index s.words (head_word b)) (r.chain b) (r.leads b small) in
      let low : x ≤ length keys = let h = word_small (r.chain b) (length keys) (λ i on. (r.inside b i small on).0) in omega arith in
      let short = chain_short keys heads cut s r b small in
      let told : ℕ → Me Unit View → Type 0 = tried_head (step n k e new none) me in
      exchanged x e new (λ y. (w : View) × (a : Act Unit) × Valid s.homes me.1 a × Law (stepped s k y id me.1 w a) × told x (w, carried_after me.1 a))
      (λ hit.
      let t = wins_now s r id v at live f k new is is_new (f.stored stored) (hit ∙ is_e) in
      (put_on v, keeps, tt, t.0, (let h = t.1 in omega arith, (λ _. refl), λ ne. absurd (ne hit))))
      (λ miss.
      let more : f.newer ≡ [] → ⊥ = λ z. miss (word ∙ ap word_of (f.below ∙ ap (λ (l : List ℕ). l ++ (v.flight.scanned ++ f.rest)) z) ∙ sym f.expected ∙ sym is_e) in
      let len : v.claim_tries + 1 ≤ length (r.chain b) = let l = longer f.newer (v.flight.scanned ++ f.rest) more in let q : length (r.chain b) ≡ length (f.newer ++ (v.flight.scanned ++ f.rest)) = ap length f.below in let t = f.tries in omega arith in (
        again x v,
        keeps,
        tt,
        stays keys heads cut s r k id v (again x v) at live live refl refl (λ y. refl) (record {
          same_keys = so.same_keys;
          same_heads = so.same_heads;
          same_cut = so.same_cut;
          seen = so.seen;
          tried = so.tried;
          within = so.within;
          held = so.held;
          flight = λ e. record {
            newer = [];
            rest = r.chain b;
            drawn = f.drawn;
            fresh = f.fresh;
            below = refl;
            expected = word;
            next = word;
            other = tt;
            stored = λ q. absurd (let z : false ≡ true = q in cc);
            tries = len;
          };
        }),
        (omega arith, (λ hit. absurd (miss hit)), λ _. (refl, omega arith)),
      ))
