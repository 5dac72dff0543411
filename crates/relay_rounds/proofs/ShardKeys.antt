-- The keys of a shard, by the numbers and the words of its blocks.
use Rattle.std.proofs.Common.{◌≡◌, ◌≢◌, ℕ, zero, suc, ◌/◌, ◌%◌, ◌^◌, ◌<◌, true, false, nat_eq, true≢false, Some, None, List, [], ◌∷◌, ◌++◌, length, get_or, set, arith, sym, refl, ap, ◌∙◌, subst, inl, inr, ⊎_elim, length-set, get_or-set_same, get_or-set_other}
use Rattle.std.specs.Prelude.{All, AllPairs, Contains}
use Rattle.std.proofs.lemmas.Bool.{cases_eq, cases_lt}
use Rattle.std.proofs.lemmas.Bool.Decides.{Decides-eqb}
use Rattle.std.proofs.lemmas.List.{get_or_default, length-append}
use Rattle.std.proofs.lemmas.Grind.{flat_map-append}
use Rattle.std.proofs.lemmas.List.Quantifiers.{position-Some, all_pairs_push}
use Rattle.std.proofs.lemmas.List.Elements.{All-nil, All-cons, All-append, Contains-get_or, Contains-append_left, Contains-append_right, Contains-append_cases}
use Rattle.relay_chains.specs.Keys.{number_of}
use Rattle.relay_rounds.specs.declared.block.Block.{Block}
use Rattle.relay_rounds.specs.Bits.{is_set}
use Rattle.relay_rounds.specs.Blocks.{keys_in, keys_of, blocks_of, AreBlocks, ArePaired}
use Rattle.relay_rounds.specs.Shards.{is_there, Inserted, AreAtHome, Grows}
use Rattle.relay_rounds.proofs.Keys.{nowhere, in_head, cons_cases, in_flat_map, from_flat_map}
use Rattle.relay_rounds.proofs.Words.{no_bit}
use Rattle.relay_rounds.proofs.BlockKeys.{in_block, from_block, blocks_distinct}
use Rattle.relay_rounds.proofs.Numbers.{has_number, some_where, alike}

abbrev block : ℕ → ℕ → Block
block n w = record { number = n; word = w }

pub blocks_len : (ns ws : List ℕ) → length ws ≡ length ns → length (blocks_of ns ws) ≡ length ns
blocks_len [] ws e = refl
blocks_len (n ∷ ns) [] e = absurd (omega arith)
blocks_len (n ∷ ns) (w ∷ ws) e = ap suc (blocks_len ns ws (omega arith))

pub blocks_at : (ns ws : List ℕ) (i : ℕ) (d : Block) → length ws ≡ length ns → i < length ns → get_or (blocks_of ns ws) i d ≡ block (get_or ns i 0) (get_or ws i 0)
blocks_at [] ws i d e below = absurd (omega arith)
blocks_at (n ∷ ns) [] i d e below = absurd (omega arith)
blocks_at (n ∷ ns) (w ∷ ws) zero d e below = refl
blocks_at (n ∷ ns) (w ∷ ws) (suc i) d e below = blocks_at ns ws i d (omega arith) (omega arith)

pub blocks_more : (ns ws : List ℕ) (n w : ℕ) → length ws ≡ length ns → blocks_of (ns ++ n ∷ []) (ws ++ w ∷ []) ≡ blocks_of ns ws ++ block n w ∷ []
blocks_more [] [] n w e = refl
blocks_more [] (v ∷ vs) n w e = absurd (omega arith)
blocks_more (m ∷ ns) [] n w e = absurd (omega arith)
blocks_more (m ∷ ns) (v ∷ vs) n w e = ap (λ (bs : List Block). block m v ∷ bs) (blocks_more ns vs n w (omega arith))

-- distinct numbers stand in one place each
same_place : (ns : List ℕ) → AllPairs (λ a b. a ≢ b) ns → (i j : ℕ) → i < length ns → j < length ns → get_or ns i 0 ≡ get_or ns j 0 → i ≡ j
same_place ns apart i j low high e =
    ⊎_elim
    (λ before. absurd (apart i j 0 before high e))
    (λ no. ⊎_elim (λ after. absurd (apart j i 0 after low (sym e))) (λ nor. omega arith) (cases_lt j i))
    (cases_lt i j)

module _ (ns ws : List ℕ) (paired : length ws ≡ length ns) where
  pub apart_blocks : AllPairs (λ a b. a ≢ b) ns → AllPairs (λ a b. a.number ≢ b.number) (blocks_of ns ws)
  apart_blocks apart i j d before below e =
      let size = blocks_len ns ws paired in
      let low : j < length ns = omega arith in
      apart i j 0 before low (sym (ap (λ b. b.number) (blocks_at ns ws i d paired (omega arith))) ∙ e ∙ ap (λ b. b.number) (blocks_at ns ws j d paired low))

  pub lawful_blocks : AllPairs (λ a b. a ≢ b) ns → All (λ w. w ≢ 0) ws → All (λ n. n < 2 ^ 58) ns → AreBlocks (blocks_of ns ws)
  lawful_blocks apart filled small = let size = blocks_len ns ws paired in record {
    apart = apart_blocks apart;
    filled = λ i d below e. filled i 0 (omega arith) (sym (ap (λ b. b.word) (blocks_at ns ws i d paired (omega arith))) ∙ e);
    small = λ i d below. let h = small i 0 (omega arith) in let e = ap (λ b. b.number) (blocks_at ns ws i d paired (omega arith)) in omega arith;
  }

  pub home_numbers : (parts place : ℕ) → AreAtHome parts place (blocks_of ns ws) → All (λ n. n % parts ≡ place) ns
  home_numbers parts place home i d below =
      let size = blocks_len ns ws paired in
      ap (λ (n : ℕ). n % parts) (get_or_default ns i d 0 below) ∙ sym (ap (λ b. b.number % parts) (blocks_at ns ws i (block 0 0) paired below)) ∙ home i (block 0 0) (omega arith)

  pub home_blocks : (parts place : ℕ) → All (λ n. n % parts ≡ place) ns → AreAtHome parts place (blocks_of ns ws)
  home_blocks parts place home i d below =
      let size = blocks_len ns ws paired in
      ap (λ b. b.number % parts) (blocks_at ns ws i d paired (omega arith)) ∙ home i 0 (omega arith)

  -- a key by the place of its block
  pub has_key : (k i : ℕ) → i < length ns → get_or ns i 0 ≡ k / 64 → is_set (get_or ws i 0) (k % 64) ≡ true → Contains (keys_of (blocks_of ns ws)) k
  has_key k i below at on =
      let size = blocks_len ns ws paired in
      let d : Block = block 0 0 in
      let here = blocks_at ns ws i d paired below in
      in_flat_map keys_in (blocks_of ns ws) (get_or (blocks_of ns ws) i d) k (Contains-get_or (blocks_of ns ws) i d (omega arith))
      (in_block (get_or (blocks_of ns ws) i d) k (sym at ∙ sym (ap (λ b. b.number) here)) (ap (λ b. is_set b.word (k % 64)) here ∙ on))

  pub key_at : (k : ℕ) → Contains (keys_of (blocks_of ns ws)) k → (i : ℕ) × (i < length ns) × (get_or ns i 0 ≡ k / 64) × (is_set (get_or ws i 0) (k % 64) ≡ true)
  key_at k on =
      let size = blocks_len ns ws paired in
      let w = from_flat_map keys_in (blocks_of ns ws) k on in
      let i : ℕ = w.1.0 in
      let short : i < length (blocks_of ns ws) = w.1.1 in
      let below : i < length ns = omega arith in
      let here = sym (blocks_at ns ws i w.0 paired below) ∙ w.1.2 in
      let h = from_block w.0 k w.2 in
      (i, below, ap (λ b. b.number) here ∙ sym h.0, ap (λ b. is_set b.word (k % 64)) here ∙ h.1)

  pub there_found : (k i : ℕ) → AllPairs (λ a b. a ≢ b) ns → number_of nat_eq ns (k / 64) ≡ Some i → is_set (get_or ws i 0) (k % 64) ≡ is_there (keys_of (blocks_of ns ws)) k
  there_found k i apart e =
      let p = position-Some (nat_eq (k / 64)) ns i 0 e in
      let below : i < length ns = p.0 in
      let at : get_or ns i 0 ≡ k / 64 = sym ((Decides-eqb (k / 64) (get_or ns i 0)).0 p.1) in
      let there = has_number (keys_of (blocks_of ns ws)) k in
      alike (is_set (get_or ws i 0) (k % 64)) (is_there (keys_of (blocks_of ns ws)) k)
      (λ t. there.1 (has_key k i below at t))
      (λ t. let w = key_at k (there.0 t) in
      ⊎_elim
      (λ same. ap (λ (j : ℕ). is_set (get_or ws j 0) (k % 64)) (sym same) ∙ w.3)
      (λ ne. absurd (ne (same_place ns apart w.0 i w.1 below (w.2 ∙ sym at))))
      (cases_eq w.0 i))

  pub there_not : (k : ℕ) → number_of nat_eq ns (k / 64) ≡ None → false ≡ is_there (keys_of (blocks_of ns ws)) k
  there_not k e =
      let there = has_number (keys_of (blocks_of ns ws)) k in
      alike false (is_there (keys_of (blocks_of ns ws)) k)
      (λ t. absurd (true≢false (sym t)))
      (λ t. let w = key_at k (there.0 t) in
      let on : Contains ns (k / 64) = subst (λ (n : ℕ). Contains ns n) w.2 (Contains-get_or ns w.0 0 w.1) in
      (some_where (k / 64) ns None e).1 on)

-- a number and its word were put last
pub paired_more : (ns ws more : List ℕ) (n w : ℕ) → ArePaired ns ws → Inserted ns n true more → n < 2 ^ 58 → w ≢ 0 → ArePaired more (ws ++ w ∷ [])
paired_more ns ws more n w p done low some = subst (λ (ms : List ℕ). ArePaired ms (ws ++ w ∷ [])) (sym done.1) (record {
  count = (let a = length-append ns (n ∷ []) in let b = length-append ws (w ∷ []) in let c = p.count in omega arith);
  distinct = all_pairs_push (λ a b. a ≢ b) ns n p.distinct (λ i d below e. done.0 (subst (λ (m : ℕ). Contains ns m) e (Contains-get_or ns i d below)));
  filled = All-append (λ v. v ≢ 0) ws (w ∷ []) p.filled (All-cons (λ v. v ≢ 0) w [] some (All-nil (λ v. v ≢ 0)));
  small = All-append (λ m. m < 2 ^ 58) ns (n ∷ []) p.small (All-cons (λ m. m < 2 ^ 58) n [] low (All-nil (λ m. m < 2 ^ 58)));
})

-- a word was changed
pub paired_set : (ns ws : List ℕ) (i w : ℕ) → ArePaired ns ws → w ≢ 0 → ArePaired ns (set ws i w)
paired_set ns ws i w p some = record {
  count = length-set ws i w ∙ p.count;
  distinct = p.distinct;
  filled = λ j d below.
      let size = length-set ws i w in
      let low : j < length ws = omega arith in
      ⊎_elim
      (λ e. subst (λ (v : ℕ). v ≢ 0) (sym (ap (λ (z : ℕ). get_or (set ws i w) z d) e ∙ get_or-set_same ws i w d (let h = e in omega arith))) some)
      (λ ne. subst (λ (v : ℕ). v ≢ 0) (sym (get_or-set_other ws i j w d ne)) (p.filled j d low))
      (cases_eq j i);
  small = p.small;
}

pub lawful : (ns ws : List ℕ) → ArePaired ns ws → AreBlocks (blocks_of ns ws)
lawful ns ws p = lawful_blocks ns ws p.count p.distinct p.filled p.small

some_bit : (w i : ℕ) → is_set w i ≡ true → w ≢ 0
some_bit w i on e = true≢false (sym on ∙ ap (λ (v : ℕ). is_set v i) e ∙ no_bit i)

pub bit_is_some : (w i : ℕ) → is_set w i ≡ true → w ≢ 0
bit_is_some w i on = some_bit w i on

divided : (x k : ℕ) → x / 64 ≡ k / 64 → x % 64 ≡ k % 64 → x ≡ k
divided x k a b = omega arith

-- the key of a new block came
pub grows_new : (ns ws more : List ℕ) (k w : ℕ) → ArePaired ns ws → Inserted ns (k / 64) true more → k / 64 < 2 ^ 58 → is_set w (k % 64) ≡ true
    → ((i : ℕ) → i ≢ k % 64 → is_set w i ≡ is_set 0 i) → Grows (blocks_of ns ws) k true (blocks_of more (ws ++ w ∷ []))
grows_new ns ws more k w p done low on others =
    let n : ℕ = k / 64 in
    let q = paired_more ns ws more n w p done low (some_bit w (k % 64) on) in
    let blocks : List Block = blocks_of ns ws in
    let is : blocks_of more (ws ++ w ∷ []) ≡ blocks ++ block n w ∷ [] = ap (λ (ms : List ℕ). blocks_of ms (ws ++ w ∷ [])) done.1 ∙ blocks_more ns ws n w p.count in
    let keys : keys_of (blocks_of more (ws ++ w ∷ [])) ≡ keys_of blocks ++ keys_of (block n w ∷ []) = ap keys_of is ∙ flat_map-append keys_in blocks (block n w ∷ []) in
    let here : Contains (keys_of (block n w ∷ [])) k = Contains-append_left (keys_in (block n w)) [] k (in_block (block n w) k refl on) in
    let only : (x : ℕ) → Contains (keys_of (block n w ∷ [])) x → k ≡ x = λ x h. ⊎_elim
    (λ l. let e = from_block (block n w) x l in
    ⊎_elim (λ s. divided k x (sym e.0) (sym s)) (λ ne. absurd (true≢false (sym e.1 ∙ others (x % 64) ne ∙ no_bit (x % 64)))) (cases_eq (x % 64) (k % 64)))
    (λ r. absurd (nowhere x r))
    (Contains-append_cases (keys_in (block n w)) [] x h) in
    record {
      lawful = lawful more (ws ++ w ∷ []) q;
      home = λ parts place at home. subst (λ (bs : List Block). AreAtHome parts place bs) (sym is)
          (All-append (λ b. b.number % parts ≡ place) blocks (block n w ∷ []) home (All-cons (λ b. b.number % parts ≡ place) (block n w) [] at (All-nil (λ b. b.number % parts ≡ place))));
      taken = (
        (λ h. let z = key_at ns ws p.count k h in done.0 (subst (λ (m : ℕ). Contains ns m) z.2 (Contains-get_or ns z.0 0 z.1))),
        record {
          distinct = blocks_distinct (blocks_of more (ws ++ w ∷ [])) (lawful more (ws ++ w ∷ []) q).apart;
          members = λ x. (
            (λ h. ⊎_elim (λ old. inl old) (λ one. inr (in_head k [] x (only x one)))
                (Contains-append_cases (keys_of blocks) (keys_of (block n w ∷ [])) x (subst (λ (ks : List ℕ). Contains ks x) keys h))),
            (λ h. subst (λ (ks : List ℕ). Contains ks x) (sym keys) (⊎_elim
                (λ old. Contains-append_left (keys_of blocks) (keys_of (block n w ∷ [])) x old)
                (λ one. Contains-append_right (keys_of blocks) (keys_of (block n w ∷ [])) x (subst (λ (z : ℕ). Contains (keys_of (block n w ∷ [])) z)
                (⊎_elim (λ e. e) (λ none. absurd (nowhere x none)) (cons_cases k [] x one)) here))
                h)),
          );
        },
      );
    }

-- the key of a block that was there came
pub grows_set : (ns ws : List ℕ) (k i w : ℕ) → ArePaired ns ws → i < length ns → get_or ns i 0 ≡ k / 64 → is_set (get_or ws i 0) (k % 64) ≡ false → is_set w (k % 64) ≡ true
    → ((j : ℕ) → j ≢ k % 64 → is_set w j ≡ is_set (get_or ws i 0) j) → Grows (blocks_of ns ws) k true (blocks_of ns (set ws i w))
grows_set ns ws k i w p below at off on others =
    let size = p.count in
    let q = paired_set ns ws i w p (some_bit w (k % 64) on) in
    let place : (x : ℕ) → get_or ns i 0 ≡ x / 64 → x / 64 ≡ k / 64 = λ x e. sym e ∙ at in
    let same : get_or (set ws i w) i 0 ≡ w = get_or-set_same ws i w 0 (omega arith) in
    record {
      lawful = lawful ns (set ws i w) q;
      home = λ parts pl h home. home_blocks ns (set ws i w) q.count parts pl (home_numbers ns ws p.count parts pl home);
      taken = (
        (λ h. let z = key_at ns ws p.count k h in
            let e = same_place ns p.distinct z.0 i z.1 below (z.2 ∙ sym at) in
            true≢false (sym z.3 ∙ ap (λ (j : ℕ). is_set (get_or ws j 0) (k % 64)) e ∙ off)),
        record {
          distinct = blocks_distinct (blocks_of ns (set ws i w)) (lawful ns (set ws i w) q).apart;
          members = λ x. (
            (λ h. let z = key_at ns (set ws i w) q.count x h in
                ⊎_elim
                (λ e.
                let on_w : is_set w (x % 64) ≡ true = ap (λ (v : ℕ). is_set v (x % 64)) (sym same ∙ ap (λ (j : ℕ). get_or (set ws i w) j 0) (sym e)) ∙ z.3 in
                let at_x : get_or ns i 0 ≡ x / 64 = ap (λ (j : ℕ). get_or ns j 0) (sym e) ∙ z.2 in
                ⊎_elim
                (λ s. inr (in_head k [] x (divided k x (sym at ∙ at_x) (sym s))))
                (λ ne. inl (has_key ns ws p.count x i below at_x (sym (others (x % 64) ne) ∙ on_w)))
                (cases_eq (x % 64) (k % 64)))
                (λ ne. inl (has_key ns ws p.count x z.0 z.1 z.2 (ap (λ (v : ℕ). is_set v (x % 64)) (sym (get_or-set_other ws i z.0 w 0 ne)) ∙ z.3)))
                (cases_eq z.0 i)),
            (λ h. ⊎_elim
                (λ old. let z = key_at ns ws p.count x old in
                ⊎_elim
                (λ e.
                let at_x : get_or ns i 0 ≡ x / 64 = ap (λ (j : ℕ). get_or ns j 0) (sym e) ∙ z.2 in
                has_key ns (set ws i w) q.count x i below at_x (ap (λ (v : ℕ). is_set v (x % 64)) same ∙
                ⊎_elim (λ s. ap (λ (j : ℕ). is_set w j) s ∙ on) (λ ne. others (x % 64) ne ∙ ap (λ (j : ℕ). is_set (get_or ws j 0) (x % 64)) (sym e) ∙ z.3) (cases_eq (x % 64) (k % 64))))
                (λ ne. has_key ns (set ws i w) q.count x z.0 z.1 z.2 (ap (λ (v : ℕ). is_set v (x % 64)) (get_or-set_other ws i z.0 w 0 ne) ∙ z.3))
                (cases_eq z.0 i))
                (λ one. subst (λ (y : ℕ). Contains (keys_of (blocks_of ns (set ws i w))) y) (⊎_elim (λ e. e) (λ none. absurd (nowhere x none)) (cons_cases k [] x one))
                (has_key ns (set ws i w) q.count k i below at (ap (λ (v : ℕ). is_set v (k % 64)) same ∙ on)))
                h),
          );
        },
      );
    }

-- a key that was there
pub grows_not : (ns ws : List ℕ) (k i : ℕ) → ArePaired ns ws → i < length ns → get_or ns i 0 ≡ k / 64 → is_set (get_or ws i 0) (k % 64) ≡ true → Grows (blocks_of ns ws) k false (blocks_of ns ws)
grows_not ns ws k i p below at on = record {
  lawful = lawful ns ws p;
  home = λ parts place h home. home;
  taken = (has_key ns ws p.count k i below at on, refl);
}
