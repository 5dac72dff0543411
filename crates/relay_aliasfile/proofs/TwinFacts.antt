-- Marks of hashes, and the places that they tell.
use Rattle.std.proofs.Common.{◌≡◌, ℕ, ◌+◌, ◌<◌, List, [], ◌∷◌, ◌++◌, length, take, set, get_or, sym, ap, ◌∙◌, subst, arith, inl, inr, length-set}
use Rattle.std.specs.Prelude.{All, AllPairs, Contains}
use Rattle.std.proofs.lemmas.Bool.{cases_eq, cases_lt}
use Rattle.std.proofs.lemmas.List.{get_or-take, get_or-set_same, get_or-set_other, length-take-le}
use Rattle.std.proofs.lemmas.List.Elements.{All-push, All-weaker, Contains-append_left, Contains-push}
use Rattle.std.proofs.lemmas.List.Quantifiers.{all_pairs_push}
use Rattle.relay_aliasfile.specs.Twins.{slot_under, AreMarks, AreTwinPlaces}

module _ (slots : ℕ) where
  abbrev pub slot_at : List ℕ → ℕ → ℕ
  slot_at hashes i = slot_under slots (get_or hashes i 0)

  -- one more mark
  module _ (hashes marks : List ℕ) (k : ℕ) (inside : k < length hashes) (slot : ℕ) (slot_is : slot ≡ slot_at hashes k) (below : slot < slots) (mark : ℕ)
      (some : 0 < mark) (second : 0 < get_or marks slot 0 → mark ≡ 2) (so_far : AreMarks slots (take k hashes) marks) where
    taken : (i : ℕ) → i < k → slot_at (take k hashes) i ≡ slot_at hashes i
    taken i b = ap (slot_under slots) (get_or-take k hashes i 0 b)

    taken_more : (i : ℕ) → i < k + 1 → slot_at (take (k + 1) hashes) i ≡ slot_at hashes i
    taken_more i b = ap (slot_under slots) (get_or-take (k + 1) hashes i 0 b)

    count : length (take k hashes) ≡ k
    count = length-take-le k hashes (omega (arith, inside))

    count_more : length (take (k + 1) hashes) ≡ k + 1
    count_more = length-take-le (k + 1) hashes (omega (arith, inside))

    long : slot < length marks
    long = omega (arith, below, so_far.long)

    marked : (i : ℕ) → i < k → 0 < get_or marks (slot_at hashes i) 0
    marked i b = subst (λ s. 0 < get_or marks s 0) (taken i b) (so_far.once i (omega (arith, count, b)))

    once_at : (i : ℕ) → i < k + 1 → 0 < get_or (set marks slot mark) (slot_at hashes i) 0
    once_at i b = elim (cases_eq (slot_at hashes i) slot) [
      | inl same ↦ subst (λ n. 0 < n) (sym (ap (λ s. get_or (set marks slot mark) s 0) same ∙ get_or-set_same marks slot mark 0 long)) some
      | inr other ↦ elim (cases_lt i k) [
        | inl before ↦ subst (λ n. 0 < n) (sym (get_or-set_other marks slot (slot_at hashes i) mark 0 other)) (marked i before)
        | inr last ↦ absurd (other (ap (slot_at hashes) (omega (arith, b, last)) ∙ sym slot_is))
      ]
    ]

    twice_at : (i j : ℕ) → i < j → j < k + 1 → slot_at hashes i ≡ slot_at hashes j → get_or (set marks slot mark) (slot_at hashes j) 0 ≡ 2
    twice_at i j b c same = elim (cases_eq (slot_at hashes j) slot) [
      | inl here ↦
          let at : get_or (set marks slot mark) (slot_at hashes j) 0 ≡ mark = ap (λ s. get_or (set marks slot mark) s 0) here ∙ get_or-set_same marks slot mark 0 long in
          at ∙ second (subst (λ s. 0 < get_or marks s 0) (same ∙ here) (marked i (omega (arith, b, c))))
      | inr other ↦ elim (cases_lt j k) [
        | inl before ↦
            get_or-set_other marks slot (slot_at hashes j) mark 0 other
            ∙ ap (λ s. get_or marks s 0) (sym (taken j before))
            ∙ so_far.twice i j b (omega (arith, count, before)) (taken i (omega (arith, b, before)) ∙ same ∙ sym (taken j before))
        | inr last ↦ absurd (other (ap (slot_at hashes) (omega (arith, c, last)) ∙ sym slot_is))
      ]
    ]

    pub marks_more : AreMarks slots (take (k + 1) hashes) (set marks slot mark)
    marks_more = record {
      long = length-set marks slot mark ∙ so_far.long;
      once = λ i b. subst (λ s. 0 < get_or (set marks slot mark) s 0) (sym (taken_more i (omega (arith, b, count_more)))) (once_at i (omega (arith, b, count_more)));
      twice = λ i j b c same.
          let first : i < k + 1 = omega (arith, b, c, count_more) in
          let last : j < k + 1 = omega (arith, c, count_more) in
          ap (λ s. get_or (set marks slot mark) s 0) (taken_more j last) ∙ twice_at i j b last (sym (taken_more i first) ∙ same ∙ taken_more j last);
    }

-- among the first places those whose slot is marked by two
pub record AreMarkedPlaces (slots : ℕ) (hashes marks : List ℕ) (count : ℕ) (places : List ℕ) : Type 0 where
  pub ascending : AllPairs (λ p q. p < q) places
  pub below : All (λ p. p < count) places
  pub marked : (i : ℕ) → i < count → get_or marks (slot_under slots (get_or hashes i 0)) 0 ≡ 2 → Contains places i

module _ (slots : ℕ) (hashes marks : List ℕ) where
  pub none_marked : AreMarkedPlaces slots hashes marks 0 []
  none_marked = record { ascending = λ i j d b c. absurd (omega (arith, c)); below = λ i d b. absurd (omega (arith, b)); marked = λ i b. absurd (omega (arith, b)) }

  module _ (k : ℕ) (places : List ℕ) (so_far : AreMarkedPlaces slots hashes marks k places) where
    pub place_more : AreMarkedPlaces slots hashes marks (k + 1) (places ++ k ∷ [])
    place_more = record {
      ascending = all_pairs_push (λ p q. p < q) places k so_far.ascending so_far.below;
      below = All-push (λ p. p < k + 1) places k (All-weaker (λ p. p < k) (λ p. p < k + 1) (λ p b. omega (arith, b)) places so_far.below) (omega arith);
      marked = λ i b two. elim (cases_lt i k) [
        | inl before ↦ Contains-append_left places (k ∷ []) i (so_far.marked i before two)
        | inr last ↦ subst (λ p. Contains (places ++ k ∷ []) p) (omega (arith, b, last)) (Contains-push places k)
      ];
    }

    pub place_left : (get_or marks (slot_under slots (get_or hashes k 0)) 0 ≡ 2 → ⊥) → AreMarkedPlaces slots hashes marks (k + 1) places
    place_left other = record {
      ascending = so_far.ascending;
      below = All-weaker (λ p. p < k) (λ p. p < k + 1) (λ p b. omega (arith, b)) places so_far.below;
      marked = λ i b two. elim (cases_lt i k) [
        | inl before ↦ so_far.marked i before two
        | inr last ↦ absurd (other (ap (λ p. get_or marks (slot_under slots (get_or hashes p 0)) 0) (omega (arith, b, last)) ∙ two))
      ];
    }

  pub twins_all : (places : List ℕ) → AreMarks slots hashes marks → AreMarkedPlaces slots hashes marks (length hashes) places → AreTwinPlaces hashes places
  twins_all places are all = record {
    ascending = all.ascending;
    within = all.below;
    twins = λ i j b c same.
        let slots_same = ap (slot_under slots) same in
        let two = are.twice i j b c slots_same in
        (all.marked i (omega (arith, b, c)) (ap (λ s. get_or marks s 0) slots_same ∙ two), all.marked j c two);
  }
