-- The lines that are found on the way: what one more number adds, and three parts one after another.
use Rattle.std.proofs.Common.{◌⊎◌, ℕ, ◌+◌, ◌-◌, ◌<◌, ◌≤◌, ◌==◌, false, true≢false, List, [], ◌∷◌, ◌++◌, length, get_or, take, ap, ◌∙◌, sym, subst, inl, inr, arith}
use Rattle.std.specs.Prelude.{◌≡◌, ◌↔◌, Result, Ok, Err, OnOk, Option, Some, None, slice_get, option_and_then}
use Rattle.std.proofs.lemmas.List.{take_more, take_all}
use Rattle.std.proofs.lemmas.List.Elements.{Contains-push, Contains-push_cases, Contains-append_left}
use Rattle.relay_tables.specs.declared.node.Node.{Node}
use Rattle.relay_tables.specs.GraphParts.{GraphParts}
use Rattle.relay_wire.specs.declared.finding.Place.{Place}
use Rattle.relay_wire.specs.declared.finding.Finding.{Finding}
use Rattle.relay_planning.specs.Listing.{target_finding}
use Rattle.relay_planning.specs.Entries.{HaveLine, IsLineIn, IsListLine, IsTargetLine}

-- ---- one more number
module _ (gives : ℕ → List ℕ → Type 0) (q : List ℕ) where
  pub no_line : HaveLine gives [] q → ⊥
  no_line h = let none : h.1.0 < 0 = h.1.1 in absurd (omega arith)

  line_push : (ns : List ℕ) (n : ℕ) → (HaveLine gives ns q ⊎ gives n q) → HaveLine gives (ns ++ n ∷ []) q
  line_push ns n (inl old) = (old.0, Contains-append_left ns (n ∷ []) old.0 old.1, old.2)
  line_push ns n (inr new) = (n, Contains-push ns n, new)

  line_from_push : (ns : List ℕ) (n : ℕ) → HaveLine gives (ns ++ n ∷ []) q → HaveLine gives ns q ⊎ gives n q
  line_from_push ns n h = elim (Contains-push_cases ns n h.0 h.1) [ inl old ↦ inl (h.0, old, h.2) | inr here ↦ inr (subst (λ (m : ℕ). gives m q) (sym here) h.2) ]

  -- A is what held at the start, O what holds before the number at i and N what holds after it
  pub one_more : (ns : List ℕ) (i : ℕ) (A O N : Type 0) → i < length ns → (O ↔ (A ⊎ HaveLine gives (take i ns) q)) → (N ↔ (O ⊎ gives (get_or ns i 0) q)) → N ↔ (A ⊎ HaveLine gives (take (i + 1) ns) q)
  one_more ns i A O N inside old new =
      let n : ℕ = get_or ns i 0 in
      let front : List ℕ = take i ns in
      let R : List ℕ → Type 0 = λ ms. N ↔ (A ⊎ HaveLine gives ms q) in
      subst R (sym (take_more ns i 0 inside)) (
        λ now. elim (new.0 now) [ inl o ↦ elim (old.0 o) [ inl a ↦ inl a | inr h ↦ inr (line_push front n (inl h)) ] | inr p ↦ inr (line_push front n (inr p)) ],
        λ either. elim either [
          | inl a ↦ new.1 (inl (old.1 (inl a)))
          | inr h ↦ elim (line_from_push front n h) [ inl t ↦ new.1 (inl (old.1 (inr t))) | inr p ↦ new.1 (inr p) ]
        ],
      )

  -- the number before it once more gives no line that isn't there
  pub none_again : (ns : List ℕ) (i : ℕ) (A O : Type 0) → 0 < i → i < length ns → get_or ns (i - 1) 0 ≡ get_or ns i 0 → (O ↔ (A ⊎ HaveLine gives (take i ns) q)) → O ↔ (A ⊎ HaveLine gives (take (i + 1) ns) q)
  none_again ns i A O some inside same old =
      let before = i - 1 in
      let next : before + 1 ≡ i = omega (arith, some) in
      let earlier : gives (get_or ns before 0) q → HaveLine gives (take i ns) q = λ line.
      subst (λ (k : ℕ). HaveLine gives (take k ns) q) next (subst (λ (ms : List ℕ). HaveLine gives ms q) (sym (take_more ns before 0 (omega (arith, some, inside)))) (line_push (take before ns) (get_or ns before 0) (inr line))) in
      one_more ns i A O O inside old (λ o. inl o, λ either. elim either [ inl o ↦ o | inr line ↦ old.1 (inr (earlier (subst (λ (n : ℕ). gives n q) (sym same) line))) ])

  pub at_start : (A : Type 0) → A ↔ (A ⊎ HaveLine gives [] q)
  at_start A = (λ a. inl a, λ either. elim either [ inl a ↦ a | inr h ↦ absurd (no_line h) ])

  pub at_end : (ns : List ℕ) (i : ℕ) (A O : Type 0) → length ns ≤ i → (O ↔ (A ⊎ HaveLine gives (take i ns) q)) → O ↔ (A ⊎ HaveLine gives ns q)
  at_end ns i A O past old =
      let R : List ℕ → Type 0 = λ ms. O ↔ (A ⊎ HaveLine gives ms q) in
      subst R (take_all i ns past) old

-- ---- targets of which nothing is reported
module _ (g : GraphParts) where
  pub no_target_line : (place : Place) (n : ℕ) (node : Node) → slice_get g.nodes n ≡ Some node → target_finding place node ≡ None → (q : List ℕ) → IsTargetLine g place n q → ⊥
  no_target_line place n node is none q h = subst (λ (f : Option Finding). IsLineIn f q) (ap (option_and_then (target_finding place)) is ∙ none) h

  module _ (place : Place) where
    pub none_more : (targets : List ℕ) (i : ℕ) → i < length targets → ((q : List ℕ) → HaveLine (IsTargetLine g place) (take i targets) q → ⊥) → ((q : List ℕ) → IsTargetLine g place (get_or targets i 0) q → ⊥)
        → (q : List ℕ) → HaveLine (IsTargetLine g place) (take (i + 1) targets) q → ⊥
    none_more targets i inside front here q h =
        let pushed = subst (λ (ms : List ℕ). HaveLine (IsTargetLine g place) ms q) (take_more targets i 0 inside) h in
        elim (line_from_push (IsTargetLine g place) q (take i targets) (get_or targets i 0) pushed) [ inl old ↦ front q old | inr new ↦ here q new ]

    pub none_of_list : (targets : List ℕ) → (length targets == 0) ≡ false → ((q : List ℕ) → HaveLine (IsTargetLine g place) targets q → ⊥) → (q : List ℕ) → IsListLine g place targets q → ⊥
    none_of_list [] full none q h = absurd (true≢false full)
    none_of_list (n ∷ ns) full none q h = none q h

-- ---- three parts, one after another
both : (O A N X Y : Type 0) → (A ↔ (O ⊎ X)) → (N ↔ (A ⊎ Y)) → N ↔ (O ⊎ (X ⊎ Y))
both O A N X Y first second = (
  λ n. elim (second.0 n) [ inl a ↦ elim (first.0 a) [ inl o ↦ inl o | inr x ↦ inr (inl x) ] | inr y ↦ inr (inr y) ],
  λ either. elim either [
    | inl o ↦ second.1 (inl (first.1 (inl o)))
    | inr later ↦ elim later [ inl x ↦ second.1 (inl (first.1 (inr x))) | inr y ↦ second.1 (inr y) ]
  ],
)

whole : (O A B N X Y Z W : Type 0) → (A ↔ (O ⊎ X)) → (B ↔ (A ⊎ Y)) → (N ↔ (B ⊎ Z)) → ((X ⊎ (Y ⊎ Z)) ↔ W) → N ↔ (O ⊎ W)
whole O A B N X Y Z W first second third are =
    let all = both O A N X (Y ⊎ Z) first (both A B N Y Z second third) in (
      λ n. elim (all.0 n) [ inl o ↦ inl o | inr parts ↦ inr (are.0 parts) ],
      λ either. all.1 (elim either [ inl o ↦ inl o | inr w ↦ inr (are.1 w) ]),
    )

pub three_parts : {E : Type 0} (r : Result (Unit {0}) E) (O A B N X Y Z W : List ℕ → Type 0) → ((q : List ℕ) → A q ↔ (O q ⊎ X q)) → ((q : List ℕ) → B q ↔ (A q ⊎ Y q))
    → OnOk r ((q : List ℕ) → N q ↔ (B q ⊎ Z q)) → ((q : List ℕ) → (X q ⊎ (Y q ⊎ Z q)) ↔ W q) → OnOk r ((q : List ℕ) → N q ↔ (O q ⊎ W q))
three_parts (Ok u) O A B N X Y Z W first second third are = λ q. whole (O q) (A q) (B q) (N q) (X q) (Y q) (Z q) (W q) (first q) (second q) (third q) (are q)
three_parts (Err e) O A B N X Y Z W first second third are = tt
