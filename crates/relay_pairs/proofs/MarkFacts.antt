-- Marks of nodes: one pair more is marked, and the marked nodes are gone over.
use Rattle.std.proofs.Common.{◌≡◌, ◌≢◌, ◌⊎◌, ℕ, ◌+◌, ◌<◌, ◌≤◌, Bool, true, false, List, [], ◌∷◌, ◌++◌, length, get_or, take, sym, ap, subst, ◌∙◌, arith, inl, inr}
use Rattle.std.specs.Prelude.{◌↔◌, AllPairs, Contains, slice_set, replicate}
use Rattle.std.proofs.lemmas.Bool.{cases_lt, cases_order, true≢false}
use Rattle.std.proofs.lemmas.List.{get_or-replicate, get_or_past, get_or-set_same, get_or-set_other, length-replicate, take_more, take_all}
use Rattle.std.proofs.lemmas.List.Elements.{Contains-push, Contains-push_cases, Contains-append_left, Contains-get_or}
use Rattle.std.proofs.lemmas.List.Quantifiers.{all_pairs_push}
use Rattle.relay_pairs.specs.declared.reached.Reached.{Reached}
use Rattle.relay_pairs.specs.Marks.{mark_at, AreMarks, AreMarked}

same_or_other : (k r : ℕ) → (k ≡ r) ⊎ (k ≢ r)
same_or_other k r = elim (cases_order k r) [
  | inl same ↦ inl same
  | inr apart ↦ inr (λ e. elim apart [ inl less ↦ omega (arith, less, e) | inr more ↦ omega (arith, more, e) ])
]

-- ---- marking
unmarked : (n k : ℕ) → mark_at (replicate n false) k ≡ false
unmarked n k =
    elim (cases_lt k n) [
      | inl inside ↦ get_or-replicate n k false false inside
      | inr past ↦ get_or_past (replicate n false) k false (let long : length (replicate n false) ≡ n = length-replicate n false in omega (arith, long, past))
    ]

pub marks_none : (n : ℕ) → AreMarks [] (replicate n false)
marks_none n = record {
  of_pairs = λ p has. absurd (let below : has.0 < 0 = has.1 in omega arith);
  only = λ k e. absurd (true≢false (sym e ∙ unmarked n k));
}

marked_one : (pairs : List Reached) (marks : List Bool) (x : Reached) → AreMarks pairs marks → x.node < length marks → AreMarks (pairs ++ x ∷ []) (slice_set marks x.node true)
marked_one pairs marks x m inside = record {
  of_pairs = λ p has. elim (Contains-push_cases pairs x p has) [
    | inl old ↦ elim (same_or_other p.node x.node) [ inl e ↦ written p.node e | inr ne ↦ other p.node ne ∙ m.of_pairs p old ]
    | inr e ↦ written p.node (ap (λ (h : Reached). h.node) (sym e))
  ];
  only = λ k marked. elim (same_or_other k x.node) [
    | inl e ↦ (x, Contains-push pairs x, sym e)
    | inr ne ↦ (let old = m.only k (sym (other k ne) ∙ marked) in (old.0, Contains-append_left pairs (x ∷ []) old.0 old.1, old.2))
  ];
} where
  written : (k : ℕ) → k ≡ x.node → mark_at (slice_set marks x.node true) k ≡ true
  written k e = ap (mark_at (slice_set marks x.node true)) e ∙ get_or-set_same marks x.node true false inside

  other : (k : ℕ) → k ≢ x.node → mark_at (slice_set marks x.node true) k ≡ mark_at marks k
  other k ne = get_or-set_other marks x.node k true false ne

pub marks_more : (pairs : List Reached) (i : ℕ) (marks : List Bool) (x : Reached) → i < length pairs → x ≡ get_or pairs i x → AreMarks (take i pairs) marks → x.node < length marks
    → AreMarks (take (i + 1) pairs) (slice_set marks x.node true)
marks_more pairs i marks x inside is m within =
    subst (λ ps. AreMarks ps (slice_set marks x.node true)) (ap (λ y. take i pairs ++ y ∷ []) is ∙ sym (take_more pairs i x inside)) (marked_one (take i pairs) marks x m within)

pub marks_all : (pairs : List Reached) (i : ℕ) (marks : List Bool) → length pairs ≤ i → AreMarks (take i pairs) marks → AreMarks pairs marks
marks_all pairs i marks past m = subst (λ ps. AreMarks ps marks) (take_all i pairs past) m

-- ---- going over the marks
pub record AreMarkedUpTo (marks : List Bool) (nodes : List ℕ) (i : ℕ) : Type 0 where
  pub ascending : AllPairs (λ x y. x < y) nodes
  pub members : (n : ℕ) → Contains nodes n ↔ ((n < i) × (mark_at marks n ≡ true))

pub upto_none : (marks : List Bool) → AreMarkedUpTo marks [] 0
upto_none marks = record {
  ascending = λ i j d before inside. absurd (omega (arith, inside));
  members = λ n. (λ has. absurd (let below : has.0 < 0 = has.1 in omega arith), λ h. absurd (let below : n < 0 = h.0 in omega arith));
}

module _ (marks : List Bool) (nodes : List ℕ) (i : ℕ) (u : AreMarkedUpTo marks nodes i) where
  earlier : (n : ℕ) → n < i + 1 → n ≢ i → n < i
  earlier n upto ne = omega (arith, upto, ne)

  pub upto_marked : mark_at marks i ≡ true → AreMarkedUpTo marks (nodes ++ i ∷ []) (i + 1)
  upto_marked marked = record {
    ascending = all_pairs_push (λ x y. x < y) nodes i u.ascending (λ k d within. ((u.members (get_or nodes k d)).0 (Contains-get_or nodes k d within)).0);
    members = λ n. (
      λ has. elim (Contains-push_cases nodes i n has) [
        | inl old ↦ (let told = (u.members n).0 old in (let below : n < i = told.0 in omega (arith, below), told.1))
        | inr e ↦ (omega (arith, e), ap (mark_at marks) (sym e) ∙ marked)
      ],
      λ h. elim (same_or_other n i) [
        | inl e ↦ subst (Contains (nodes ++ i ∷ [])) (sym e) (Contains-push nodes i)
        | inr ne ↦ Contains-append_left nodes (i ∷ []) n ((u.members n).1 (earlier n h.0 ne, h.1))
      ],
    );
  }

  pub upto_unmarked : mark_at marks i ≡ false → AreMarkedUpTo marks nodes (i + 1)
  upto_unmarked unmarked = record {
    ascending = u.ascending;
    members = λ n. (
      λ has. let told = (u.members n).0 has in (let below : n < i = told.0 in omega (arith, below), told.1),
      λ h. elim (same_or_other n i) [
        | inl e ↦ absurd (true≢false (sym h.1 ∙ ap (mark_at marks) e ∙ unmarked))
        | inr ne ↦ (u.members n).1 (earlier n h.0 ne, h.1)
      ],
    );
  }

pub upto_all : (marks : List Bool) (nodes : List ℕ) (i : ℕ) → length marks ≤ i → AreMarkedUpTo marks nodes i → AreMarked marks nodes
upto_all marks nodes i past u = record {
  ascending = λ k inside. u.ascending k (k + 1) 0 (omega arith) inside;
  members = λ n. (
    λ has. ((u.members n).0 has).1,
    λ h. elim (cases_lt n (length marks)) [
      | inl inside ↦ (u.members n).1 (omega (arith, inside, past), h)
      | inr out ↦ absurd (true≢false (sym h ∙ get_or_past marks n false out))
    ],
  );
}
