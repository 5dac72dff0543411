-- The steps of a walk in depth.
use Rattle.std.proofs.Common.{set, get_or-set_same, get_or-set_other, length-set, length-append, ◌++◌, ◌≡◌, ℕ, ◌<◌, ◌≤◌, zero, suc, Bool, true, false, List, [], ◌∷◌, length, reverse, slice_index, All, refl, subst, sym, ap, ◌∙◌, ◌⊎◌, inl, inr, arith, Contains}
use Rattle.std.proofs.lemmas.Bool.Decides.{eqb_tells}
use Rattle.std.proofs.lemmas.List.Elements.{All-nil, All-cons, All-contains, All-push, All-weaker, Contains-push, Contains-push_cases, Contains-append_left}
use Rattle.std.proofs.lemmas.List.{get_or_append_left, reverse-append}
use Rattle.std.proofs.lemmas.Grind.{get_or_default_zero}
use Rattle.std.proofs.lemmas.List.Sums.{sum_by-set}
use Rattle.relay_loops.specs.declared.pivots.Visit.{Visit}
use Rattle.relay_loops.specs.Naming.{is_fresh, nodes_of, one_if, work_left, GoesOn, IsKept}
use Rattle.relay_loops.proofs.Members.{Contains-map, Contains-from_map}

pub fresh-below : (fresh : List Bool) (n : ℕ) → is_fresh fresh n ≡ true → n < length fresh
fresh-below [] n h = cc
fresh-below (x ∷ xs) zero h = omega arith
fresh-below (x ∷ xs) (suc n) h = let r = fresh-below xs n h in omega arith

path_more : (path : List Visit) (last : Visit) (n : ℕ) → Contains (nodes_of path) n → Contains (nodes_of (path ++ last ∷ [])) n
path_more path last n c =
    let r = Contains-from_map (λ (visit : Visit). visit.node) path n c in
    subst (λ (m : ℕ). Contains (nodes_of (path ++ last ∷ [])) m) r.2 (Contains-map (λ (visit : Visit). visit.node) (path ++ last ∷ []) r.0 (Contains-append_left path (last ∷ []) r.0 r.1))

path_last : (path : List Visit) (last : Visit) → Contains (nodes_of (path ++ last ∷ [])) last.node
path_last path last = Contains-map (λ (visit : Visit). visit.node) (path ++ last ∷ []) last (Contains-push path last)

path_cases : (path : List Visit) (last : Visit) (n : ℕ) → Contains (nodes_of (path ++ last ∷ [])) n → Contains (nodes_of path) n ⊎ (last.node ≡ n)
path_cases path last n c =
    let r = Contains-from_map (λ (visit : Visit). visit.node) (path ++ last ∷ []) n c in
    elim (Contains-push_cases path last r.0 r.1) [
      | inl earlier ↦ inl (subst (λ (m : ℕ). Contains (nodes_of path) m) r.2 (Contains-map (λ (visit : Visit). visit.node) path r.0 earlier))
      | inr e ↦ inr (ap (λ (visit : Visit). visit.node) e ∙ r.2)
    ]

pub goes_nowhere : (fresh : List Bool) (path : List Visit) (order : List ℕ) → GoesOn fresh path order fresh path order
goes_nowhere fresh path order = record { kept = λ n k. k; fewer = λ n h. h; sized = refl; within = λ w. w }

pub goes_then : (f : List Bool) (p : List Visit) (o : List ℕ) (f1 : List Bool) (p1 : List Visit) (o1 : List ℕ) (f2 : List Bool) (p2 : List Visit) (o2 : List ℕ) → GoesOn f p o f1 p1 o1 → GoesOn f1 p1 o1 f2 p2 o2 → GoesOn f p o f2 p2 o2
goes_then f p o f1 p1 o1 f2 p2 o2 first second =
    record {
      kept = λ n k. second.kept n (first.kept n k);
      fewer = λ n h. second.fewer n (first.fewer n h);
      sized = second.sized ∙ first.sized;
      within = λ w. second.within (first.within w);
    }

module _ (fresh : List Bool) (path : List Visit) (order : List ℕ) (node : ℕ) (visit : Visit) (same : visit.node ≡ node) (is_new : is_fresh fresh node ≡ true) where
  pub entered_left : is_fresh (set fresh node false) node ≡ false
  entered_left = get_or-set_same fresh node false false (fresh-below fresh node is_new)

  pub entered : GoesOn fresh path order (set fresh node false) (path ++ visit ∷ []) order
  entered =
      record {
        kept = λ n k.
            elim k [
              | inl was ↦
                  elim (eqb_tells n node) [
                    | inl e ↦ inr (inl (subst (λ (m : ℕ). Contains (nodes_of (path ++ visit ∷ [])) m) (same ∙ sym e.1) (path_last path visit)))
                    | inr differ ↦ inl (get_or-set_other fresh node n false false differ.1 ∙ was)
                  ]
              | inr met ↦
                  elim met [
                    | inl on_path ↦ inr (inl (path_more path visit n on_path))
                    | inr named ↦ inr (inr named)
                  ]
            ];
        fewer = λ n h.
            elim (eqb_tells n node) [
              | inl e ↦ subst (λ (m : ℕ). is_fresh (set fresh node false) m ≡ false) (sym e.1) entered_left
              | inr differ ↦ get_or-set_other fresh node n false false differ.1 ∙ h
            ];
        sized = rw length-set refl;
        within = λ w.
            let below : visit.node < length fresh = subst (λ (m : ℕ). m < length fresh) (sym same) (fresh-below fresh node is_new) in
            rw length-set (All-push (λ (v : Visit). v.node < length fresh) path visit w below);
      }

  pub entered_work : work_left (set fresh node false) (path ++ visit ∷ []) < work_left fresh path
  entered_work =
      let few = sum_by-set one_if fresh node false false (fresh-below fresh node is_new) in
      let one : one_if (is_fresh fresh node) ≡ one_if true = ap one_if is_new in
      let long = length-append path (visit ∷ []) in
      omega (arith, few, one, long)

all_first : (P : Visit → Type 0) (path : List Visit) (last : Visit) → All P (path ++ last ∷ []) → All P path
all_first P path last all k d below =
    subst P (get_or_append_left path (last ∷ []) d k below) (all k d (omega (arith, length-append path (last ∷ []))))

all_last : (P : Visit → Type 0) (path : List Visit) (last : Visit) → All P (path ++ last ∷ []) → P last
all_last P path last all = All-contains P (path ++ last ∷ []) last all (Contains-push path last)

all_again : (fresh : List Bool) (path : List Visit) (last again : Visit) → again.node ≡ last.node → All (λ visit. visit.node < length fresh) (path ++ last ∷ []) → All (λ visit. visit.node < length fresh) (path ++ again ∷ [])
all_again fresh path last again same w =
    All-push (λ (v : Visit). v.node < length fresh) path again (all_first (λ (v : Visit). v.node < length fresh) path last w)
    (subst (λ (m : ℕ). m < length fresh) (sym same) (all_last (λ (v : Visit). v.node < length fresh) path last w))

-- the last node of the path is looked at again later
pub turned : (fresh : List Bool) (path : List Visit) (order : List ℕ) (last again : Visit) → again.node ≡ last.node → GoesOn fresh (path ++ last ∷ []) order fresh (path ++ again ∷ []) order
turned fresh path order last again same =
    record {
      kept = λ n k.
          elim k [
            | inl was ↦ inl was
            | inr met ↦
                elim met [
                  | inr named ↦ inr (inr named)
                  | inl on_path ↦
                      elim (path_cases path last n on_path) [
                        | inl earlier ↦ inr (inl (path_more path again n earlier))
                        | inr e ↦ inr (inl (subst (λ (m : ℕ). Contains (nodes_of (path ++ again ∷ [])) m) (same ∙ e) (path_last path again)))
                      ]
                ]
          ];
      fewer = λ n h. h;
      sized = refl;
      within = λ w. all_again fresh path last again same w;
    }

-- the last node of the path is left
pub left_behind : (fresh : List Bool) (path : List Visit) (order : List ℕ) (last : Visit) → GoesOn fresh (path ++ last ∷ []) order fresh path (order ++ last.node ∷ [])
left_behind fresh path order last =
    record {
      kept = λ n k.
          elim k [
            | inl was ↦ inl was
            | inr met ↦
                elim met [
                  | inr named ↦ inr (inr (Contains-append_left order (last.node ∷ []) n named))
                  | inl on_path ↦
                      elim (path_cases path last n on_path) [
                        | inl earlier ↦ inr (inl earlier)
                        | inr e ↦ inr (inr (subst (λ (m : ℕ). Contains (order ++ last.node ∷ []) m) e (Contains-push order last.node)))
                      ]
                ]
          ];
      fewer = λ n h. h;
      sized = refl;
      within = λ w. all_first (λ (v : Visit). v.node < length fresh) path last w;
    }

reversed_all : (xs : List ℕ) → All (Contains (reverse xs)) xs
reversed_all [] = All-nil (Contains (reverse []))
reversed_all (x ∷ xs) =
    let e : reverse (x ∷ xs) ≡ reverse xs ++ x ∷ [] = reverse-append (x ∷ []) xs in
    subst (λ (l : List ℕ). All (Contains l) (x ∷ xs)) (sym e)
    (All-cons (Contains (reverse xs ++ x ∷ [])) x xs (Contains-push (reverse xs) x)
    (All-weaker (Contains (reverse xs)) (Contains (reverse xs ++ x ∷ [])) (λ n c. Contains-append_left (reverse xs) (x ∷ []) n c) xs (reversed_all xs)))

pub reversed_contains : (xs : List ℕ) (n : ℕ) → Contains xs n → Contains (reverse xs) n
reversed_contains xs n c = All-contains (Contains (reverse xs)) xs n (reversed_all xs) c

-- once no path is left, what isn't fresh is named
pub named_at_last : (fresh : List Bool) (order : List ℕ) (n : ℕ) → IsKept fresh [] order n → is_fresh fresh n ≡ false → Contains order n
named_at_last fresh order n k h =
    elim k [
      | inl was ↦ absurd (let x = was in let y = h in cc)
      | inr met ↦ elim met [ inl on_path ↦ absurd (omega (arith, on_path.1)) | inr named ↦ named ]
    ]

pub named_all : (fresh : List Bool) (path : List Visit) (order reached : List ℕ) (i : ℕ) → length reached ≤ i → path ≡ [] → ((n : ℕ) → Contains reached n → IsKept fresh path order n) → ((k : ℕ) → k < i → is_fresh fresh (slice_index reached k) ≡ false) → (n : ℕ) → Contains reached n → Contains (reverse order) n
named_all fresh path order reached i all none kept passed n c =
    let at : slice_index reached c.0 ≡ n = sym (get_or_default_zero reached c.0 n c.1) ∙ c.2 in
    let below : c.0 < length reached = c.1 in
    let old : is_fresh fresh n ≡ false = subst (λ (m : ℕ). is_fresh fresh m ≡ false) at (passed c.0 (omega arith)) in
    reversed_contains order n (named_at_last fresh order n (subst (λ (p : List Visit). IsKept fresh p order n) none (kept n c)) old)
