-- Include files that are followed breadth first.
use Rattle.std.proofs.Common.{◌≡◌, ℕ, ◌+◌, ◌<◌, ◌≤◌, Bool, true, false, cond, List, [], ◌∷◌, ◌++◌, length, take, drop, map, get_or, Some, Err, Result, refl, sym, ap, subst, ◌∙◌, ◌⊎◌, inl, inr, append_assoc, arith, length-append, zero, suc}
use Rattle.std.specs.List.{slice_get, Contains}
use Rattle.std.specs.Prelude.{not, filter}
use Rattle.std.specs.Str.{bytes_eq}
use Rattle.std.proofs.lemmas.Bool.{cases_lt}
use Rattle.std.proofs.lemmas.Grind.{flat_map-append}
use Rattle.std.proofs.lemmas.List.{append-nil, take_more, take_all, take-append-le, take-append-drop, get_or_append_left, map-append}
use Rattle.std.proofs.lemmas.List.Elements.{Contains-append_left, Contains-append_right, Contains-append_cases}
use Rattle.std.proofs.lemmas.Option.{slice_get_within, slice_get-get_or, get_or_from_slice_get}
use Rattle.relay_text.specs.Bytes.{has_text, firsts}
use Rattle.relay_aliasfile.specs.DistinctTexts.{with_text, with_texts}
use Rattle.relay_aliasfile.proofs.FirstTexts.{with_texts-is, with_texts-none}
use Rattle.relay_job.specs.declared.fault.RunFault.{RunFault}
use Rattle.relay_gather.specs.declared.gathered.Gathered.{Gathered}
use Rattle.relay_gather.specs.Source.{Answer}
use Rattle.relay_gather.specs.Sections.{joined}
use Rattle.relay_gather.specs.Gathering.{included_in, names_of, later_names, IsNamedBy, AreNamed, IsBreadthFirst, IsFront}
use Rattle.relay_gather.specs.Gathered.{Adds}
use Rattle.relay_gather.specs.Including.{AreFollowed, AreHalted}
use Rattle.relay_gather.proofs.Joining.{Adds-none, Adds-more, joined-later}

-- ---- texts that are added one by one
pub with_texts-append : (ts xs ys : List (List ℕ)) → with_texts ts (xs ++ ys) ≡ with_texts (with_texts ts xs) ys
with_texts-append ts [] ys = refl
with_texts-append ts (x ∷ xs) ys = with_texts-append (with_text ts x) xs ys

pub texts_grow : (ts xs now : List (List ℕ)) → now ≡ with_texts ts xs → length ts ≤ length now
texts_grow ts xs now e =
    let more : List (List ℕ) = filter (λ y. not (has_text ts y)) (firsts bytes_eq xs) in
    let long : length now ≡ length (ts ++ more) = ap length (e ∙ with_texts-is ts xs) in
    omega (arith, long, length-append ts more)

pub texts_from : (ts xs : List (List ℕ)) (p : List ℕ) → Contains (with_texts ts xs) p → Contains ts p ⊎ Contains xs p
texts_from ts [] p h = inl h
texts_from ts (x ∷ xs) p h = elim (texts_from (with_text ts x) xs p h) [ inl here ↦ at (has_text ts x) here | inr later ↦ inr (Contains-append_right (x ∷ []) xs p later) ] where
  at : (b : Bool) → Contains (cond b ts (ts ++ x ∷ [])) p → Contains ts p ⊎ Contains (x ∷ xs) p
  at true g = inl g
  at false g = elim (Contains-append_cases ts (x ∷ []) p g) [ inl old ↦ inl old | inr new ↦ inr (Contains-append_left (x ∷ []) xs p new) ]

pub added_more : (old now paths : List (List ℕ)) (i : ℕ) (x : List ℕ) → i < length paths → x ≡ get_or paths i x → now ≡ with_texts old (take i paths) → with_text now x ≡ with_texts old (take (i + 1) paths)
added_more old now paths i x inside is h =
    ap (λ ts. with_text ts x) h ∙ sym (with_texts-append old (take i paths) (x ∷ [])) ∙ ap (λ y. with_texts old (take i paths ++ y ∷ [])) is ∙ ap (with_texts old) (sym (take_more paths i x inside))

take-take : (k n : ℕ) (xs : List (List ℕ)) → k ≤ n → take k (take n xs) ≡ take k xs
take-take zero n xs h = refl
take-take (suc k) zero xs h = absurd (omega (arith, h))
take-take (suc k) (suc n) [] h = refl
take-take (suc k) (suc n) (x ∷ xs) h = ap (λ ys. x ∷ ys) (take-take k n xs (omega (arith, h)))

slice_get-take : (n k : ℕ) (xs : List (List ℕ)) (p : List ℕ) → slice_get (take n xs) k ≡ Some p → slice_get xs k ≡ Some p
slice_get-take zero k xs p h = absurd (let no : ⊥ = cc in no)
slice_get-take (suc n) k [] p h = h
slice_get-take (suc n) zero (x ∷ xs) p h = h
slice_get-take (suc n) (suc k) (x ∷ xs) p h = slice_get-take n k xs p h

length-take_le : (n : ℕ) (xs : List (List ℕ)) → length (take n xs) ≤ n
length-take_le zero xs = omega arith
length-take_le (suc n) [] = omega arith
length-take_le (suc n) (x ∷ xs) = let h = length-take_le n xs in omega (arith, h)

module _ (answer : List ℕ → Answer) (first : List (List ℕ)) where
  -- the paths that are known where those before a place are followed
  pub record IsQueue (place : ℕ) (paths : List (List ℕ)) : Type 0 where
    pub order : paths ≡ with_texts [] (first ++ later_names answer (take place paths))
    pub named : AreNamed answer first paths

  wider : (xs ys zs : List (List ℕ)) (p : List ℕ) → ys ++ zs ≡ xs → IsNamedBy answer first ys p → IsNamedBy answer first xs p
  wider xs ys zs p e h = elim h [
    | inl by_first ↦ inl by_first
    | inr by_file ↦
        inr (subst (λ (ls : List (List ℕ)). Contains ls p) (sym (flat_map-append (names_of answer) ys zs) ∙ ap (later_names answer) e)
        (Contains-append_left (later_names answer ys) (later_names answer zs) p by_file))
  ]

  pub IsQueue-start : (paths : List (List ℕ)) → paths ≡ with_texts [] first → IsQueue 0 paths
  IsQueue-start paths e = record {
    order = e ∙ ap (with_texts []) (sym (append-nil first));
    named = λ place p h. elim (texts_from [] first p (subst (λ (ps : List (List ℕ)). Contains ps p) e (place, slice_get_within paths place p h, get_or_from_slice_get paths place p p h))) [
      | inl none ↦ absurd (let inside : none.0 < 0 = none.1 in omega arith)
      | inr there ↦ inl there
    ];
  }

  module _ (i : ℕ) (paths : List (List ℕ)) (path : List ℕ) (next : List (List ℕ)) (q : IsQueue i paths) (inside : i < length paths) (here : path ≡ get_or paths i path)
      (e : next ≡ with_texts paths (names_of answer path)) where
    grown : next ≡ paths ++ filter (λ y. not (has_text paths y)) (firsts bytes_eq (names_of answer path))
    grown = e ∙ with_texts-is paths (names_of answer path)

    front_same : (k : ℕ) → k ≤ length paths → take k next ≡ take k paths
    front_same k h = ap (take k) grown ∙ take-append-le k paths (filter (λ y. not (has_text paths y)) (firsts bytes_eq (names_of answer path))) h

    pub front_is : take (i + 1) next ≡ take i paths ++ path ∷ []
    front_is = front_same (i + 1) (omega (arith, inside)) ∙ take_more paths i path inside ∙ ap (λ y. take i paths ++ y ∷ []) (sym here)

    passed : later_names answer (take (i + 1) next) ≡ later_names answer (take i paths) ++ names_of answer path
    passed = ap (later_names answer) front_is ∙ flat_map-append (names_of answer) (take i paths) (path ∷ []) ∙ ap (λ ls. later_names answer (take i paths) ++ ls) (append-nil (names_of answer path))

    in_order : next ≡ with_texts [] (first ++ later_names answer (take (i + 1) next))
    in_order =
        e ∙ ap (λ ps. with_texts ps (names_of answer path)) q.order
        ∙ sym (with_texts-append [] (first ++ later_names answer (take i paths)) (names_of answer path))
        ∙ ap (with_texts []) (append_assoc first (later_names answer (take i paths)) (names_of answer path))
        ∙ ap (λ ls. with_texts [] (first ++ ls)) (sym passed)

    known : (place : ℕ) (p : List ℕ) → place < length paths → slice_get next place ≡ Some p → slice_get paths place ≡ Some p
    known place p less h =
        slice_get-get_or paths place p less
        ∙ ap Some (sym (get_or_append_left paths (filter (λ y. not (has_text paths y)) (firsts bytes_eq (names_of answer path))) p place less) ∙ ap (λ ps. get_or ps place p) (sym grown) ∙ get_or_from_slice_get next place p p h)

    prefix : (k place : ℕ) → k ≤ place → k ≤ length paths → take k paths ++ drop k (take place next) ≡ take place next
    prefix k place h g = ap (λ ls. ls ++ drop k (take place next)) (sym (take-take k place next h ∙ front_same k g)) ∙ take-append-drop k (take place next)

    all_named : AreNamed answer first next
    all_named place p h = elim (cases_lt place (length paths)) [
      | inl less ↦ subst (λ (ls : List (List ℕ)). IsNamedBy answer first ls p) (sym (front_same place (omega (arith, less)))) (q.named place p (known place p less h))
      | inr past ↦ elim (texts_from paths (names_of answer path) p (subst (λ (ps : List (List ℕ)). Contains ps p) e (place, slice_get_within next place p h, get_or_from_slice_get next place p p h))) [
        | inl old ↦
            (let k : ℕ = old.0 in
            let within : k < length paths = old.1 in
            let at_k : slice_get paths k ≡ Some p = slice_get-get_or paths k p within ∙ ap Some old.2 in
            wider (take place next) (take k paths) (drop k (take place next)) p (prefix k place (omega (arith, within, past)) (omega (arith, within))) (q.named k p at_k))
        | inr new ↦
            wider (take place next) (take (i + 1) next) (drop (i + 1) (take place next)) p
            (ap (λ ls. ls ++ drop (i + 1) (take place next)) (sym (take-take (i + 1) place next (omega (arith, inside, past)))) ∙ take-append-drop (i + 1) (take place next))
            (inr (subst (λ (ls : List (List ℕ)). Contains ls p) (sym passed) (Contains-append_right (later_names answer (take i paths)) (names_of answer path) p new)))
      ]
    ]

    pub IsQueue-more : IsQueue (i + 1) next
    IsQueue-more = record { order = in_order; named = all_named }

  pub IsQueue-all : (place : ℕ) (paths : List (List ℕ)) → IsQueue place paths → length paths ≤ place → IsBreadthFirst answer first paths
  IsQueue-all place paths q past = record {
    order = q.order ∙ ap (λ ls. with_texts [] (first ++ later_names answer ls)) (take_all place paths past) ∙ with_texts-none (first ++ later_names answer paths);
    named = q.named;
  }

  -- those before a place are a front of the order
  pub IsQueue-front : (place : ℕ) (paths : List (List ℕ)) → IsQueue place paths → IsFront answer first (take place paths)
  IsQueue-front place paths q = record {
    later = drop place paths;
    order = take-append-drop place paths ∙ q.order ∙ with_texts-none (first ++ later_names answer (take place paths));
    named = λ k p h.
        let within : k < length (take place paths) = slice_get_within (take place paths) k p h in
        let few = length-take_le place paths in
        subst (λ (ls : List (List ℕ)). IsNamedBy answer first ls p) (sym (take-take k place paths (omega (arith, within, few)))) (q.named k p (slice_get-take place k paths p h));
  }

  -- ---- the loop
  -- the include files before a place are followed, and their sections put
  pub record IsFollowing (place : ℕ) (paths : List (List ℕ)) (old new : Gathered) : Type 0 where
    pub queue : IsQueue place paths
    pub adds : Adds (map (included_in answer) (take place paths)) old new

  pub IsFollowing-start : (paths : List (List ℕ)) (old : Gathered) → paths ≡ with_texts [] first → IsFollowing 0 paths old old
  IsFollowing-start paths old e = record { queue = IsQueue-start paths e; adds = Adds-none old }

  sections_front : (i : ℕ) (paths : List (List ℕ)) (path : List ℕ) (next : List (List ℕ)) → take (i + 1) next ≡ take i paths ++ path ∷ []
      → map (included_in answer) (take (i + 1) next) ≡ map (included_in answer) (take i paths) ++ included_in answer path ∷ []
  sections_front i paths path next e = ap (map (included_in answer)) e ∙ map-append (included_in answer) (take i paths) (path ∷ [])

  pub IsFollowing-more : (i : ℕ) (paths : List (List ℕ)) (path : List ℕ) (names next : List (List ℕ)) (old mid new : Gathered) → IsFollowing i paths old mid → i < length paths → path ≡ get_or paths i path
      → names ≡ names_of answer path → Adds (included_in answer path ∷ []) mid new → next ≡ with_texts paths names → IsFollowing (i + 1) next old new
  IsFollowing-more i paths path names next old mid new f inside here named adds e =
      let grown : next ≡ with_texts paths (names_of answer path) = e ∙ ap (with_texts paths) named in
      record {
        queue = IsQueue-more i paths path next f.queue inside here grown;
        adds = subst (λ (ss : List (Result (List ℕ) RunFault)). Adds ss old new) (sym (sections_front i paths path next (front_is i paths path next f.queue inside here grown)))
            (Adds-more (map (included_in answer) (take i paths)) (included_in answer path ∷ []) old mid new f.adds adds);
      }

  pub IsFollowing-stop : (i : ℕ) (paths : List (List ℕ)) (path : List ℕ) (old mid : Gathered) (fault : RunFault) → IsFollowing i paths old mid → i < length paths → path ≡ get_or paths i path
      → joined (included_in answer path ∷ []) mid.room ≡ Err fault → AreHalted answer first old fault
  IsFollowing-stop i paths path old mid fault f inside here h =
      let next : List (List ℕ) = with_texts paths (names_of answer path) in
      record {
        includes = take (i + 1) next;
        order = IsQueue-front (i + 1) next (IsQueue-more i paths path next f.queue inside here refl);
        joins = ap (λ ss. joined ss old.room) (sections_front i paths path next (front_is i paths path next f.queue inside here refl))
            ∙ joined-later (map (included_in answer) (take i paths)) (included_in answer path ∷ []) old mid fault f.adds h;
      }

  pub IsFollowing-end : (place : ℕ) (paths : List (List ℕ)) (old new : Gathered) → IsFollowing place paths old new → length paths ≤ place → AreFollowed answer first old new
  IsFollowing-end place paths old new f past = record {
    includes = paths;
    order = IsQueue-all place paths f.queue past;
    adds = subst (λ (ps : List (List ℕ)). Adds (map (included_in answer) ps) old new) (take_all place paths past) f.adds;
  }
