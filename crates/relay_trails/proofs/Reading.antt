-- What is read from the steps of a search that is done.
use Rattle.std.proofs.Common.{◌≡◌, ◌≢◌, ℕ, ◌+◌, ◌*◌, ◌^◌, ◌<◌, ◌==◌, Bool, true, false, cond, List, [], ◌∷◌, ◌++◌, length, get_or, map, filter, take, AllPairs, Contains, Option, Some, None, refl, sym, ap, ◌∙◌, subst, inl, inr, arith}
use Rattle.std.specs.List.Sorted.{IsStrictlyIncreasing}
use Rattle.std.proofs.lemmas.Bool.{eq-eqb, eqb-true, ne_eqb}
use Rattle.std.proofs.lemmas.List.{append-nil, get_or-map, length-map, map-append}
use Rattle.std.proofs.lemmas.List.Elements.{All-contains, All-push, All-weaker, filter_more, filter_passes}
use Rattle.std.proofs.lemmas.List.Kept.{AllPairs-filter, AllPairs-from_increasing}
use Rattle.std.proofs.lemmas.Option.{same_Some}
use Rattle.relay_tables.specs.GraphParts.{GraphParts}
use Rattle.relay_pairs.specs.declared.reached.Reached.{Reached}
use Rattle.relay_pairs.specs.Pairs.{ArePairs, IsReachedPair, key_of}
use Rattle.relay_pairs.proofs.Members.{Contains-from_map, Contains-map, cons_cases, in_head, in_tail}
use Rattle.relay_trails.specs.declared.found.Found.{Found}
use Rattle.relay_trails.specs.declared.step.Step.{Step}
use Rattle.relay_trails.specs.Trails.{AreBestTrails, IsBest, trail_of}
use Rattle.relay_trails.specs.Steps.{trail_at}
use Rattle.relay_trails.specs.Searches.{IsDone, no_pair, pair_in, step_of}
use Rattle.relay_trails.specs.Answers.{AreAnswers, HasSteps, IsAnswer}
use Rattle.relay_trails.proofs.Ends.{pair_is}

-- what a filter keeps
kept_behind : {X : Type 0} (b : Bool) (y : X) (ys : List X) (x : X) → Contains ys x → Contains (cond b (y ∷ ys) ys) x
kept_behind true y ys x c = in_tail y ys x c
kept_behind false y ys x c = c

contains_kept : {X : Type 0} (test : X → Bool) (xs : List X) (x : X) → Contains xs x → test x ≡ true → Contains (filter test xs) x
contains_kept test [] x c passes = c
contains_kept test (y ∷ ys) x c passes =
    elim (cons_cases y ys x c) [
      | inl here ↦ subst (λ (b : Bool). Contains (cond b (y ∷ filter test ys) (filter test ys)) x) (sym (ap test here ∙ passes)) (in_head y (filter test ys) x here)
      | inr later ↦ kept_behind (test y) y (filter test ys) x (contains_kept test ys x later passes)
    ]

from_kept : {X : Type 0} (b : Bool) (y : X) (zs ys : List X) (x : X) → (Contains zs x → Contains ys x) → Contains (cond b (y ∷ zs) zs) x → Contains (y ∷ ys) x
from_kept true y zs ys x back c = elim (cons_cases y zs x c) [ inl here ↦ in_head y ys x here | inr later ↦ in_tail y ys x (back later) ]
from_kept false y zs ys x back c = in_tail y ys x (back c)

contains_filtered : {X : Type 0} (test : X → Bool) (xs : List X) (x : X) → Contains (filter test xs) x → Contains xs x
contains_filtered test [] x c = c
contains_filtered test (y ∷ ys) x c = from_kept (test y) y (filter test ys) ys x (contains_filtered test ys x) c

-- the number of a place's step, as it was written down
pub number_read : (count : ℕ) (numbers : List ℕ) (steps : List Step) → HasSteps count (map Some numbers) steps → (place : ℕ) → place < count → (k : ℕ) → k ≡ get_or numbers place 0 → (k < length steps) × (step_of (map Some numbers) place ≡ Some k)
number_read count numbers steps has place short k e =
    let h = has.each place short in
    let is : step_of (map Some numbers) place ≡ Some k = get_or-map Some numbers place 0 None (omega (arith, short, sym (length-map numbers Some) ∙ has.sized)) ∙ ap Some (sym e) in
    let same : h.0 ≡ k = same_Some h.0 k (sym h.2 ∙ is) in
    (subst (λ (n : ℕ). n < length steps) same h.1, is)

module _ (pairs : List Reached) (found : List (Option ℕ)) (steps : List Step) (node : ℕ) (answers : List Found) (place : ℕ) (short : place < length pairs) (before : AreAnswers (take place pairs) pairs found steps node answers) where
  abbrev here : Reached
  here = pair_in pairs place

  -- the pair of a place is taken up or left, as its node is
  filter_at : (b : Bool) → (here.node == node) ≡ b → filter (λ p. p.node == node) (take (place + 1) pairs) ≡ filter (λ p. p.node == node) (take place pairs) ++ cond b (here ∷ []) []
  filter_at b e =
      filter_more (λ (p : Reached). p.node == node) pairs place no_pair short
      ∙ ap (λ (b : Bool). filter (λ (p : Reached). p.node == node) (take place pairs) ++ cond b (here ∷ []) []) e

  pub answer_more : here.node ≡ node → (k : ℕ) → step_of found place ≡ Some k → (answer : Found) → answer.sender ≡ here.sender → trail_of answer ≡ trail_at steps k → AreAnswers (take (place + 1) pairs) pairs found steps node (answers ++ answer ∷ [])
  answer_more same k at answer sender trail =
      let kept = filter (λ (p : Reached). p.node == node) (take place pairs) in
      record {
        senders =
            map-append (λ (f : Found). f.sender) answers (answer ∷ [])
            ∙ ap (λ (ss : List ℕ). ss ++ answer.sender ∷ []) before.senders
            ∙ ap (λ (s : ℕ). map (λ (p : Reached). p.sender) kept ++ s ∷ []) sender
            ∙ sym (map-append (λ (p : Reached). p.sender) kept (here ∷ []))
            ∙ ap (map (λ (p : Reached). p.sender)) (sym (filter_at true (eq-eqb here.node node same)));
        each =
            All-push (IsAnswer pairs found steps node) answers answer before.each
            (record { place = place; below = short; sender = sym sender; node_is = same; step = k; found_is = at; trail = trail });
      }

  pub answer_same : here.node ≢ node → AreAnswers (take (place + 1) pairs) pairs found steps node answers
  answer_same other =
      let kept = filter (λ (p : Reached). p.node == node) (take place pairs) in
      let e : filter (λ (p : Reached). p.node == node) (take (place + 1) pairs) ≡ kept = filter_at false (ne_eqb here.node node other) ∙ append-nil kept in
      record { senders = before.senders ∙ ap (map (λ (p : Reached). p.sender)) (sym e); each = before.each }

rises_by_sender : (s t n m k : ℕ) → n ≡ k → m ≡ k → s * 2 ^ 24 + n < t * 2 ^ 24 + m → s < t
rises_by_sender s t n m k h l less = omega arith

module _ (g : GraphParts) (pairs : List Reached) (all : ArePairs g pairs) (found : List (Option ℕ)) (steps : List Step) (done : IsDone g pairs found steps) where
  pub has_steps : HasSteps (length pairs) found steps
  has_steps = record { sized = done.sized; linked = done.linked; each = λ place below. let b = done.best place below in (b.0, b.1, b.2) }

  keys_rise : AllPairs (λ p q. key_of p < key_of q) pairs
  keys_rise i j d before short =
      let long : length (map key_of pairs) ≡ length pairs = length-map pairs key_of in
      let j_short : j < length (map key_of pairs) = omega (arith, long, short) in
      let i_short : i < length pairs = omega (arith, before, short) in
      let less : get_or (map key_of pairs) i 0 < get_or (map key_of pairs) j 0 = AllPairs-from_increasing (map key_of pairs) all.ascending i j 0 before j_short in
      let a : get_or (map key_of pairs) i 0 ≡ key_of (get_or pairs i d) = get_or-map key_of pairs i d 0 i_short in
      let b : get_or (map key_of pairs) j 0 ≡ key_of (get_or pairs j d) = get_or-map key_of pairs j d 0 short in
      omega (arith, less, a, b)

  module _ (node : ℕ) where
    abbrev of_node : List Reached
    of_node = filter (λ p. p.node == node) pairs

    node_is : (k : ℕ) → k < length of_node → (get_or of_node k no_pair).node ≡ node
    node_is k short = eqb-true (get_or of_node k no_pair).node node (filter_passes (λ (p : Reached). p.node == node) pairs k no_pair short)

    senders_rise : IsStrictlyIncreasing (map (λ p. p.sender) of_node)
    senders_rise k short =
        let long : length (map (λ (p : Reached). p.sender) of_node) ≡ length of_node = length-map of_node (λ (p : Reached). p.sender) in
        let next_short : k + 1 < length of_node = omega (arith, long, short) in
        let k_short : k < length of_node = omega (arith, next_short) in
        let before : k < k + 1 = omega arith in
        let p : Reached = get_or of_node k no_pair in
        let q : Reached = get_or of_node (k + 1) no_pair in
        let keys : key_of p < key_of q = AllPairs-filter (λ (p q : Reached). key_of p < key_of q) (λ (p : Reached). p.node == node) pairs keys_rise k (k + 1) no_pair before next_short in
        let less : p.sender < q.sender = rises_by_sender p.sender q.sender p.node q.node node (node_is k k_short) (node_is (k + 1) next_short) keys in
        let a : get_or (map (λ (p : Reached). p.sender) of_node) k 0 ≡ p.sender = get_or-map (λ (p : Reached). p.sender) of_node k no_pair 0 k_short in
        let b : get_or (map (λ (p : Reached). p.sender) of_node) (k + 1) 0 ≡ q.sender = get_or-map (λ (p : Reached). p.sender) of_node (k + 1) no_pair 0 next_short in
        omega (arith, less, a, b)

    of_node_reached : (s : ℕ) → Contains (map (λ p. p.sender) of_node) s → IsReachedPair g (record { sender = s; node = node })
    of_node_reached s c =
        let p = Contains-from_map (λ (p : Reached). p.sender) of_node s c in
        let passes : (p.0.node == node) ≡ true = All-contains (λ (p : Reached). (p.node == node) ≡ true) of_node p.0 (filter_passes (λ (p : Reached). p.node == node) pairs) p.1 in
        let same : p.0 ≡ record { sender = s; node = node } = pair_is p.0 (record { sender = s; node = node }) p.2 (eqb-true p.0.node node passes) in
        subst (IsReachedPair g) same ((all.members p.0).0 (contains_filtered (λ (p : Reached). p.node == node) pairs p.0 p.1))

    reached_of_node : (s : ℕ) → IsReachedPair g (record { sender = s; node = node }) → Contains (map (λ p. p.sender) of_node) s
    reached_of_node s r =
        let p : Reached = record { sender = s; node = node } in
        Contains-map (λ (p : Reached). p.sender) of_node p (contains_kept (λ (p : Reached). p.node == node) pairs p ((all.members p).1 r) (eq-eqb node node refl))

    best_answer : (f : Found) → IsAnswer pairs found steps node f → IsBest g (record { sender = f.sender; node = node }) (trail_of f)
    best_answer f answer =
        let b = done.best answer.place answer.below in
        let here : Reached = pair_in pairs answer.place in
        let step : b.0 ≡ answer.step = same_Some b.0 answer.step (sym b.2 ∙ answer.found_is) in
        let trail : trail_at steps b.0 ≡ trail_of f = ap (trail_at steps) step ∙ sym answer.trail in
        let pair : here ≡ record { sender = f.sender; node = node } = pair_is here (record { sender = f.sender; node = node }) answer.sender answer.node_is in
        subst (λ (p : Reached). IsBest g p (trail_of f)) pair (subst (IsBest g here) trail b.3)

    pub best_answers : (answers : List Found) → AreAnswers pairs pairs found steps node answers → AreBestTrails g node answers
    best_answers answers are =
        record {
          ascending = subst IsStrictlyIncreasing (sym are.senders) senders_rise;
          senders = λ s. (
            λ c. of_node_reached s (subst (λ (ss : List ℕ). Contains ss s) are.senders c),
            λ r. subst (λ (ss : List ℕ). Contains ss s) (sym are.senders) (reached_of_node s r),
          );
          best = All-weaker (IsAnswer pairs found steps node) (λ (f : Found). IsBest g (record { sender = f.sender; node = node }) (trail_of f)) best_answer answers are.each;
        }
