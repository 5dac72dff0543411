-- A search marks the places that have a step.
use Rattle.std.proofs.Common.{◌≡◌, ◌≢◌, ℕ, zero, suc, ◌<◌, Bool, true, false, List, [], ◌∷◌, ◌++◌, length, get_or, map, set, replicate, Option, Some, None, MatchOption, refl, sym, ap, ◌∙◌, subst, inl, inr, arith}
use Rattle.std.specs.Option.{is_some}
use Rattle.std.proofs.lemmas.List.{get_or-map, get_or-replicate, get_or_past, length-map, length-replicate, map-set}
use Rattle.std.proofs.lemmas.Bool.{cases_lt}
use Rattle.std.proofs.lemmas.Option.{none-some, same_Some}
use Rattle.relay_tables.specs.GraphParts.{GraphParts}
use Rattle.relay_pairs.specs.declared.reached.Reached.{Reached}
use Rattle.relay_trails.specs.declared.step.Link.{Link}
use Rattle.relay_trails.specs.declared.step.Link.TheVariants.{Recipient, Item}
use Rattle.relay_trails.specs.declared.step.Step.{Step}
use Rattle.relay_trails.specs.Steps.{IsEarlier, IsMarked, IsTaken, place_at}
use Rattle.relay_trails.specs.Searches.{AreNumbers, IsDone, IsFinished, IsMarkedAt, IsSearch, step_of}
use Rattle.relay_trails.proofs.Ends.{option_cases}

-- no place has a step, and no mark
nowhere : (n place : ℕ) → step_of (replicate n None) place ≡ None
nowhere n place =
    elim (cases_lt place n) [
      | inl less ↦ get_or-replicate n place None None less
      | inr no_less ↦
          let xs : List (Option ℕ) = replicate n None in
          let long : length xs ≡ n = length-replicate n None in
          get_or_past xs place None (omega (arith, long, no_less))
    ]

none_has : (n : ℕ) → map (is_some {T = ℕ}) (replicate n None) ≡ replicate n false
none_has zero = refl
none_has (suc n) = ap (λ (bs : List Bool). false ∷ bs) (none_has n)

nothing_before : {X : Type 0} (link : Link) → IsEarlier link (Recipient 0) → X
nothing_before (Recipient q) early = absurd (omega (arith, early))
nothing_before (Item k i) early = elim early [ ]

pub none_marked : (g : GraphParts) (pairs : List Reached) → IsMarkedAt g pairs (replicate (length pairs) false) [] (Recipient 0)
none_marked g pairs =
    record {
      found = replicate (length pairs) None;
      marked = none_has (length pairs);
      at = record {
        search = record {
          sized = length-replicate (length pairs) None;
          steps_found = λ place k e. absurd (none-some k (sym (nowhere (length pairs) place) ∙ e));
          places = λ k short. absurd (omega (arith, short));
          ends = λ k short. absurd (omega (arith, short));
          pairs_are = λ k short. absurd (omega (arith, short));
          linked = record { backward = λ k short. absurd (omega (arith, short)); trails = λ k short. absurd (omega (arith, short)) };
          rising = λ j k before short. absurd (omega (arith, short));
        };
        earlier = λ k short. absurd (omega (arith, short));
        covered = λ link pair early e. nothing_before link early;
      };
    }

module _ (g : GraphParts) (pairs : List Reached) (marks : List Bool) (steps : List Step) (next : Link) (m : IsMarkedAt g pairs marks steps next) where
  pub marks_long : length marks ≡ length pairs
  marks_long = ap length (sym m.marked) ∙ length-map m.found is_some ∙ m.at.search.sized

  module _ (place : ℕ) (pair : Reached) (inside : place < length pairs) (marks_after : List Bool) (steps_after : List Step) (is : IsMarked place pair next marks steps marks_after steps_after) where
    mark_is : get_or marks place false ≡ is_some (step_of m.found place)
    mark_is = ap (λ (bs : List Bool). get_or bs place false) (sym m.marked) ∙ get_or-map is_some m.found place None false (omega (arith, inside, m.at.search.sized))

    -- what is known of the numbers of steps after that
    pub numbers_after : (found : List (Option ℕ)) × (map is_some found ≡ marks_after) × IsTaken place pair next m.found steps found steps_after
    numbers_after =
        elim (option_cases (step_of m.found place)) [
          | inl none ↦
              let made = is.fresh (mark_is ∙ ap is_some none) in
              let found : List (Option ℕ) = set m.found place (Some (length steps)) in (
                found,
                map-set is_some m.found place (Some (length steps)) ∙ ap (λ (bs : List Bool). set bs place true) m.marked ∙ sym made.0,
                subst (λ (o : Option ℕ). MatchOption o ((found ≡ found) × (steps_after ≡ steps ++ record { place = place; pair = pair; link = next } ∷ [])) (λ (k : ℕ). (found ≡ m.found) × (steps_after ≡ steps))) (sym none) (refl, made.1),
              )
          | inr has ↦
              let kept = is.known (mark_is ∙ ap is_some has.1) in (
                m.found,
                m.marked ∙ sym kept.0,
                subst (λ (o : Option ℕ). MatchOption o ((m.found ≡ set m.found place (Some (length steps))) × (steps_after ≡ steps ++ record { place = place; pair = pair; link = next } ∷ [])) (λ (k : ℕ). (m.found ≡ m.found) × (steps_after ≡ steps))) (sym has.1) (refl, kept.1),
              )
        ]

-- the steps have places of their own
pub places_apart : (g : GraphParts) (pairs : List Reached) (found : List (Option ℕ)) (steps : List Step) → IsSearch g pairs found steps → (j k : ℕ) → j < k → k < length steps → place_at steps j ≢ place_at steps k
places_apart g pairs found steps search j k before short same =
    let j_short : j < length steps = omega (arith, before, short) in
    let n : j ≡ k = same_Some j k (sym (search.places j j_short).1 ∙ ap (step_of found) same ∙ (search.places k short).1) in
    omega (arith, n, before)

-- the numbers of the steps of all places, written down for each place
module _ (g : GraphParts) (pairs : List Reached) (steps : List Step) (f : IsFinished g pairs steps) (numbers : List ℕ) (are : AreNumbers (length pairs) steps numbers) where
  number_at : (place k : ℕ) → place < length pairs → step_of f.found place ≡ Some k → step_of (map Some numbers) place ≡ Some k
  number_at place k inside is =
      let here = f.search.steps_found place k is in
      let n : get_or numbers place 0 ≡ k = ap (λ (p : ℕ). get_or numbers p 0) (sym here.1) ∙ are.each k here.0 in
      get_or-map Some numbers place 0 None (omega (arith, inside, are.long)) ∙ ap Some n

  pub numbered : IsDone g pairs (map Some numbers) steps
  numbered =
      record {
        sized = length-map numbers Some ∙ are.long;
        linked = f.done.linked;
        ended = f.done.ended;
        best = λ place inside. let b = f.done.best place inside in (b.0, b.1, number_at place b.0 inside b.2, b.3);
      }
