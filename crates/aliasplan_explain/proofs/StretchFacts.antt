-- The lines of the steps of stretches, one behind the other, and of a whole trail.
use Rattle.std.proofs.Common.{◌≡◌, ℕ, zero, suc, ◌+◌, ◌-◌, ◌<◌, ◌≤◌, List, [], ◌∷◌, ◌++◌, length, get_or, take, map, slice_get, Some, Result, Ok, IfOk, inl, inr, refl, sym, ap, ◌∙◌, subst, add-zero, arith}
use Rattle.std.proofs.lemmas.Bool.{cases_lt}
use Rattle.std.proofs.lemmas.List.{append-nil, get_or_append_left, get_or-append_right, length-append, map-append}
use Rattle.std.proofs.lemmas.List.Concat.{flat_map-append}
use Rattle.std.proofs.lemmas.Option.{same_Some, slice_get_within}
use Rattle.relay_tables.specs.declared.node.Node.{Node}
use Rattle.relay_tables.specs.GraphParts.{GraphParts}
use Rattle.relay_tables.specs.Targets.{recipient_target}
use Rattle.relay_trails.specs.declared.found.Found.{Found}
use Rattle.relay_trails.specs.Trails.{AreNodesFrom, HasNodes, trail_of}
use Rattle.relay_job.specs.declared.job.Job.{Job}
use Rattle.relay_wire.specs.PlanText.{line, lines_of}
use Rattle.relay_explain.specs.declared.given_by.GivenBy.{GivenBy}
use Rattle.relay_explain.specs.declared.given_by.GivenBy.TheVariants as given
use Rattle.relay_explain.specs.declared.step.Step.{Step}
use Rattle.relay_explain.specs.ExplanationText.{step_line}
use Rattle.relay_explain.specs.PiecedTexts.{text_of}
use Rattle.relay_planning.specs.Delivery.{directory_of, IsJobGraph}
use Rattle.aliasplan_explain.specs.declared.stretch.Stretch.{Stretch}
use Rattle.aliasplan_explain.specs.ChainSteps.{AreStepsFrom, IsGivenPast, IsStepTo, given_past}
use Rattle.aliasplan_explain.specs.Stretches.{AreLinesOf, AreStepsAt, AreStretches, IsFirstLine, IsStepAt, IsTextOf}
use Rattle.aliasplan_explain.proofs.WalkFacts.{child_node, root_node, some_get}

-- ---- one stretch behind another
lines_apart : (xs ys : List Step) → lines_of (map step_line (xs ++ ys)) ≡ lines_of (map step_line xs) ++ lines_of (map step_line ys)
lines_apart xs ys = ap (λ (ls : List (List ℕ)). lines_of ls) (map-append step_line xs ys) ∙ flat_map-append line (map step_line xs) (map step_line ys)

module _ (job : Job) (g : GraphParts) (found : Found) where
  pub no_text : (start : ℕ) → IsTextOf job g found start start []
  no_text start = ([], record { long = add-zero start; each = λ k d short. absurd (omega (arith, short)) }, refl)

  steps_join : (start mid end : ℕ) (xs ys : List Step) → AreStepsAt job g found start mid xs → AreStepsAt job g found mid end ys → AreStepsAt job g found start end (xs ++ ys)
  steps_join start mid end xs ys one other =
      record {
        long = omega (arith, length-append xs ys, one.long, other.long);
        each = λ k d short. elim (cases_lt k (length xs)) [
          | inl before ↦ subst (IsStepAt job g found (start + k)) (sym (get_or_append_left xs ys d k before)) (one.each k d before)
          | inr behind ↦
              let there : mid + (k - length xs) ≡ start + k = omega (arith, one.long, behind) in
              let inside : k - length xs < length ys = omega (arith, length-append xs ys, short, behind) in
              subst (IsStepAt job g found (start + k)) (sym (get_or-append_right xs ys (length xs) k d refl behind))
              (subst (λ (n : ℕ). IsStepAt job g found n (get_or ys (k - length xs) d)) there (other.each (k - length xs) d inside))
        ];
      }

  pub texts_join : (start mid end : ℕ) (t u : List ℕ) → IsTextOf job g found start mid t → IsTextOf job g found mid end u → IsTextOf job g found start end (t ++ u)
  texts_join start mid end t u one other = (
    one.0 ++ other.0,
    steps_join start mid end one.0 other.0 one.1 other.1,
    ap (λ (l : List ℕ). l ++ u) one.2 ∙ ap (λ (l : List ℕ). lines_of (map step_line one.0) ++ l) other.2 ∙ sym (lines_apart one.0 other.0),
  )

  one_step : (place : ℕ) (step : Step) → IsStepAt job g found place step → (k : ℕ) (d : Step) → k < length (step ∷ []) → IsStepAt job g found (place + k) (get_or (step ∷ []) k d)
  one_step place step is zero d short = subst (λ (n : ℕ). IsStepAt job g found n step) (sym (add-zero place)) is
  one_step place step is (suc k) d short = absurd (omega (arith, short))

  pub one_text : (place : ℕ) (step : Step) → IsStepAt job g found place step → IsTextOf job g found place (place + 1) (line (step_line step))
  one_text place step is = (step ∷ [], record { long = omega arith; each = one_step place step is }, sym (append-nil (line (step_line step))))

  -- the texts of stretches
  abbrev pub AreTextsOf : List Stretch → List (List ℕ) → Type 0
  AreTextsOf [] [] = Unit {0}
  AreTextsOf [] (t ∷ texts) = ⊥
  AreTextsOf (s ∷ stretches) [] = ⊥
  AreTextsOf (s ∷ stretches) (t ∷ texts) = IsTextOf job g found s.start s.end t × AreTextsOf stretches texts

  pub stretches_text : (from to : ℕ) (stretches : List Stretch) (texts : List (List ℕ)) → AreStretches from stretches to → AreTextsOf stretches texts → IsTextOf job g found from to (text_of texts)
  stretches_text from to [] [] cut are = subst (λ (n : ℕ). IsTextOf job g found from n []) cut (no_text from)
  stretches_text from to [] (t ∷ texts) cut are = absurd are
  stretches_text from to (s ∷ stretches) [] cut are = absurd are
  stretches_text from to (s ∷ stretches) (t ∷ texts) cut are =
      texts_join from s.end to t (text_of texts) (subst (λ (n : ℕ). IsTextOf job g found n s.end t) cut.0 are.0) (stretches_text s.end to stretches texts cut.2 are.1)

  -- the texts that the results of stretches are
  pub texts_given : {E : Type 0} (stretches : List Stretch) (texts : List (List ℕ)) → length stretches ≡ length texts
      → ((i : ℕ) (s : Stretch) (d : Result (List ℕ) E) → i < length stretches → IfOk (get_or (map (λ (t : List ℕ). Ok t) texts) i d) (IsTextOf job g found (get_or stretches i s).start (get_or stretches i s).end))
      → AreTextsOf stretches texts
  texts_given {E} [] [] long each = tt
  texts_given {E} [] (t ∷ texts) long each = absurd (omega (arith, long))
  texts_given {E} (s ∷ stretches) [] long each = absurd (omega (arith, long))
  texts_given {E} (s ∷ stretches) (t ∷ texts) long each =
      (each 0 s (Ok t) (omega arith), texts_given {E = E} stretches texts (omega (arith, long)) (λ i z d short. each (suc i) z d (omega (arith, short))))

-- each stretch ends within them all
pub stretch_within : (from to : ℕ) (stretches : List Stretch) → AreStretches from stretches to → from ≤ to
stretch_within from to [] cut = omega (arith, cut)
stretch_within from to (s ∷ stretches) cut = omega (arith, cut.0, cut.1, stretch_within s.end to stretches cut.2)

pub stretch_at : (from to : ℕ) (stretches : List Stretch) → AreStretches from stretches to → (k : ℕ) (s : Stretch) → k < length stretches → (get_or stretches k s).start ≤ (get_or stretches k s).end × ((get_or stretches k s).end ≤ to)
stretch_at from to [] cut k s short = absurd (omega (arith, short))
stretch_at from to (x ∷ stretches) cut zero s short = (cut.1, stretch_within x.end to stretches cut.2)
stretch_at from to (x ∷ stretches) cut (suc k) s short = stretch_at x.end to stretches cut.2 k s (omega (arith, short))

-- one stretch more
pub stretches_more : (from mid to : ℕ) (stretches : List Stretch) → AreStretches from stretches mid → (s : Stretch) → s.start ≡ mid → mid ≤ s.end → s.end ≡ to → AreStretches from (stretches ++ s ∷ []) to
stretches_more from mid to [] cut s start order end = (start ∙ sym cut, omega (arith, start, order), end)
stretches_more from mid to (x ∷ stretches) cut s start order end = (cut.0, cut.1, stretches_more x.end mid to stretches cut.2 s start order end)

-- ---- a whole trail
module _ (job : Job) (g : GraphParts) (is : IsJobGraph job g) where
  steps_along : (items : List ℕ) (at : ℕ) (more : List ℕ) (steps : List Step) → AreNodesFrom g at items more → length steps ≡ length items
      → ((k : ℕ) (d : Step) → k < length steps → (a b : Node) → slice_get g.nodes (get_or (at ∷ more) k 0) ≡ Some a → slice_get g.nodes (get_or (at ∷ more) (k + 1) 0) ≡ Some b → IsStepTo job a (get_or items k 0) b (get_or steps k d))
      → (from : Node) → slice_get g.nodes at ≡ Some from → (before after : GivenBy) → IsGivenPast job g before (take (length items) (at ∷ more)) after → AreStepsFrom job from before items steps after
  steps_along [] at more [] lead long each from here before after past = past
  steps_along [] at more (step ∷ steps) lead long each from here before after past = absurd (omega (arith, long))
  steps_along (item ∷ items) at more [] lead long each from here before after past = absurd (omega (arith, long))
  steps_along (item ∷ items) at [] (step ∷ steps) lead long each from here before after past = absurd lead
  steps_along (item ∷ items) at (to ∷ more) (step ∷ steps) lead long each from here before after past =
      let same : past.0 ≡ from = same_Some past.0 from (sym past.1 ∙ here) in
      let target = child_node job g is at from here item to lead.0 in
      let first = each 0 step (omega arith) from target.0 here target.2 in
      let rest = λ (k : ℕ) (d : Step) (short : k < length steps) (a b : Node) (at_a : slice_get g.nodes (get_or (to ∷ more) k 0) ≡ Some a) (at_b : slice_get g.nodes (get_or (to ∷ more) (k + 1) 0) ≡ Some b).
      let next : suc (k + 1) ≡ suc k + 1 = omega arith in
      each (suc k) d (omega (arith, short)) a b at_a (subst (λ (n : ℕ). slice_get g.nodes (get_or (at ∷ to ∷ more) n 0) ≡ Some b) next at_b) in
      let given = subst (λ (node : Node). IsGivenPast job g (given_past job before node) (take (length items) (to ∷ more)) after) same past.2 in
      (target.0, first, steps_along items to more steps lead.1 (omega (arith, long)) rest target.0 target.2 (given_past job before from) after given)

  -- the line of the first step, and the lines of those behind it
  pub lines_are : (lines : List ℕ) → length lines ≡ length job.recipients → (found : Found) (has : HasNodes g found) (first : List ℕ) → IsFirstLine job lines found.recipient first → (pieces : List (List ℕ)) → IsTextOf job g found 0 (length found.items.items) (text_of pieces) → (after : GivenBy) → IsGivenPast job g given.Envelope (take (length found.items.items) found.nodes.items) after → (texts : List (List ℕ)) → texts ≡ first ∷ pieces → AreLinesOf job lines (trail_of found) texts after
  lines_are lines long found has first is_first pieces is_text after past texts texts_are =
      let root = root_node job g is found.recipient has.root has.root_is in
      let below = some_get lines found.recipient (omega (arith, long, slice_get_within job.recipients found.recipient root.0 root.1)) in
      let from : Node = recipient_target (directory_of job) root.0 in
      let steps = is_text.0 in
      let at = is_text.1 in
      let each = λ (k : ℕ) (d : Step) (short : k < length steps) (a b : Node) (at_a : slice_get g.nodes (get_or (has.root ∷ has.more) k 0) ≡ Some a) (at_b : slice_get g.nodes (get_or (has.root ∷ has.more) (k + 1) 0) ≡ Some b).
      let step = subst (λ (n : ℕ). IsStepAt job g found n (get_or steps k d)) (omega arith) (at.each k d short) in
      step a b (ap (λ (ns : List ℕ). slice_get g.nodes (get_or ns k 0)) has.nodes_are ∙ at_a) (ap (λ (ns : List ℕ). slice_get g.nodes (get_or ns (k + 1) 0)) has.nodes_are ∙ at_b) in
      let walk = steps_along found.items.items has.root has.more steps has.lead (omega (arith, at.long)) each from root.2 given.Envelope after (subst (λ (ns : List ℕ). IsGivenPast job g given.Envelope (take (length found.items.items) ns) after) has.nodes_are past) in
      record {
        steps = is_first.step ∷ steps;
        are = record {
          recipient = root.0;
          recipient_is = root.1;
          line = below.0;
          line_is = below.1;
          first = is_first.step;
          more = steps;
          steps_are = refl;
          mention = is_first.mention below.0 root.0 below.1 root.1;
          target = is_first.target root.0 root.1;
          walk = walk;
        };
        texts_are = ap (λ (ts : List (List ℕ)). text_of ts) texts_are ∙ ap (λ (l : List ℕ). l ++ text_of pieces) is_first.text_is ∙ ap (λ (l : List ℕ). line (step_line is_first.step) ++ l) is_text.2;
      }
