use Rattle.std.proofs.Common.{◌≢◌, ◌<◌, ℕ, List, length, map, Some, sym, subst}
use Rattle.std.proofs.lemmas.Result.{IfOk-weaker}
use Rattle.relay_trails.specs.declared.step.Step.{Step}
use Rattle.relay_trails.specs.Trails.{AreBestTrails}
use Rattle.relay_trails.specs.Answers.{AreAnswers, HasSteps}
use Rattle.relay_trails.specs.Searches.{AreEnds, AreNumbers, IsDone}
use Rattle.relay_trails.specs.Steps.{place_at}
use Rattle.relay_trails.proofs.Marking.{numbered, places_apart}
use Rattle.relay_trails.proofs.Reading.{has_steps, best_answers}
use Rattle.relay_trails.proofs.answering.best_trails.Goals as goal

pub numbers_of-requires-clause-apart : goal.numbers_of-requires-clause-apart
numbers_of-requires-clause-apart c =
    let f = c.in_ok-steps.ensures in
    subst (λ (ss : List Step). (j k : ℕ) → j < k → k < length ss → place_at ss j ≢ place_at ss k) (sym c.deref.ensures.value)
    (places_apart c.args.graph.now c.args.pairs.now f.found c.in_ok-steps.steps.items f.search)

pub answers-requires-clause-steps : goal.answers-requires-clause-steps
answers-requires-clause-steps c =
    let g = c.args.graph.now in
    let pairs = c.args.pairs.now in
    let steps = c.in_ok-steps.steps.items in
    let numbers = c.in_ok-numbers.numbers.items in
    let are = subst (λ (ss : List Step). AreNumbers (length pairs) ss numbers) c.deref.ensures.value c.in_ok-numbers.ensures in
    let has : HasSteps (length pairs) (map Some numbers) steps = has_steps g pairs c.requires.pairs (map Some numbers) steps (numbered g pairs steps c.in_ok-steps.ensures numbers are) in
    subst (λ (ns : List ℕ). HasSteps (length pairs) (map Some ns) c.deref-3.result.now) (sym c.deref-2.ensures.value)
    (subst (λ (ss : List Step). HasSteps (length pairs) (map Some numbers) ss) (sym c.deref-3.ensures.value) has)

pub answers-requires-clause-ends : goal.answers-requires-clause-ends
answers-requires-clause-ends c = subst (λ (ss : List Step). AreEnds c.args.graph.now c.args.pairs.now ss) (sym c.deref-3.ensures.value) c.in_ok-steps.ensures.done.ended

pub returns-clause-best : goal.returns-clause-best
returns-clause-best c =
    let g = c.args.graph.now in
    let pairs = c.args.pairs.now in
    let steps = c.in_ok-steps.steps.items in
    let numbers = c.in_ok-numbers.numbers.items in
    let are = subst (λ (ss : List Step). AreNumbers (length pairs) ss numbers) c.deref.ensures.value c.in_ok-numbers.ensures in
    let ns = c.deref-2.result.now in
    let ss = c.deref-3.result.now in
    let done =
    subst (λ (xs : List ℕ). IsDone g pairs (map Some xs) ss) (sym c.deref-2.ensures.value)
    (subst (λ (xs : List Step). IsDone g pairs (map Some numbers) xs) (sym c.deref-3.ensures.value) (numbered g pairs steps c.in_ok-steps.ensures numbers are)) in
    IfOk-weaker c.answers.result (λ found. AreAnswers pairs pairs (map Some ns) ss c.args.node found.items) (λ found. AreBestTrails g c.args.node found.items)
    (λ found all. best_answers g pairs c.requires.pairs (map Some ns) ss done c.args.node found.items all) c.answers.ensures.answers
