use Rattle.std.proofs.Common.{◌≡◌, Bool, false, List, length, replicate, sym, subst}
use Rattle.relay_trails.specs.declared.step.Link.TheVariants.{Recipient}
use Rattle.relay_trails.specs.declared.step.Step.{Step}
use Rattle.relay_trails.specs.Searches.{IsMarkedAt}
use Rattle.relay_trails.proofs.Covering.{all_done}
use Rattle.relay_trails.proofs.Marking.{none_marked}
use Rattle.relay_trails.proofs.search.steps_to.Goals as goal

pub take_recipients-requires-clause-before : goal.take_recipients-requires-clause-before
take_recipients-requires-clause-before c =
    let g = c.args.graph.now in
    let pairs = c.args.pairs.now in
    let marks : c.in_ok-vec.field-0.items ≡ replicate (length pairs) false = c.in_ok-vec.ensures.items_if_clones_equal (λ y e. e) in
    subst (λ (ms : List Bool). IsMarkedAt g pairs ms c.in_ok-with_capacity.field-0.items (Recipient 0)) (sym marks)
    (subst (λ (ss : List Step). IsMarkedAt g pairs (replicate (length pairs) false) ss (Recipient 0)) (sym c.in_ok-with_capacity.ensures.items) (none_marked g pairs))

pub returns : goal.returns
returns c =
    let g = c.args.graph.now in
    let pairs = c.args.pairs.now in
    let steps = c.go_on.new.self.steps.items in
    let m = c.in_ok-go_on.ensures in
    record { found = m.found; search = m.at.search; done = all_done g pairs m.found steps m.at c.requires.pairs }
