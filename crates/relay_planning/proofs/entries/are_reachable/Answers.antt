use Rattle.std.proofs.Common.{ℕ, List, refl, sym, ◌∙◌, subst}
use Rattle.std.proofs.lemmas.Bool.{not-true}
use Rattle.std.proofs.lemmas.List.{take_all}
use Rattle.relay_planning.specs.Entries.{HaveLine, IsTargetLine}
use Rattle.relay_planning.proofs.EntryFacts.{no_line, no_target_line, none_more, none_of_list}
use Rattle.relay_planning.proofs.entries.are_reachable.Goals as goal

pub loop-target-init : goal.loop-target-init
loop-target-init c = λ place q h. no_line (IsTargetLine c.args.graph.now place) q h

pub loop-target-preserved : goal.loop-target-preserved
loop-target-preserved c =
    λ place. none_more c.args.graph.now place c.args.targets.now c.loop-target.target-index c.loop-target-test.true (c.loop-target.invariant place)
    (no_target_line c.args.graph.now place _ c.node.result.now c.node.ensures (c.if-not-is_reachable.ensures refl place))

pub returns : goal.returns
returns c some place =
    let g = c.args.graph.now in
    let targets = c.args.targets.now in
    let none = λ (q : List ℕ). subst (λ (ms : List ℕ). HaveLine (IsTargetLine g place) ms q → ⊥) (take_all c.loop-target.target-index targets c.loop-target-test.false) (c.loop-target.invariant place q) in
    none_of_list g place targets (sym c.is_empty.ensures ∙ not-true c.is_empty.result some) none
