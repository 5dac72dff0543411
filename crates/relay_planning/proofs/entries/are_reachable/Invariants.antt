use Rattle.std.proofs.Common.{ℕ, List, take}
use Rattle.relay_wire.specs.declared.finding.Place.{Place}
use Rattle.relay_planning.specs.Entries.{HaveLine, IsTargetLine}
use Rattle.relay_planning.proofs.entries.are_reachable.Given as goal

abbrev pub invariant-loop-target : goal.invariant-loop-target
invariant-loop-target l = (place : Place) (q : List ℕ) → HaveLine (IsTargetLine l.graph place) (take l.target-index l.targets) q → ⊥
