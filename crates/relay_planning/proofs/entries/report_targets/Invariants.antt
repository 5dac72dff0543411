use Rattle.std.proofs.Common.{take}
use Rattle.relay_planning.specs.Findings.{Reports}
use Rattle.relay_planning.specs.Listing.{place_at}
use Rattle.relay_planning.specs.Entries.{HaveLine, IsTargetLine}
use Rattle.relay_planning.proofs.entries.report_targets.Given as goal

abbrev pub invariant-loop-index : goal.invariant-loop-index
invariant-loop-index g l = Reports l.initial.lines l.lines (HaveLine (IsTargetLine l.graph (place_at l.listing)) (take l.index l.targets))
