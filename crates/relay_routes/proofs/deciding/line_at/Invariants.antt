use Rattle.std.proofs.Common.{◌≡◌, drop}
use Rattle.relay_routes.specs.DecidingLines.{line_at}
use Rattle.relay_routes.proofs.deciding.line_at.Given as goal

-- the lines that are left give what all lines give
abbrev pub invariant-loop-line : goal.invariant-loop-line
invariant-loop-line l = line_at (drop l.line-index l.lines) l.pattern ≡ line_at l.lines l.pattern
