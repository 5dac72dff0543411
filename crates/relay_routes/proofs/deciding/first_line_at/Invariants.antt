use Rattle.std.proofs.Common.{◌≡◌, drop}
use Rattle.relay_routes.specs.DecidingLines.{first_line_at}
use Rattle.relay_routes.proofs.deciding.first_line_at.Given as goal

-- the keys that are left give what all keys give
abbrev pub invariant-loop-key : goal.invariant-loop-key
invariant-loop-key l = first_line_at l.lines (drop l.key-index l.keys) ≡ first_line_at l.lines l.keys
