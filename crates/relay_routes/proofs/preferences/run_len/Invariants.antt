use Rattle.std.proofs.Common.{◌≡◌, ◌+◌, drop}
use Rattle.std.specs.List.{position_or_len}
use Rattle.relay_routes.proofs.Runs.{is_later}
use Rattle.relay_routes.proofs.preferences.run_len.Given as goal

-- the exchangers so far are of the first's preference
abbrev pub invariant-loop-place : goal.invariant-loop-place
invariant-loop-place l = l.place + position_or_len (λ r. is_later l.preference r.now) (drop l.place l.exchangers) ≡ position_or_len (λ r. is_later l.preference r.now) l.exchangers
