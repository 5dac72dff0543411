use Rattle.std.proofs.Common.{◌≡◌, ◌+◌, ◌==◌, drop}
use Rattle.std.specs.List.{position_or_len}
use Rattle.relay_routes.proofs.host_form.place_of.Given as goal

-- no byte so far is the one that is looked for
abbrev pub invariant-loop-place : goal.invariant-loop-place
invariant-loop-place l = l.place + position_or_len (λ b. b == l.byte) (drop l.place l.text) ≡ position_or_len (λ b. b == l.byte) l.text
