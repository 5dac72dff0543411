use Rattle.std.proofs.Common.{◌≡◌, drop}
use Rattle.relay_text.specs.Addresses.{is_atext, is_dot, is_dot_string}
use Rattle.relay_text.proofs.Writing.{runs_on}
use Rattle.relay_text.proofs.local.is_dot_string.Given as goal

abbrev pub invariant-loop-byte : goal.invariant-loop-byte
invariant-loop-byte l = runs_on is_atext is_dot l.fresh (drop l.byte-index l.local) ≡ is_dot_string l.local
