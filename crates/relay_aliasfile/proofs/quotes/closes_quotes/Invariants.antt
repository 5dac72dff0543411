use Rattle.std.proofs.Common.{◌≡◌, drop}
use Rattle.relay_aliasfile.specs.QuoteStates.{at_start}
use Rattle.relay_aliasfile.proofs.Outside.{state_after}
use Rattle.relay_aliasfile.proofs.quotes.closes_quotes.Given as goal

-- from here on the rest leads where the whole text leads from its start
abbrev pub invariant-loop-byte : goal.invariant-loop-byte
invariant-loop-byte l = state_after l.state (drop l.byte-index l.text) ≡ state_after at_start l.text
