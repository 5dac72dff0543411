use Rattle.std.proofs.Common.{◌≡◌, drop}
use Rattle.relay_aliasfile.specs.QuoteStates.{at_start}
use Rattle.relay_aliasfile.proofs.Outside.{places_from}
use Rattle.relay_aliasfile.proofs.quotes.first_outside.Given as goal

-- no place was passed
abbrev pub invariant-loop-place : goal.invariant-loop-place
invariant-loop-place l = places_from l.wanted l.state l.place (drop l.place l.text) ≡ places_from l.wanted at_start 0 l.text
