use Rattle.std.proofs.Common.{◌≡◌, drop, None, Some}
use Rattle.std.specs.Prelude.{IfSome, slice_get}
use Rattle.std.specs.List.{last_or}
use Rattle.relay_aliasfile.specs.QuoteStates.{at_start}
use Rattle.relay_aliasfile.proofs.Outside.{places_from}
use Rattle.relay_aliasfile.proofs.quotes.last_outside.Given as goal

-- the last place so far, unless one follows
abbrev pub invariant-loop-place : goal.invariant-loop-place
invariant-loop-place l = record {
  last : last_or l.last (places_from l.wanted l.state l.place (drop l.place l.text)) ≡ last_or None (places_from l.wanted at_start 0 l.text);
  byte : IfSome l.last (λ place. slice_get l.text place ≡ Some l.wanted);
}
