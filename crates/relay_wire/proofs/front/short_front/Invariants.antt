use Rattle.std.proofs.Common.{◌≡◌, ◌+◌, ◌-◌, ◌*◌, ◌^◌, ◌<◌, drop}
use Rattle.relay_wire.specs.Fronts.{front_number}
use Rattle.relay_wire.proofs.front.short_front.Given as goal

-- the bytes so far, with what the bytes left give, make the number
abbrev pub invariant-loop-place : goal.invariant-loop-place
invariant-loop-place l = record {
  small : l.number < 256 ^ l.place;
  whole : l.number * 256 ^ (8 - l.place) + front_number (8 - l.place) (drop l.place l.text) ≡ front_number 8 l.text;
}
