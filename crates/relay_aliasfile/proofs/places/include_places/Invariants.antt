use Rattle.std.proofs.Common.{◌≡◌, ◌++◌, map, length}
use Rattle.std.specs.Prelude.{flat_map}
use Rattle.relay_text.specs.KeptLines.{kept_rest}
use Rattle.relay_aliasfile.specs.ItemPlaces.{place_value, line_places, include_places_of}
use Rattle.relay_aliasfile.proofs.places.include_places.Given as goal

-- what was gathered so far, with what the lines left give, is what all lines give
abbrev pub invariant-loop-line : goal.invariant-loop-line
invariant-loop-line l = map place_value l.places.items ++ flat_map line_places (kept_rest l.lines) ≡ include_places_of l.bytes

abbrev pub decreases-loop-line : goal.decreases-loop-line
decreases-loop-line l = length (kept_rest l.lines)
