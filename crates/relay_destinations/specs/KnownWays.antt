-- Ways by text.
use Rattle.std.specs.Prelude.{ℕ, List, [], ◌∷◌, Option, Some, None, if◌then◌else◌}
use Rattle.std.specs.Str.{bytes_eq}
use Rattle.relay_destinations.specs.declared.way.Way.{Way}

abbrev pub way_in : List (List ℕ × Way) → List ℕ → Option Way
way_in [] text = None
way_in (pair ∷ pairs) text = if bytes_eq text pair.0 then Some pair.1 else way_in pairs text
