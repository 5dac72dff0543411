-- The heading that a reader found.
use Rattle.std.specs.Prelude.{ℕ, List}
use Rattle.relay_aliasfile.specs.AliasFiles.{Heading}
use Rattle.relay_aliasfile.specs.declared.heading.Heading.{Heading as FoundHeading}

abbrev pub heading_value : FoundHeading → Heading
heading_value h = record { name = h.name; list = h.list.now }

abbrev pub heading_list : Heading → List ℕ
heading_list h = h.list
