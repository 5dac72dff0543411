-- The text of a graph in each form.
use Rattle.std.specs.Prelude.{ℕ, List}
use Rattle.relay_tables.specs.Directory.{Directory}
use Rattle.relay_tables.specs.GraphParts.{GraphParts}
use Rattle.relay_expansion.specs.declared.form.GraphForm.{GraphForm}
use Rattle.relay_expansion.specs.declared.form.GraphForm.TheVariants.{Tree, Dot}
use Rattle.relay_expansion.specs.Trees.{IsTreeText}
use Rattle.relay_expansion.specs.Dots.{IsDotText}

abbrev pub IsTextOf : Directory → GraphParts → GraphForm → List ℕ → Type 0
IsTextOf d g Tree text = IsTreeText d g text
IsTextOf d g Dot text = IsDotText d g text
