-- What the lines of an MX table say.
use Rattle.std.specs.Prelude.{◌≡◌, ℕ, List, ◌++◌, filter_map, flat_map}
use Rattle.relay_halves.specs.Halves.{kept_behind}
use Rattle.relay_routes.specs.Exchanges.{record_in, faults_in}
use Rattle.relay_routes.specs.declared.record_lines.RecordLines.{RecordLines}

-- These are the records and the faults of a text, where so many lines of the table stand before it.
pub record AreRead (passed : ℕ) (text : List ℕ) (lines : RecordLines) : Type 0 where
  pub records : lines.records.items ≡ filter_map record_in (kept_behind passed text)
  pub faults : lines.faults.items ≡ flat_map faults_in (kept_behind passed text)

-- These are the records and the faults of two parts.
abbrev pub AreBoth : RecordLines → RecordLines → RecordLines → Type 0
AreBoth first second lines = (lines.records.items ≡ first.records.items ++ second.records.items) × (lines.faults.items ≡ first.faults.items ++ second.faults.items)
