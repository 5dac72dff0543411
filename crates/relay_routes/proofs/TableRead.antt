-- The table of a text, of whose lines all was read.
use Rattle.std.proofs.Common.{◌≡◌, ℕ, List, refl, ap, ◌∙◌}
use Rattle.std.specs.Prelude.{filter_map, flat_map}
use Rattle.relay_text.specs.Lines.{kept_lines}
use Rattle.relay_halves.proofs.HalvedLines.{moved_nowhere}
use Rattle.relay_routes.specs.Exchanges.{record_in, exchange_in, address_in, faults_in, mx_table_of}
use Rattle.relay_routes.specs.MxLines.{MxLines}
use Rattle.relay_routes.specs.RecordLines.{AreRead}
use Rattle.relay_routes.specs.declared.record_lines.RecordLines.{RecordLines}

pub table_read : (text : List ℕ) (lines : RecordLines) → AreRead 0 text lines
    → (let t : MxLines = record { exchanges = filter_map exchange_in lines.records.items; addresses = filter_map address_in lines.records.items; faults = lines.faults.items } in t ≡ mx_table_of text)
unfolding mx_table_of
table_read text lines read =
    let r : lines.records.items ≡ filter_map record_in (kept_lines text) = read.records ∙ ap (filter_map record_in) (moved_nowhere (kept_lines text)) in
    let f : lines.faults.items ≡ flat_map faults_in (kept_lines text) = read.faults ∙ ap (flat_map faults_in) (moved_nowhere (kept_lines text)) in
    rw (r, f) refl
