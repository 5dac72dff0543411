-- Marks of domains, by which most that aren't local are told.
use Rattle.std.specs.Prelude.{◌≡◌, ℕ, ◌+◌, ◌-◌, ◌*◌, ◌%◌, Bool, false, ◌==◌, ◌||◌, List, length, slice_index, slice_index_or, if◌then◌else◌}
use Rattle.std.specs.Str.{bytes_eq}
use Rattle.relay_text.specs.Bytes.{has_text}
use Rattle.relay_tables.specs.declared.local.Local.{Local}

-- the mark of a domain: its length and some times its last byte, since domains of one length often end otherwise
abbrev pub domain_mark : List ℕ → ℕ
domain_mark domain = if length domain == 0 then 0 else (length domain % 256 + 31 * slice_index domain (length domain - 1)) % 256

-- a domain whose mark isn't there isn't among these
abbrev pub AreMarksOf : List (List ℕ) → List Bool → Type 0
AreMarksOf domains marks = (text : List ℕ) → slice_index_or marks (domain_mark text) false ≡ false → has_text domains text ≡ false

-- a domain whose mark isn't there isn't local
abbrev pub AreMarks : Local → List Bool → Type 0
AreMarks local marks = (text : List ℕ) → slice_index_or marks (domain_mark text) false ≡ false → (bytes_eq text local.origin || has_text local.domains text) ≡ false
