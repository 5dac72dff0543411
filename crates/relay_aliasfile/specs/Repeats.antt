-- Which of some names are repeats.
use Rattle.std.specs.Prelude.{ℕ, Bool, List, [], ◌∷◌}
use Rattle.relay_text.specs.Bytes.{each_after, has_text}
use Rattle.relay_aliasfile.specs.declared.entry.Entry.{Entry}

abbrev pub entry_name : Entry → List ℕ
entry_name e = e.name

-- for each name whether it stands before its place
abbrev pub is_among : List (List ℕ) → List ℕ → List Bool
is_among earlier name = has_text earlier name ∷ []

abbrev pub repeats_in : List (List ℕ) → List Bool
repeats_in names = each_after is_among [] names
