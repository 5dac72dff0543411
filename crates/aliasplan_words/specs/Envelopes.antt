-- The section of an envelope that words say (RFC 5321 section 4.1.1).
use Rattle.std.specs.Prelude.{ℕ, List, [], ◌∷◌, ◌++◌, codes, flat_map, if◌then◌else◌}
use Rattle.relay_text.specs.Bytes.{begins_with}

-- A word may have its path in angle brackets; an empty one is the null path.
abbrev pub path_of_word : List ℕ → List ℕ
path_of_word word = if begins_with (codes "<") word then word else codes "<" ++ (word ++ codes ">")

abbrev pub path_line : List ℕ → List ℕ → List ℕ
path_line command word = command ++ (path_of_word word ++ 10 ∷ [])

abbrev pub envelope_section : List ℕ → List (List ℕ) → List ℕ
envelope_section from to = path_line (codes "MAIL FROM:") from ++ flat_map (path_line (codes "RCPT TO:")) to
