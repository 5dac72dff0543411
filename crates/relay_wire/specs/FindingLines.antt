-- Lines of findings, as they are gathered.
use Rattle.std.specs.Prelude.{◌≡◌, ℕ, List, [], ◌∷◌, length, sum, take, drop}

-- the lines that stand one behind the other in some bytes, by how many bytes each of them has
abbrev pub lines_cut : List ℕ → List ℕ → List (List ℕ)
lines_cut [] bytes = []
lines_cut (n ∷ lengths) bytes = take n bytes ∷ lines_cut lengths (drop n bytes)

-- whether some bytes are lines of these lengths
abbrev pub AreLines : List ℕ → List ℕ → Type 0
AreLines lengths bytes = sum lengths ≡ length bytes
