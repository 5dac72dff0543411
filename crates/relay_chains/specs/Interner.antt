-- What is true of the texts of an `Interner`.
use Rattle.std.specs.Prelude.{◌≡◌, ◌≢◌, ℕ, ◌-◌, ◌^◌, ◌<◌, ◌≤◌, List, [], ◌∷◌, length, map, slice_index, slice_range, AllPairs}
use Rattle.relay_chains.specs.TextHash.{text_hash}

-- the bytes from a start on, cut at the ends
abbrev pub texts_from : List ℕ → ℕ → List ℕ → List (List ℕ)
texts_from bytes start [] = []
texts_from bytes start (end ∷ ends) = slice_range bytes start end ∷ texts_from bytes end ends

-- the ends don't fall, and the last one is the end of the bytes
pub record AreCut (bytes ends : List ℕ) : Type 0 where
  pub rising : (number : ℕ) → number < length ends → slice_index (0 ∷ ends) number ≤ slice_index ends number
  pub within : (number : ℕ) → number < length ends → slice_index ends number ≤ length bytes
  pub whole : slice_index (0 ∷ ends) (length ends) ≡ length bytes

-- the ends cut the bytes into distinct texts, at most the limit, whose hashes are these
pub record AreInterned (hashes bytes ends : List ℕ) (key limit : ℕ) : Type 0 where
  pub cut : AreCut bytes ends
  pub hashed : hashes ≡ map (text_hash key) (texts_from bytes 0 ends)
  pub distinct : AllPairs (λ a b. a ≢ b) (texts_from bytes 0 ends)
  pub within : length ends ≤ limit
  pub small : limit ≤ 2 ^ 32 - 2
