-- Where each of many texts stands first.
use Rattle.std.specs.Prelude.{◌≡◌, ℕ, ◌<◌, List, map, length, slice_index_or}
use Rattle.std.specs.List.{position_or_len}
use Rattle.std.specs.Str.{bytes_eq}
use Rattle.relay_text.specs.declared.hashed_text.HashedText.{HashedText}

-- the place of the first of these texts that has the bytes, or how many there are where none has
abbrev pub first_place : List (List ℕ) → List ℕ → ℕ
first_place texts text = position_or_len (bytes_eq text) texts

-- the texts' bytes
abbrev pub bytes_of : List HashedText → List (List ℕ)
bytes_of texts = map (λ text. text.bytes.now) texts

-- each text has its place
abbrev pub AreInPlace : List HashedText → Type 0
AreInPlace texts = (k : ℕ) (d : HashedText) → k < length texts → (slice_index_or texts k d).place ≡ k
