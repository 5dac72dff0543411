-- What reads add to a text, and what writes take of one.
use Rattle.std.specs.Prelude.{◌≡◌, ℕ, List, ◌++◌, length, take, Option}
use Rattle.std.specs.Io.KnownBytes.{Appends, Consumes}

-- the text grows by the bytes that a reader gave, so many
pub record Takes (remaining left : Option (List ℕ)) (old new : List ℕ) (count : ℕ) : Type 0 where
  pub bytes : List ℕ
  pub given : Consumes remaining left bytes
  pub grown : new ≡ old ++ bytes
  pub counted : length bytes ≡ count

-- what was written is a front of a text
pub record Fronts (old new : Option (List ℕ)) (text : List ℕ) : Type 0 where
  pub count : ℕ
  pub written : Appends old new (take count text)
