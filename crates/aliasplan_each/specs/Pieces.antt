-- Lines of bytes that come in pieces.
use Rattle.std.specs.Prelude.{◌≡◌, ◌<◌, ◌+◌, ◌==◌, ℕ, Bool, true, false, List, [], ◌∷◌, ◌++◌, length, take, Option, Some, None, ⊤}
use Rattle.std.specs.List.{list_any}
use Rattle.relay_text.specs.Lines.{raw_lines}

abbrev pub has_feed : List ℕ → Bool
has_feed bytes = list_any (λ b. b == 10) bytes

-- what ends a line, or a piece of one
abbrev pub end_of : Bool → List ℕ
end_of true = 10 ∷ []
end_of false = []

-- Bytes without an LF, and the LF of a whole line, are taken from some bytes and stand behind others.
pub record IsMoved (is_whole : Bool) (old new before after : List ℕ) : Type 0 where
  pub front : List ℕ
  pub feedless : has_feed front ≡ false
  pub some : 0 < length (front ++ end_of is_whole)
  pub taken : old ≡ (front ++ end_of is_whole) ++ new
  pub grown : after ≡ before ++ (front ++ end_of is_whole)

-- Bytes lose their first line, of which no more than so many bytes are had, and one.
pub record LosesFirst (max : ℕ) (old line new : List ℕ) : Type 0 where
  pub raw : List ℕ
  pub lines : raw_lines old ≡ raw ∷ raw_lines new
  pub had : line ≡ take (max + 1) raw

abbrev pub LosesLine : ℕ → Option (List ℕ) → List ℕ → Option (List ℕ) → Type 0
LosesLine max None line new = ⊤
LosesLine max (Some old) line None = ⊥
LosesLine max (Some old) line (Some new) = LosesFirst max old line new
