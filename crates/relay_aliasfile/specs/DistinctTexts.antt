-- Texts that come one by one, each kept by its first place.
use Rattle.std.specs.Prelude.{ℕ, List, [], ◌∷◌, ◌++◌, if◌then◌else◌}
use Rattle.relay_text.specs.Bytes.{has_text}

-- one more text, where it isn't there already
abbrev pub with_text : List (List ℕ) → List ℕ → List (List ℕ)
with_text texts text = if has_text texts text then texts else texts ++ text ∷ []

abbrev pub with_texts : List (List ℕ) → List (List ℕ) → List (List ℕ)
with_texts texts [] = texts
with_texts texts (text ∷ more) = with_texts (with_text texts text) more
