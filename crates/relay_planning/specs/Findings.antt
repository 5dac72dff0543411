-- What is added to the lines that a plan reports.
use Rattle.std.specs.Prelude.{◌≡◌, ◌⊎◌, ◌↔◌, ℕ, Bool, ◌||◌, List, IsTrue}
use Rattle.relay_text.specs.Bytes.{has_text}

-- The lines of which `IsLine` holds are added, and no others.
abbrev pub Reports : List (List ℕ) → List (List ℕ) → (List ℕ → Type 0) → Type 0
Reports old new IsLine = (q : List ℕ) → IsTrue (has_text new q) ↔ (IsTrue (has_text old q) ⊎ IsLine q)

-- the same of a test
abbrev pub ReportsWhere : List (List ℕ) → List (List ℕ) → (List ℕ → Bool) → Type 0
ReportsWhere old new is_line = (q : List ℕ) → has_text new q ≡ (has_text old q || is_line q)
