-- Files in memory.
use Rattle.std.specs.Prelude.{ℕ, List, [], ◌∷◌, if◌then◌else◌}
use Rattle.std.specs.Str.{bytes_eq}
use Rattle.relay_gather.specs.Source.{Answer, absent, file}

-- What they answer for a path: the first that has it.
module _ {F : Type 0} (path bytes : F → List ℕ) where
  abbrev pub answer_among : List F → List ℕ → Answer
  answer_among [] asked = absent
  answer_among (f ∷ fs) asked = if bytes_eq (path f) asked then file (bytes f) else answer_among fs asked
