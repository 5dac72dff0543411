-- What two parts of a text make together.
use Rattle.std.specs.Prelude.{Option, Some, None}

-- Both are there, and make this.
abbrev pub BothMake : {A : Type 0} → (A → A → A → Type 0) → Option A → Option A → A → Type 0
BothMake makes None there both = ⊥
BothMake makes (Some first) None both = ⊥
BothMake makes (Some first) (Some second) both = makes first second both
