-- Kept lines, of which the first was read.
use Rattle.std.proofs.Common.{◌≡◌, [], ◌∷◌, Option, Some, None, IfSome, IfNone, sym, ◌∙◌}
use Rattle.relay_text.specs.declared.kept.KeptLine.{KeptLine}
use Rattle.relay_text.specs.declared.kept.KeptLines.{KeptLines}
use Rattle.relay_text.specs.KeptLines.{kept_line, kept_rest}
use Rattle.relay_text.specs.LogicalLines.{kept_left}

-- reading a line changes nothing of what is left
pub left_read : (old new : KeptLines) (r : Option KeptLine) → IfNone r (kept_rest old ≡ []) → IfNone r (kept_rest new ≡ []) → IfSome r (λ l. kept_rest old ≡ kept_line l ∷ kept_rest new) → kept_rest old ≡ kept_left r new
left_read old new None none ended some = none ∙ sym ended
left_read old new (Some l) none ended some = some
