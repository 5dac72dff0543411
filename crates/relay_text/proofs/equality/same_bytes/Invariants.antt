use Rattle.std.proofs.Common.{◌≡◌, length}
use Rattle.std.specs.Str.{bytes_eq}
use Rattle.relay_text.proofs.equality.same_bytes.Given as goal

-- what is left of both texts decides
abbrev pub invariant-loop-left_word : goal.invariant-loop-left_word
invariant-loop-left_word l = (length l.left ≡ length l.right) × (bytes_eq l.first l.second ≡ bytes_eq l.left l.right)

abbrev pub decreases-loop-left_word : goal.decreases-loop-left_word
decreases-loop-left_word l = length l.left
