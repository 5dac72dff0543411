use Rattle.std.proofs.Common.{◌≡◌, ℕ, List, take}
use Rattle.relay_text.specs.Bytes.{has_text}
use Rattle.relay_text.proofs.text_set.TextSet.of.Given as goal

abbrev pub invariant-loop-text : goal.invariant-loop-text
invariant-loop-text l = (q : List ℕ) → has_text l.set q ≡ has_text (take l.text-index l.texts) q
