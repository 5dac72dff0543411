-- The bytes that lie in a value or in memory of their own.
use Rattle.std.specs.Prelude.{ℕ, ◌<◌, min, length}
use Rattle.relay_text.specs.HeadedBytes.{HeadedBytes}
use Rattle.relay_text.specs.declared.inline_bytes.Kept.{Kept}
use Rattle.relay_text.specs.declared.inline_bytes.Kept.TheVariants.{Short, Long}

module _ {H : Type 0} {N : ℕ} where
  abbrev pub headed_bytes_in : Kept H N → HeadedBytes H
  headed_bytes_in (Short head few) = record { head = head; bytes = few }
  headed_bytes_in (Long head bytes) = record { head = head; bytes = bytes.items }

  -- only bytes that have no room in the value lie outside of it
  abbrev pub IsWithin : Kept H N → Type 0
  IsWithin (Short head few) = Unit {0}
  IsWithin (Long head bytes) = min N 255 < length bytes.items
