-- Words of 64 bits as sets of numbers below 64.
use Rattle.std.specs.Prelude.{ℕ, Bool, nat_eq, List, filter}
use Rattle.std.specs.List.{range_with_len}
use Rattle.std.specs.Int.{bit_at}

abbrev pub is_set : ℕ → ℕ → Bool
is_set word bit = nat_eq (bit_at word bit) 1

-- the bits that are set, ascending
unfoldable pub bits_of : ℕ → List ℕ
bits_of word = filter (is_set word) (range_with_len 0 64)
