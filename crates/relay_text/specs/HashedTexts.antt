-- The hash of a text.
use Rattle.std.specs.Prelude.{ℕ, ◌*◌, ◌%◌, ◌^◌, List, bit_xor}
use Rattle.std.specs.List.{fold}

-- past one more byte
abbrev pub next_hash : ℕ → ℕ → ℕ
next_hash hash byte = bit_xor hash byte * 0x0000_0100_0000_01b3 % 2 ^ 64

-- of 64 bits
abbrev pub text_hash : List ℕ → ℕ
text_hash text = fold next_hash 0xcbf2_9ce4_8422_2325 text
