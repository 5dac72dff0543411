-- The hash of a text under a key. All that is rested on is that it's a function of both.
use Rattle.std.specs.Prelude.{ℕ, zero, suc, ◌+◌, ◌-◌, ◌*◌, ◌/◌, ◌%◌, ◌^◌, nat_lt, List, [], ◌∷◌, ◌++◌, length, take, drop, bit_and, bit_or, bit_xor, if◌then◌else◌}
use Rattle.std.specs.List.{fold}
use Rattle.std.specs.Int.{from_le_bytes, w64}

-- the halves of the 128 bits of a product, joined
unfoldable pub folded : ℕ → ℕ → ℕ
folded multiplier state = let product = state * multiplier in bit_xor (bit_and product (2 ^ 64 - 1)) (product / 2 ^ 64)

-- some bytes as one number of 64 bits
abbrev pub short_word : List ℕ → ℕ
short_word bytes = fold (λ word byte. (word * 256 % 2 ^ 64 + byte) % 2 ^ 64) 0 bytes

-- the first words of eight bytes, so many, each as one number
unfoldable pub words : ℕ → List ℕ → List ℕ
words zero text = []
words (suc count) text = from_le_bytes w64 (take 8 text) ∷ words count (drop 8 text)

-- the last eight bytes as one number, or all of a text that has fewer
abbrev pub last_word : List ℕ → ℕ
last_word text = if nat_lt (length text) 8 then short_word text else from_le_bytes w64 (drop (length text - 8) text)

-- the state when a word is joined to it
abbrev pub joined : ℕ → ℕ → ℕ → ℕ
joined multiplier state word = folded multiplier (bit_xor state word)

-- what the state is multiplied by under a key
abbrev pub multiplier_of : ℕ → ℕ
multiplier_of key = bit_or (key / 2 ^ 64) 1

-- what the state begins with
abbrev pub start_of : ℕ → List ℕ → ℕ
start_of key text = (bit_and key (2 ^ 64 - 1) + length text) % 2 ^ 64

-- the key of hashes that only say which texts have to be compared
abbrev pub fixed_key : ℕ
fixed_key = 0x9e37_79b9_7f4a_7c15_0000_0000_0000_0000

-- the hash of a state, of 32 bits
abbrev pub hash_of : ℕ → ℕ
hash_of state = folded 0x9e37_79b9_7f4a_7c15 state / 2 ^ 32

-- the hash of a text: its words of eight bytes that another byte follows and then its last word are joined to the state, one after another
unfoldable pub text_hash : ℕ → List ℕ → ℕ
text_hash key text = hash_of (fold (joined (multiplier_of key)) (start_of key text) (words ((length text - 1) / 8) text ++ last_word text ∷ []))
