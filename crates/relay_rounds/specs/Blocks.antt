-- Sets of keys as blocks of 64 keys one after another, with a bit for each.
use Rattle.std.specs.Prelude.{◌≡◌, ◌≢◌, ℕ, ◌+◌, ◌*◌, ◌<◌, ◌≤◌, ◌-◌, ◌^◌, List, [], ◌∷◌, length, map, flat_map, All, AllPairs}
use Rattle.relay_rounds.specs.Bits.{bits_of}
use Rattle.relay_rounds.specs.declared.block.Block.{Block}

-- the keys of a block, ascending
abbrev pub keys_in : Block → List ℕ
keys_in block = map (λ bit. block.number * 64 + bit) (bits_of block.word)

abbrev pub keys_of : List Block → List ℕ
keys_of blocks = flat_map keys_in blocks

-- blocks from their numbers and their words, side by side
abbrev pub blocks_of : List ℕ → List ℕ → List Block
blocks_of [] words = []
blocks_of (n ∷ ns) [] = []
blocks_of (n ∷ ns) (w ∷ ws) = (record { number = n; word = w }) ∷ blocks_of ns ws

-- each block once, and none without keys
pub record AreBlocks (blocks : List Block) : Type 0 where
  pub apart : AllPairs (λ a b. a.number ≢ b.number) blocks
  pub filled : All (λ block. block.word ≢ 0) blocks
  pub small : All (λ block. block.number < 2 ^ 58) blocks

-- each block's number has a word, with a bit at least
pub record ArePaired (numbers words : List ℕ) : Type 0 where
  pub count : length words ≡ length numbers
  pub distinct : AllPairs (λ a b. a ≢ b) numbers
  pub filled : All (λ word. word ≢ 0) words
  pub small : All (λ number. number < 2 ^ 58) numbers

-- a shard finds a block's word by its number, and has room for as many blocks as there are numbers
pub record IsShard (heads limit : ℕ) (numbers words : List ℕ) : Type 0 where
  pub some_head : 1 ≤ heads
  pub wide : limit ≡ 2 ^ 32 - 2
  pub pairs : ArePaired numbers words
