-- Keys in shards, each in that of its block.
use Rattle.std.specs.Option.{is_some}
use Rattle.relay_chains.specs.Keys.{number_of}
use Rattle.std.specs.Prelude.{Bool, true, false, nat_eq, ◌≡◌, ◌≢◌, ℕ, ◌+◌, ◌<◌, ◌≤◌, ◌/◌, ◌%◌, List, [], ◌∷◌, ◌++◌, length, flat_map, slice_index_or, All, AllPairs, Contains, ◌↔◌, ◌⊎◌}
use Rattle.relay_rounds.specs.declared.block.Block.{Block}
use Rattle.relay_rounds.specs.declared.part.Part.{Part}
use Rattle.relay_rounds.specs.Blocks.{keys_of, AreBlocks}

-- whether a key stands in the list
abbrev pub is_there : List ℕ → ℕ → Bool
is_there keys key = is_some (number_of nat_eq keys key)

-- a new key was put last, or the key was there already
abbrev pub Inserted : List ℕ → ℕ → Bool → List ℕ → Type 0
Inserted keys key true after = (Contains keys key → ⊥) × (after ≡ keys ++ key ∷ [])
Inserted keys key false after = Contains keys key × (after ≡ keys)

-- the keys of both lists, each once
pub record AreBothOf (old more keys : List ℕ) : Type 0 where
  pub distinct : AllPairs (λ a b. a ≢ b) keys
  pub members : (key : ℕ) → Contains keys key ↔ (Contains old key ⊎ Contains more key)

-- a new key was taken, or the key was there already
abbrev pub Taken : List ℕ → ℕ → Bool → List ℕ → Type 0
Taken keys key true after = (Contains keys key → ⊥) × AreBothOf keys (key ∷ []) after
Taken keys key false after = Contains keys key × (after ≡ keys)

-- the shard of a key is the remainder of its block
abbrev pub home_of : ℕ → ℕ → ℕ
home_of parts key = key / 64 % parts

-- all blocks are those of one shard
abbrev pub AreAtHome : ℕ → ℕ → List Block → Type 0
AreAtHome parts place blocks = All (λ block. block.number % parts ≡ place) blocks

-- a key came to the blocks, or was there already
pub record Grows (old : List Block) (key : ℕ) (new : Bool) (blocks : List Block) : Type 0 where
  pub lawful : AreBlocks blocks
  pub home : (parts place : ℕ) → home_of parts key ≡ place → AreAtHome parts place old → AreAtHome parts place blocks
  pub taken : Taken (keys_of old) key new (keys_of blocks)

-- the keys of all shards
abbrev pub keys_of_parts : List Part → List ℕ
keys_of_parts parts = flat_map (λ part. keys_of part.shard) parts

-- parts of which each has the blocks of its place, among so many
pub record AreInPlace (count : ℕ) (parts : List Part) : Type 0 where
  pub some_part : 0 < length parts
  pub within : length parts ≤ count
  pub lawful : All (λ part. AreBlocks part.shard) parts
  pub homes : (k : ℕ) (d : Part) → k < length parts → AreAtHome count k (slice_index_or parts k d).shard

-- all parts, with so many keys
pub record AreParts (len : ℕ) (parts : List Part) : Type 0 where
  pub all : AreInPlace (length parts) parts
  pub count : len ≡ length (keys_of_parts parts)

-- a part has taken those of the keys that belong to it, unless memory for one was refused
pub record HasTaken (keys : List ℕ) (parts place : ℕ) (before after : Part) : Type 0 where
  pub lawful : after.refused ≡ false → AreBlocks after.shard
  pub home : after.refused ≡ false → AreAtHome parts place after.shard
  pub keys_now : after.refused ≡ false → (key : ℕ) → Contains (keys_of after.shard) key ↔ (Contains (keys_of before.shard) key ⊎ (Contains keys key × (home_of parts key ≡ place)))

-- each part, among so many, has taken its keys
pub record HaveTaken (keys : List ℕ) (count : ℕ) (before after : List Part) : Type 0 where
  pub size : length after ≡ length before
  pub each : (k : ℕ) (d : Part) → k < length before → HasTaken keys count k (slice_index_or before k d) (slice_index_or after k d)
