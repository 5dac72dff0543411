-- Hashes that come again, and texts that are found by them.
use Rattle.std.specs.Prelude.{◌≡◌, ℕ, ◌*◌, ◌/◌, ◌^◌, ◌<◌, List, [], length, map, All, AllPairs, Contains, slice_index, slice_index_or}
use Rattle.std.specs.Borrow.{Bor}

-- the texts behind references
abbrev pub texts_of : List (Bor (List ℕ)) → List (List ℕ)
texts_of texts = map (λ text. text.now) texts

-- the slot of a hash of 32 bits among so many
abbrev pub slot_under : ℕ → ℕ → ℕ
slot_under slots hash = hash * slots / 2 ^ 32

-- a mark for each slot: some where a hash has it, and 2 where two have
pub record AreMarks (slots : ℕ) (hashes marks : List ℕ) : Type 0 where
  pub long : length marks ≡ slots
  pub once : (i : ℕ) → i < length hashes → 0 < slice_index marks (slot_under slots (slice_index hashes i))
  pub twice : (i j : ℕ) → i < j → j < length hashes → slot_under slots (slice_index hashes i) ≡ slot_under slots (slice_index hashes j) → slice_index marks (slot_under slots (slice_index hashes j)) ≡ 2

-- places in order, among them each whose hash stands at another place too
pub record AreTwinPlaces (hashes places : List ℕ) : Type 0 where
  pub ascending : AllPairs (λ p q. p < q) places
  pub within : All (λ p. p < length hashes) places
  pub twins : (i j : ℕ) → i < j → j < length hashes → slice_index hashes i ≡ slice_index hashes j → Contains places i × Contains places j

-- the texts at these places
abbrev pub texts_at : List (List ℕ) → List ℕ → List (List ℕ)
texts_at texts places = map (λ place. slice_index_or texts place []) places

-- at each of the first of these places stands another of them, as its number says, and elsewhere what stood there
pub record ArePutFirst (places firsts : List ℕ) (count : ℕ) (old new : List ℕ) : Type 0 where
  pub long : length new ≡ length old
  pub put : (k : ℕ) → k < count → slice_index new (slice_index places k) ≡ slice_index places (slice_index firsts k)
  pub kept : (i : ℕ) → (Contains places i → ⊥) → slice_index new i ≡ slice_index old i
