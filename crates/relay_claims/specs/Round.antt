-- A round as contracts see it, and where its words lie.
use Rattle.std.specs.Prelude.{◌≡◌, ℕ, ◌+◌, ◌-◌, ◌/◌, ◌%◌, ◌^◌, ◌<◌, ◌≤◌, List, length, slice_index}
use Rattle.atomic_table.specs.Seated.{TableId}
use Rattle.relay_claims.specs.declared.view.Offer.{Offer}
use Rattle.relay_claims.specs.Counting.{IsIn}

-- which round it is, what is offered, the number of chains, and of places in a piece
pub record Terms : Type 0 where
  pub name : TableId
  pub keys : List ℕ
  pub heads : ℕ
  pub cut : ℕ

-- how many pieces of `cut` places n places make, the last perhaps shorter
abbrev pub pieces_of : ℕ → ℕ → ℕ
pieces_of n cut = (n + (cut - 1)) / cut

-- how many pieces a round has
abbrev pub piece_count : Terms → ℕ
piece_count r = pieces_of (length r.keys) r.cut

-- each of the numbers is a place
abbrev pub ArePlaces : List ℕ → List ℕ → Type 0
ArePlaces keys xs = (x : ℕ) → IsIn x xs → x < length keys

-- the chain on which a place's key belongs
abbrev pub bucket_of : List ℕ → ℕ → ℕ → ℕ
bucket_of keys heads i = slice_index keys i % heads

-- the word of a bucket's head, and of a place's link
abbrev pub head_word : ℕ → ℕ
head_word b = 1 + b

abbrev pub link_word : ℕ → ℕ → ℕ
link_word heads i = 1 + heads + i

-- what these words hold
abbrev pub ticket_of : List ℕ → ℕ
ticket_of words = slice_index words 0

abbrev pub link_of : ℕ → List ℕ → ℕ → ℕ
link_of heads words i = slice_index words (link_word heads i)

-- the table of this name has the words of such a round, and was told what is offered
pub record IsTableFor (keys : List ℕ) (heads cut : ℕ) (name : TableId) (about : Offer) : Type 0 where
  pub words : name.words ≡ 1 + heads + length keys
  pub no_slots : name.slots ≡ 0
  pub some_head : 0 < heads
  pub few_heads : heads ≤ 2 ^ 32
  pub some_cut : 0 < cut
  pub keys_are : about.keys.now ≡ keys
  pub heads_are : about.heads ≡ heads
  pub cut_is : about.cut ≡ cut
