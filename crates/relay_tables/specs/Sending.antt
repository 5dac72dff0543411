-- Senders that come one by one, each numbered by its first place.
use Rattle.std.specs.Prelude.{◌≡◌, ◌≢◌, ◌⊎◌, ℕ, ◌<◌, ◌≤◌, List, [], ◌∷◌, ◌++◌, length, map, slice_get, AllPairs, Option, Some, None, slice_index_or, ⊤}
use Rattle.relay_aliasfile.specs.declared.entry.Entry.{Entry}
use Rattle.relay_tables.specs.Directory.{Directory}
use Rattle.relay_tables.specs.Numbering.{address_key}
use Rattle.relay_tables.specs.Senders.{Sender, owner_entry, sender_by}
use Rattle.relay_tables.specs.Graphs.{IsOwnerSender}

-- the text by which a sender is found: none for the null sender
unfoldable pub sender_key : Sender → List ℕ
sender_key None = []
sender_key (Some a) = 0 ∷ address_key a

-- each once, and found by their keys
pub record AreSenders (senders : List Sender) (keys : List (List ℕ)) : Type 0 where
  pub keys_are : keys ≡ map sender_key senders
  pub distinct : AllPairs (λ s t. s ≢ t) senders

-- the senders after one is numbered: it was there, or it's the last now
abbrev pub MayAdd : List Sender → Sender → List Sender → Type 0
MayAdd old sender new = (new ≡ old) ⊎ (new ≡ old ++ sender ∷ [])

abbrev pub MayAddOwner : Directory → ℕ → List Sender → List Sender → Type 0
MayAddOwner d alias old new = (new ≡ old) ⊎ ((owner : Entry) × (owner_entry d alias ≡ Some owner) × (new ≡ old ++ Some (sender_by d owner) ∷ []))

-- the number that an alias keeps is that of the sender that its owner gives
abbrev pub IsOwnedBy : Directory → List Sender → Option ℕ → Option Entry → Type 0
IsOwnedBy d senders None None = ⊤
IsOwnedBy d senders None (Some owner) = ⊥
IsOwnedBy d senders (Some s) None = ⊥
IsOwnedBy d senders (Some s) (Some owner) = slice_get senders s ≡ Some (Some (sender_by d owner))

-- the envelope's sender first, and then senders of owners alone
pub record AreOf (d : Directory) (sender : Sender) (senders : List Sender) : Type 0 where
  pub first : slice_get senders 0 ≡ Some sender
  pub others : (s : ℕ) (a : Sender) → 0 < s → slice_get senders s ≡ Some a → IsOwnerSender d a

-- The senders of the first aliases: `owners` has the number of each one's, where it has an owner. Behind its end no alias has one.
pub record AreOwned (d : Directory) (sender : Sender) (count : ℕ) (senders : List Sender) (owners : List (Option ℕ)) : Type 0 where
  pub senders_are : AreOf d sender senders
  pub few : length owners ≤ count
  pub owned : (k : ℕ) → k < count → IsOwnedBy d senders (slice_index_or owners k None) (owner_entry d k)
