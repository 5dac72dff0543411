-- The lines of what is returned, as they are gathered by the numbers of senders, nodes and recipients.
use Rattle.std.specs.Prelude.{◌≡◌, ◌⊎◌, ◌↔◌, ℕ, ◌+◌, ◌<◌, List, [], ◌∷◌, ◌++◌, length, sum, Contains, slice_get, slice_index, Some, IsTrue, option_and_then}
use Rattle.std.specs.List.{slice_index_or}
use Rattle.relay_text.specs.AddressParts.{AddressParts}
use Rattle.relay_text.specs.Bytes.{has_text}
use Rattle.relay_tables.specs.declared.node.Node.{Node}
use Rattle.relay_tables.specs.GraphParts.{GraphParts}
use Rattle.relay_tables.specs.Graphs.{sender_number_after}
use Rattle.relay_tables.specs.Senders.{Sender}
use Rattle.relay_pairs.specs.declared.reached.Reached.{Reached}
use Rattle.relay_pairs.specs.Pairs.{ArePairsFrom, HasMorePairsFrom, IsReachedPairFrom}
use Rattle.relay_wire.specs.declared.finding.Place.TheVariants as places
use Rattle.relay_wire.specs.declared.finding.Finding.{Finding}
use Rattle.relay_wire.specs.Findings.{finding_text_of}
use Rattle.relay_returns.specs.declared.block.Return.{Return}
use Rattle.relay_returns.specs.Returns.{return_text_of}
use Rattle.relay_job.specs.declared.job.Job.{Job}
use Rattle.relay_planning.specs.Listing.{target_finding}
use Rattle.aliasplan.specs.Returns.{IsUndelivered, IsReturnLine}

-- each of these lines is that of some finding
abbrev pub AreFindings : List (List ℕ) → Type 0
AreFindings lines = (line : List ℕ) → Contains lines line → (finding : Finding) × (line ≡ finding_text_of finding)

-- the line of one of these findings, for a recipient
abbrev pub IsLineFor : List (List ℕ) → AddressParts → List ℕ → Type 0
IsLineFor lines recipient q = (finding : Finding) × Contains lines (finding_text_of finding) × (q ≡ return_text_of finding recipient)

-- the lines of a number, that of a node or of a sender
abbrev pub lines_at : List (List (List ℕ)) → ℕ → List (List ℕ)
lines_at lists n = slice_index_or lists n []

-- By the numbers of senders the lines of which `IsLine` holds are added, and no others.
pub record ReportsEach (old new : List (List (List ℕ))) (IsLine : ℕ → List ℕ → Type 0) : Type 0 where
  pub long : length new ≡ length old
  pub each : (s : ℕ) (q : List ℕ) → s < length old → IsTrue (has_text (lines_at new s) q) ↔ (IsTrue (has_text (lines_at old s) q) ⊎ IsLine s q)

-- the lines of all that can't be delivered at a node, and no others
pub record AreUndelivered (job : Job) (node : Node) (lines : List (List ℕ)) : Type 0 where
  pub each : (line : List ℕ) → Contains lines line → (finding : Finding) × IsUndelivered job node finding × (line ≡ finding_text_of finding)
  pub all : (finding : Finding) → IsUndelivered job node finding → Contains lines (finding_text_of finding)

module _ (g : GraphParts) where
  -- the lines of each of these nodes, by its number
  pub record AreLinesOf (job : Job) (nodes : List ℕ) (lists : List (List (List ℕ))) : Type 0 where
    pub long : length lists ≡ length g.nodes
    pub each : (n : ℕ) (node : Node) → Contains nodes n → slice_get g.nodes n ≡ Some node → AreUndelivered job node (lines_at lists n)

  -- the line of what a recipient itself is, by the number of its target
  abbrev pub IsRootLine : ℕ → AddressParts → List ℕ → Type 0
  IsRootLine root recipient q = (finding : Finding) × (option_and_then (target_finding places.Envelope) (slice_get g.nodes root) ≡ Some finding) × (q ≡ return_text_of finding recipient)

  -- `undelivered`: the lines of what can't be delivered at each node
  module _ (undelivered : List (List (List ℕ))) where
    -- the line of what can't be delivered at a pair's node, under the sender after it, for a recipient
    pub record IsPairLine (recipient : AddressParts) (s : ℕ) (q : List ℕ) (pair : Reached) : Type 0 where
      pub after : s ≡ sender_number_after g pair.sender pair.node
      pub line : IsLineFor (lines_at undelivered pair.node) recipient q

    -- some of these pairs gives the line
    abbrev pub HavePairLine : List Reached → AddressParts → ℕ → List ℕ → Type 0
    HavePairLine pairs recipient s q = (pair : Reached) × Contains pairs pair × IsPairLine recipient s q pair

    -- the line of what a recipient is, or of a pair that is reached from it
    abbrev pub IsLineFrom : AddressParts → ℕ → ℕ → List ℕ → Type 0
    IsLineFrom recipient root s q = ((s ≡ 0) × IsRootLine root recipient q) ⊎ ((pair : Reached) × IsReachedPairFrom g root pair × IsPairLine recipient s q pair)

    -- the recipient at a place gives this line
    pub record IsLineOfPlace (recipients : List AddressParts) (s : ℕ) (q : List ℕ) (k : ℕ) : Type 0 where
      pub recipient : AddressParts
      pub at : slice_get recipients k ≡ Some recipient
      pub root : ℕ
      pub root_at : slice_get g.roots k ≡ Some root
      pub line : IsLineFrom recipient root s q

    -- a recipient before this place gives the line
    abbrev pub IsLineBefore : List AddressParts → ℕ → ℕ → List ℕ → Type 0
    IsLineBefore recipients k s q = (j : ℕ) × (j < k) × IsLineOfPlace recipients s q j

  -- How many pairs are reached from the root of each recipient before this place, with what is left of a limit.
  pub record AreCounted (limit left k : ℕ) : Type 0 where
    pub counts : List ℕ
    pub long : length counts ≡ k
    pub spent : sum counts + left ≡ limit
    pub each : (j root : ℕ) → j < k → slice_get g.roots j ≡ Some root → (pairs : List Reached) × ArePairsFrom g root pairs × (length pairs ≡ slice_index counts j)

  -- from some recipient more pairs are reached than are left
  pub record HasTooMany (limit : ℕ) : Type 0 where
    pub left : ℕ
    pub place : ℕ
    pub root : ℕ
    pub before : AreCounted limit left place
    pub at : slice_get g.roots place ≡ Some root
    pub more : HasMorePairsFrom g root left

-- the block of a sender, if it has lines
abbrev pub block_of : Sender → List (List ℕ) → List Return
block_of sender [] = []
block_of sender (line ∷ lines) = record { sender = sender; lines = line ∷ lines } ∷ []

-- the blocks of senders by their lines, in turn
abbrev pub blocks_from : List Sender → List (List (List ℕ)) → List Return
blocks_from [] lists = []
blocks_from (sender ∷ senders) [] = []
blocks_from (sender ∷ senders) (lines ∷ lists) = block_of sender lines ++ blocks_from senders lists

-- the lines of what is returned to each sender, by its number
pub record AreReturnLines (job : Job) (g : GraphParts) (lists : List (List (List ℕ))) : Type 0 where
  pub long : length lists ≡ length g.senders
  pub each : (s : ℕ) (sender : Sender) (q : List ℕ) → slice_get g.senders s ≡ Some sender → IsTrue (has_text (lines_at lists s) q) ↔ IsReturnLine job sender q
