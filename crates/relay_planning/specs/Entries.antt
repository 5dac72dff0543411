-- The lines of what entries and recipients lead to, as they are found along the numbers of a graph.
use Rattle.std.specs.Prelude.{◌≡◌, ◌⊎◌, ℕ, ◌<◌, List, [], ◌∷◌, length, All, Contains, slice_get, Option, Some, None, option_and_then}
use Rattle.relay_tables.specs.Directory.{Directory}
use Rattle.relay_tables.specs.GraphParts.{GraphParts}
use Rattle.relay_tables.specs.Graphs.{child_numbers}
use Rattle.relay_wire.specs.declared.finding.Place.{Place}
use Rattle.relay_wire.specs.declared.finding.Place.TheVariants as places
use Rattle.relay_wire.specs.declared.finding.Finding.{Finding}
use Rattle.relay_wire.specs.Findings.{finding_text_of}
use Rattle.relay_planning.specs.Listing.{place_of, empty_finding, loop_finding, target_finding}

-- the line of a finding that there may be
abbrev pub IsLineIn : Option Finding → List ℕ → Type 0
IsLineIn None q = ⊥
IsLineIn (Some finding) q = q ≡ finding_text_of finding

-- one of these numbers gives the line
abbrev pub HaveLine : (ℕ → List ℕ → Type 0) → List ℕ → List ℕ → Type 0
HaveLine gives numbers q = (n : ℕ) × Contains numbers n × gives n q

module _ (g : GraphParts) where
  -- roots and children are nodes of the graph
  pub record LeadsWithin : Type 0 where
    pub roots : All (λ n. n < length g.nodes) g.roots
    pub children : (n : ℕ) → n < length g.nodes → All (λ c. c < length g.nodes) (child_numbers g n)

  -- a target at a place has this line
  abbrev pub IsTargetLine : Place → ℕ → List ℕ → Type 0
  IsTargetLine place n q = IsLineIn (option_and_then (target_finding place) (slice_get g.nodes n)) q

  -- a place with these targets gives this line: that it is empty, or what one of the targets is
  abbrev pub IsListLine : Place → List ℕ → List ℕ → Type 0
  IsListLine place [] q = IsLineIn (empty_finding place) q
  IsListLine place (n ∷ ns) q = HaveLine (IsTargetLine place) (n ∷ ns) q

  abbrev pub IsListLineIn : Option Place → List ℕ → List ℕ → Type 0
  IsListLineIn None children q = ⊥
  IsListLineIn (Some place) children q = IsListLine place children q

  -- a node of the directory gives this line by its targets, and by being on a loop
  abbrev pub IsNodeLine : Directory → ℕ → List ℕ → Type 0
  IsNodeLine d n q = IsListLineIn (option_and_then (place_of d) (slice_get g.nodes n)) (child_numbers g n) q

  abbrev pub IsLoopLine : Directory → ℕ → List ℕ → Type 0
  IsLoopLine d n q = IsLineIn (option_and_then loop_finding (option_and_then (place_of d) (slice_get g.nodes n))) q

  -- the envelope, one of these nodes or one of these loops gives this line
  abbrev pub IsEntryLine : Directory → List ℕ → List ℕ → List ℕ → Type 0
  IsEntryLine d nodes loops q = HaveLine (IsTargetLine places.Envelope) g.roots q ⊎ (HaveLine (IsNodeLine d) nodes q ⊎ HaveLine (IsLoopLine d) loops q)
