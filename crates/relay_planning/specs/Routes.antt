-- The lines of addresses that have no route, and the recipients that reached nodes are.
use Rattle.std.specs.Prelude.{◌≡◌, ℕ, ◌<◌, List, length, All, Contains, slice_get, Option, Some, None, Result, Ok, Err, IsTrue, ⊤, ◌↔◌}
use Rattle.relay_text.specs.AddressParts.{AddressParts}
use Rattle.relay_text.specs.Bytes.{has_text}
use Rattle.relay_routes.specs.declared.route.Route.{Route}
use Rattle.relay_routes.specs.declared.unrouted.Unrouted.{Unrouted}
use Rattle.relay_routes.specs.Routes.{route_of, route_via_of}
use Rattle.relay_wire.specs.declared.finding.Reason.{Reason}
use Rattle.relay_wire.specs.declared.finding.Finding.TheVariants.{Unrouted as UnroutedFinding}
use Rattle.relay_wire.specs.Findings.{finding_text_of}
use Rattle.relay_tables.specs.declared.node.Node.{Node}
use Rattle.relay_tables.specs.declared.node.Node.TheVariants.{Alias, Include, Mailbox, Remote, Missing, NoInclude, Command, File}
use Rattle.relay_tables.specs.GraphParts.{GraphParts}
use Rattle.relay_pairs.specs.declared.reached.Reached.{Reached}
use Rattle.relay_destinations.specs.declared.way.Way.{Way}
use Rattle.relay_destinations.specs.declared.way.Way.TheVariants.{To, Nowhere}
use Rattle.relay_destinations.specs.RoutesFound.{RoutesFound}
use Rattle.relay_delivery.specs.declared.routed.Routed.{Routed}
use Rattle.relay_delivery.specs.declared.delivery.Delivery.{Delivery}
use Rattle.relay_job.specs.declared.job.Job.{Job}
use Rattle.relay_planning.specs.declared.outgoing.Known.{Known}
use Rattle.relay_planning.specs.declared.outgoing.Known.TheVariants.{Unseen, Unrouted as NoRoute, Recipient}
use Rattle.relay_planning.specs.Delivery.{routing_of, final_route, final_address}
use Rattle.relay_planning.specs.Report.{reason_of}

-- a reason's number is that of a reason
abbrev pub IsThere : RoutesFound → Way → Type 0
IsThere found (To number) = ⊤
IsThere found (Nowhere number) = number < length found.reasons

-- the line of an address by what is answered of its route
abbrev pub IsLineAt : Result Route Unrouted → AddressParts → List ℕ → Type 0
IsLineAt (Ok route) address line = ⊥
IsLineAt (Err cause) address line = (reason : Reason) × (reason_of cause ≡ Some reason) × (line ≡ finding_text_of (UnroutedFinding address reason))

-- an address and its route, where it has one
abbrev pub IsRoutedAt : List Route → Result Route Unrouted → AddressParts → Option Routed → Type 0
IsRoutedAt routes (Ok route) address (Some r) = (slice_get routes r.route ≡ Some route) × (r.address.now ≡ address)
IsRoutedAt routes (Ok route) address None = ⊥
IsRoutedAt routes (Err cause) address (Some r) = ⊥
IsRoutedAt routes (Err cause) address None = ⊤

module _ (job : Job) where
  -- the line that reports a node
  abbrev pub IsLineOfNode : Node → List ℕ → Type 0
  IsLineOfNode (Mailbox address) line = IsLineAt (route_via_of (routing_of job) job.settings.mailbox_transport address) address line
  IsLineOfNode (Remote address) line = IsLineAt (route_of (routing_of job) address) address line
  IsLineOfNode (Alias number) line = ⊥
  IsLineOfNode (Include number) line = ⊥
  IsLineOfNode (Missing name) line = ⊥
  IsLineOfNode (NoInclude path) line = ⊥
  IsLineOfNode (Command text) line = ⊥
  IsLineOfNode (File path) line = ⊥

  -- the recipient that a node is: its address, and its route among those that were found
  pub record IsRecipient (routes : List Route) (node : Node) (r : Routed) : Type 0 where
    pub route : Route
    pub route_is : slice_get routes r.route ≡ Some route
    pub address_is : final_address job node ≡ Some r.address.now
    pub routed : final_route job node ≡ Some (Ok route)

  abbrev pub HasNoRoute : Node → Type 0
  HasNoRoute node = (route : Route) → final_route job node ≡ Some (Ok route) → ⊥

  abbrev pub IsRecipientIfAny : List Route → Node → Option Routed → Type 0
  IsRecipientIfAny routes node (Some r) = IsRecipient routes node r
  IsRecipientIfAny routes node None = HasNoRoute node

  module _ (g : GraphParts) where
    -- the line that reports a pair's node
    pub record IsLineOfPair (line : List ℕ) (pair : Reached) : Type 0 where
      pub node : Node
      pub is : slice_get g.nodes pair.node ≡ Some node
      pub reported : IsLineOfNode node line

    abbrev pub HaveLine : List Reached → List ℕ → Type 0
    HaveLine pairs line = (pair : Reached) × Contains pairs pair × IsLineOfPair line pair

    -- what is known of a node: the number of its recipient, or that it has no route; its line is there already
    abbrev pub IsWhatIsKnown : List Route → List Routed → Node → Known → Type 0
    IsWhatIsKnown routes recipients node Unseen = ⊤
    IsWhatIsKnown routes recipients node NoRoute = HasNoRoute node
    IsWhatIsKnown routes recipients node (Recipient number) = (r : Routed) × (slice_get recipients number ≡ Some r) × IsRecipient routes node r

    -- what is known of each node, by its number, and the lines of those that were seen
    pub record AreKnown (routes : List Route) (recipients : List Routed) (known : List Known) (lines : List (List ℕ)) : Type 0 where
      pub len : length known ≡ length g.nodes
      pub each : (n : ℕ) (k : Known) (node : Node) → slice_get known n ≡ Some k → slice_get g.nodes n ≡ Some node → IsWhatIsKnown routes recipients node k
      pub reported : (n : ℕ) (k : Known) (node : Node) (q : List ℕ) → slice_get known n ≡ Some k → (k ≡ Unseen → ⊥) → slice_get g.nodes n ≡ Some node → IsLineOfNode node q → IsTrue (has_text lines q)
      pub in_routes : All (λ r. r.route < length routes) recipients

    -- the delivery of a pair, by what is known of its node
    pub record IsDeliveryOfPair (known : List Known) (delivery : Delivery) (pair : Reached) : Type 0 where
      pub under : pair.sender ≡ delivery.sender
      pub goes : slice_get known pair.node ≡ Some (Recipient delivery.recipient)

    -- what is known where these pairs were looked at, and their deliveries
    pub record AreOutgoing (pairs : List Reached) (known : List Known) (deliveries : List Delivery) : Type 0 where
      pub seen : (p : Reached) → Contains pairs p → (k : Known) × (slice_get known p.node ≡ Some k) × (k ≡ Unseen → ⊥)
      pub deliveries_are : (delivery : Delivery) → Contains deliveries delivery ↔ ((p : Reached) × Contains pairs p × IsDeliveryOfPair known delivery p)

-- what was known of nodes stays
abbrev pub StayKnown : List Known → List Known → Type 0
StayKnown old new = (n : ℕ) (k : Known) → slice_get old n ≡ Some k → (k ≡ Unseen → ⊥) → slice_get new n ≡ Some k
