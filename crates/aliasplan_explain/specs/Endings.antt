-- What becomes of a node, whatever the sender.
use Rattle.std.specs.Prelude.{◌≡◌, ℕ, List, slice_get, Contains, ◌↔◌, Some, None, Ok, Err}
use Rattle.relay_text.specs.AddressParts.{AddressParts}
use Rattle.relay_routes.specs.declared.route.Route.{Route}
use Rattle.relay_routes.specs.declared.unrouted.Unrouted.{Unrouted as Cause}
use Rattle.relay_tables.specs.declared.node.Node.{Node}
use Rattle.relay_wire.specs.declared.plan.Planned.{Planned}
use Rattle.relay_wire.specs.declared.plan.Plan.{Plan}
use Rattle.relay_job.specs.declared.job.Job.{Job}
use Rattle.relay_planning.specs.Delivery.{final_address, final_route}
use Rattle.relay_planning.specs.Report.{reason_of}
use Rattle.aliasplan_explain.specs.declared.ending.Ending.{Ending}
use Rattle.aliasplan_explain.specs.declared.ending.Ending.TheVariants.{Nothing, Unrouted, Transactions}

-- the transaction of this index has the address
abbrev pub HasAt : List Planned → AddressParts → ℕ → Type 0
HasAt transactions a index = (t : Planned) × (slice_get transactions index ≡ Some t) × Contains t.to a

-- these are the indices of all transactions that have the address
abbrev pub AreIndices : List Planned → AddressParts → List ℕ → Type 0
AreIndices transactions a indices = (index : ℕ) → Contains indices index ↔ HasAt transactions a index

-- an address with a route, and the transactions that have it
pub record IsDelivered (job : Job) (plan : Plan) (node : Node) (indices : List ℕ) : Type 0 where
  pub address : AddressParts
  pub is : final_address job node ≡ Some address
  pub route : Route
  pub routed : final_route job node ≡ Some (Ok route)
  pub all : AreIndices plan.transactions address indices

abbrev pub IsEnding : Job → Plan → Node → Ending → Type 0
IsEnding job plan node Nothing = final_address job node ≡ None
IsEnding job plan node (Unrouted reason) = (cause : Cause) × (final_route job node ≡ Some (Err cause)) × (reason_of cause ≡ Some reason)
IsEnding job plan node (Transactions indices) = IsDelivered job plan node indices.items
