-- The lines of addresses that have no route.
use Rattle.std.proofs.Common.{◌≡◌, ◌⊎◌, ℕ, Bool, ◌||◌, List, ◌<◌, length, get_or, refl, sym, ap, subst, ◌∙◌, inl, inr}
use Rattle.std.specs.Prelude.{IsTrue, ◌↔◌, Contains, slice_get, Some, None, Result, Ok, Err}
use Rattle.std.specs.Str.{bytes_eq}
use Rattle.std.proofs.lemmas.Bool.{or_cases, or_left, or_right}
use Rattle.std.proofs.lemmas.List.Elements.{All-contains}
use Rattle.std.proofs.lemmas.Option.{slice_get-get_or}
use Rattle.std.proofs.lemmas.Slice.Eq.{bytes_eq-Decides}
use Rattle.relay_text.specs.AddressParts.{AddressParts}
use Rattle.relay_routes.specs.declared.route.Route.{Route}
use Rattle.relay_routes.specs.declared.unrouted.Unrouted.{Unrouted}
use Rattle.relay_routes.specs.Routes.{route_of, route_via_of}
use Rattle.relay_tables.specs.declared.node.Node.{Node}
use Rattle.relay_tables.specs.declared.node.Node.TheVariants as nodes
use Rattle.relay_tables.specs.GraphParts.{GraphParts}
use Rattle.relay_pairs.specs.declared.reached.Reached.{Reached}
use Rattle.relay_wire.specs.declared.finding.Reason.{Reason}
use Rattle.relay_wire.specs.declared.finding.Finding.{Finding}
use Rattle.relay_wire.specs.declared.finding.Finding.TheVariants.{Missing, NoInclude, File, Command, EmptyAlias, EmptyInclude, LoopAlias, LoopInclude, Unrouted as UnroutedFinding, Aliases, Include, Mailboxes, Mx, Transport}
use Rattle.relay_wire.specs.Findings.{finding_text_of}
use Rattle.relay_job.specs.declared.job.Job.{Job}
use Rattle.relay_planning.specs.Delivery.{routing_of, IsReachedNode, final_route, final_address}
use Rattle.relay_planning.specs.Reaching.{AreReachedPairs}
use Rattle.relay_planning.specs.Report.{reason_of, part_of, routes, IsFinding, IsLineOf}
use Rattle.relay_planning.specs.Routes.{IsLineAt, IsLineOfNode, HaveLine}

-- a line that is added is a line of the report
line_added : (q line : List ℕ) (old new : Bool) → new ≡ (old || bytes_eq q line) → IsTrue new ↔ (IsTrue old ⊎ (q ≡ line))
line_added q line old new e = (
  λ h. elim (or_cases old (bytes_eq q line) (sym e ∙ h)) [ inl there ↦ inl there | inr here ↦ inr ((bytes_eq-Decides q line).0 here) ],
  λ either. e ∙ elim either [ inl there ↦ or_left old (bytes_eq q line) there | inr here ↦ or_right old (bytes_eq q line) ((bytes_eq-Decides q line).1 here) ],
)

same_reason : (r s : Reason) → Some r ≡ Some s → r ≡ s
same_reason r s e = cc

pub unrouted_added : (cause : Unrouted) (reason : Reason) (copy address : AddressParts) (q : List ℕ) (old new : Bool) → copy ≡ address → Some reason ≡ reason_of cause → new ≡ (old || bytes_eq q (finding_text_of (UnroutedFinding copy reason))) → IsTrue new ↔ (IsTrue old ⊎ IsLineAt (Err cause) address q)
unrouted_added cause reason copy address q old new same is e =
    let line : AddressParts → List ℕ = λ a. finding_text_of (UnroutedFinding a reason) in
    let added = line_added q (line copy) old new e in (
      λ h. elim (added.0 h) [ inl there ↦ inl there | inr here ↦ inr (reason, sym is, here ∙ ap line same) ],
      λ either. added.1 (elim either [
        | inl there ↦ inl there
        | inr here ↦ inr (here.2 ∙ ap (λ r. finding_text_of (UnroutedFinding address r)) (same_reason here.0 reason (sym here.1 ∙ sym is)) ∙ ap line (sym same))
      ]),
    )

-- ---- which lines the part of the report has
module _ (job : Job) where
  unrouted_line : (node : Node) (address : AddressParts) (answer : Result Route Unrouted) (q : List ℕ) → IsReachedNode job node → final_address job node ≡ Some address → final_route job node ≡ Some answer → IsLineAt answer address q → IsLineOf job routes q
  unrouted_line node address (Ok route) q reached is routed h = elim h [ ]
  unrouted_line node address (Err cause) q reached is routed h =
      (UnroutedFinding address h.0, refl, (cause, record { node = node; reached = reached; address = is; unrouted = routed }, h.1), h.2)

  node_line : (node : Node) (q : List ℕ) → IsReachedNode job node → IsLineOfNode job node q → IsLineOf job routes q
  node_line (nodes.Mailbox address) q reached h = unrouted_line (nodes.Mailbox address) address (route_via_of (routing_of job) job.settings.mailbox_transport address) q reached refl refl h
  node_line (nodes.Remote address) q reached h = unrouted_line (nodes.Remote address) address (route_of (routing_of job) address) q reached refl refl h
  node_line (nodes.Alias number) q reached h = elim h [ ]
  node_line (nodes.Include number) q reached h = elim h [ ]
  node_line (nodes.Missing name) q reached h = elim h [ ]
  node_line (nodes.NoInclude path) q reached h = elim h [ ]
  node_line (nodes.Command text) q reached h = elim h [ ]
  node_line (nodes.File path) q reached h = elim h [ ]

  same_address : (x y : AddressParts) → Some x ≡ Some y → x ≡ y
  same_address x y e = cc

  same_answer : (x y : Result Route Unrouted) → Some x ≡ Some y → x ≡ y
  same_answer x y e = cc

  line_of_node : (node : Node) (a : AddressParts) (cause : Unrouted) (reason : Reason) (q : List ℕ) → final_address job node ≡ Some a → final_route job node ≡ Some (Err cause) → reason_of cause ≡ Some reason → q ≡ finding_text_of (UnroutedFinding a reason) → IsLineOfNode job node q
  line_of_node (nodes.Mailbox address) a cause reason q is routed because e =
      subst (λ o. IsLineAt o address q) (sym (same_answer _ _ routed)) (reason, because, e ∙ ap (λ x. finding_text_of (UnroutedFinding x reason)) (sym (same_address address a is)))
  line_of_node (nodes.Remote address) a cause reason q is routed because e =
      subst (λ o. IsLineAt o address q) (sym (same_answer _ _ routed)) (reason, because, e ∙ ap (λ x. finding_text_of (UnroutedFinding x reason)) (sym (same_address address a is)))
  line_of_node (nodes.Alias number) a cause reason q is routed because e = absurd (let no : ⊥ = cc in no)
  line_of_node (nodes.Include number) a cause reason q is routed because e = absurd (let no : ⊥ = cc in no)
  line_of_node (nodes.Missing name) a cause reason q is routed because e = absurd (let no : ⊥ = cc in no)
  line_of_node (nodes.NoInclude path) a cause reason q is routed because e = absurd (let no : ⊥ = cc in no)
  line_of_node (nodes.Command text) a cause reason q is routed because e = absurd (let no : ⊥ = cc in no)
  line_of_node (nodes.File path) a cause reason q is routed because e = absurd (let no : ⊥ = cc in no)

  module _ (g : GraphParts) (pairs : List Reached) (h : AreReachedPairs job g pairs) where
    pair_reached : (pair : Reached) (node : Node) → Contains pairs pair → slice_get g.nodes pair.node ≡ Some node → IsReachedNode job node
    pair_reached pair node c is =
        let inside : pair.sender < length g.senders = (All-contains (λ p. (p.sender < length g.senders) × (p.node < length g.nodes)) pairs pair h.in_graph c).0 in
        let sender = get_or g.senders pair.sender None in
        (sender, h.reached pair sender node c (slice_get-get_or g.senders pair.sender None inside) is)

    line_from : (q : List ℕ) → HaveLine job g pairs q → IsLineOf job routes q
    line_from q line =
        let at = line.2 in
        node_line at.node q (pair_reached line.0 at.node line.1 at.is) at.reported

    finding_line : (finding : Finding) (q : List ℕ) → part_of finding ≡ routes → IsFinding job finding → q ≡ finding_text_of finding → HaveLine job g pairs q
    finding_line (UnroutedFinding a reason) q part found e =
        let at = found.1 in
        let pair = h.numbered (record { sender = at.reached.0; node = at.node }) at.reached.1 in
        (pair.0, pair.1, record { node = at.node; is = pair.3; reported = line_of_node at.node a found.0 reason q at.address at.unrouted found.2 e })
    finding_line (Missing name place) q part found e = absurd (let none : ⊥ = cc in none)
    finding_line (NoInclude path place) q part found e = absurd (let none : ⊥ = cc in none)
    finding_line (File path place) q part found e = absurd (let none : ⊥ = cc in none)
    finding_line (Command text place) q part found e = absurd (let none : ⊥ = cc in none)
    finding_line (EmptyAlias name) q part found e = absurd (let none : ⊥ = cc in none)
    finding_line (EmptyInclude path) q part found e = absurd (let none : ⊥ = cc in none)
    finding_line (LoopAlias name) q part found e = absurd (let none : ⊥ = cc in none)
    finding_line (LoopInclude path) q part found e = absurd (let none : ⊥ = cc in none)
    finding_line (Aliases number word) q part found e = absurd (let none : ⊥ = cc in none)
    finding_line (Include path number word) q part found e = absurd (let none : ⊥ = cc in none)
    finding_line (Mailboxes number word) q part found e = absurd (let none : ⊥ = cc in none)
    finding_line (Mx number word) q part found e = absurd (let none : ⊥ = cc in none)
    finding_line (Transport number word) q part found e = absurd (let none : ⊥ = cc in none)

    pub route_lines : (q : List ℕ) → HaveLine job g pairs q ↔ IsLineOf job routes q
    route_lines q = (line_from q, λ line. finding_line line.0 q line.1 line.2 line.3)
