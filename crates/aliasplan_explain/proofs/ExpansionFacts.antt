-- Which addresses the numbers of reached pairs expand to, and which faults the bytes of files and tables have.
use Rattle.std.proofs.Common.{◌≡◌, ℕ, ◌+◌, ◌<◌, ◌≤◌, Bool, List, [], ◌∷◌, length, get_or, take, Option, Some, None, option_map, Result, Ok, Err, refl, sym, ap, ◌∙◌, subst, inl, inr, arith}
use Rattle.std.specs.Prelude.{◌↔◌, All, Contains, IsTrue, option_and_then, slice_get}
use Rattle.std.proofs.lemmas.List.{take_all}
use Rattle.std.proofs.lemmas.List.Elements.{All-contains}
use Rattle.std.proofs.lemmas.Option.{same_Some}
use Rattle.relay_text.specs.AddressParts.{AddressParts}
use Rattle.relay_text.specs.Bytes.{first_of, has_text}
use Rattle.relay_text.specs.TextSets.{IsAscendingBy, text_cmp}
use Rattle.relay_routes.specs.declared.route.Route.{Route}
use Rattle.relay_routes.specs.declared.unrouted.Unrouted.{Unrouted}
use Rattle.relay_routes.specs.Routes.{route_of, route_via_of}
use Rattle.relay_tables.specs.declared.node.Node.{Node}
use Rattle.relay_tables.specs.declared.node.Node.TheVariants as nodes
use Rattle.relay_tables.specs.GraphParts.{GraphParts}
use Rattle.relay_tables.specs.Senders.{Sender}
use Rattle.relay_pairs.specs.declared.reached.Reached.{Reached}
use Rattle.relay_job.specs.declared.job.Job.{Job}
use Rattle.relay_job.specs.declared.fault.RunFault.{RunFault}
use Rattle.relay_job.specs.declared.fault.RunFault.TheVariants.{Read, TooLong, BadJob, BadSetting, BadEnvelope, TooManyNames, TooManyOwners, TooManyPairs, Write, Memory}
use Rattle.relay_job.specs.JobAnswers.{Fails}
use Rattle.relay_job.specs.JobText.{bad_job, bad_setting, job_unless, sections_of}
use Rattle.relay_job.specs.Tables.{tables_of, without_envelope}
use Rattle.relay_explain.specs.declared.asked.Asked.{Asked}
use Rattle.relay_planning.specs.declared.options.Limits.{Limits}
use Rattle.relay_planning.specs.Delivery.{final_address, final_route, routing_of, IsReachedPair}
use Rattle.relay_planning.specs.Findings.{Reports}
use Rattle.relay_planning.specs.Reaching.{AreReachedPairs}
use Rattle.relay_planning.proofs.NumberFacts.{slice_get_below}
use Rattle.relay_planning.proofs.OutgoingFacts.{some_more}
use Rattle.relay_planning.proofs.SetFacts.{Contains-has_text, has_text-Contains}
use Rattle.aliasplan.specs.Checks.{AreLines}
use Rattle.aliasplan_explain.specs.Expansions.{expansion_line, HavePairLine, IsExpanded, IsExpansionLine, IsPairLine, RefusesAskedBytes}

-- ---- one pair
module _ (job : Job) (g : GraphParts) (with_senders : Bool) (pair : Reached) (node : Node) (at : slice_get g.nodes pair.node ≡ Some node) where
  address_of : (o : Option AddressParts) → final_address job node ≡ o → option_and_then (final_address job) (slice_get g.nodes pair.node) ≡ o
  address_of o is = ap (option_and_then (final_address job)) at ∙ is

  pub no_pair_line : final_address job node ≡ None → (q : List ℕ) → IsPairLine job g with_senders q pair → ⊥
  no_pair_line none q line =
      let both : None ≡ Some line.address = sym (address_of None none) ∙ line.address_at in
      absurd (let no : ⊥ = cc in no)

  pub pair_line : (sender : Sender) (a : AddressParts) → slice_get g.senders pair.sender ≡ Some sender → final_address job node ≡ Some a → (q : List ℕ) → (q ≡ expansion_line with_senders sender a) ↔ IsPairLine job g with_senders q pair
  pair_line sender a under is q = (
    λ e. record { sender = sender; sender_at = under; address = a; address_at = address_of (Some a) is; is = e },
    λ line.
        let one : line.sender ≡ sender = same_Some line.sender sender (sym line.sender_at ∙ under) in
        let two : line.address ≡ a = same_Some line.address a (sym line.address_at ∙ address_of (Some a) is) in
        line.is ∙ ap (λ (s : Sender). expansion_line with_senders s line.address) one ∙ ap (expansion_line with_senders sender) two,
  )

-- ---- pair after pair
module _ (job : Job) (g : GraphParts) (with_senders : Bool) (pairs : List Reached) (lines : List (List ℕ)) where
  pub no_lines : lines ≡ [] → Reports [] lines (HavePairLine job g with_senders [])
  no_lines e q = (
    λ h. inl (subst (λ (ls : List (List ℕ)). IsTrue (has_text ls q)) e h),
    λ either. elim either [ inl h ↦ subst (λ (ls : List (List ℕ)). IsTrue (has_text ls q)) (sym e) h | inr h ↦ let none : h.1.0 < 0 = h.1.1 in absurd (omega (arith, none)) ],
  )

  pub lines_more : (more : List (List ℕ)) (i : ℕ) (pair : Reached) → i < length pairs → get_or pairs i pair ≡ pair
      → Reports [] lines (HavePairLine job g with_senders (take i pairs)) → Reports lines more (λ q. IsPairLine job g with_senders q pair)
      → Reports [] more (HavePairLine job g with_senders (take (i + 1) pairs))
  lines_more more i pair inside is old new q = some_more (IsPairLine job g with_senders q) pairs i pair _ _ _ inside is (old q) (new q)

  pub all_lines : (i : ℕ) → length pairs ≤ i → Reports [] lines (HavePairLine job g with_senders (take i pairs)) → Reports [] lines (HavePairLine job g with_senders pairs)
  all_lines i past h = subst (λ (ps : List Reached). Reports [] lines (HavePairLine job g with_senders ps)) (take_all i pairs past) h

-- ---- what the pairs that a job reaches expand to
has_route : (job : Job) (node : Node) (a : AddressParts) → final_address job node ≡ Some a → (r : Result Route Unrouted) × (final_route job node ≡ Some r)
has_route job (nodes.Mailbox m) a is = (route_via_of (routing_of job) job.settings.mailbox_transport m, refl)
has_route job (nodes.Remote m) a is = (route_of (routing_of job) m, refl)
has_route job (nodes.Alias number) a is = absurd (let no : ⊥ = cc in no)
has_route job (nodes.Include number) a is = absurd (let no : ⊥ = cc in no)
has_route job (nodes.Missing name) a is = absurd (let no : ⊥ = cc in no)
has_route job (nodes.NoInclude path) a is = absurd (let no : ⊥ = cc in no)
has_route job (nodes.Command text) a is = absurd (let no : ⊥ = cc in no)
has_route job (nodes.File path) a is = absurd (let no : ⊥ = cc in no)

expanded_by : (job : Job) (sender : Sender) (node : Node) (a : AddressParts) → IsReachedPair job (record { sender = sender; node = node }) → final_address job node ≡ Some a
    → (r : Result Route Unrouted) → final_route job node ≡ Some r → IsExpanded job sender a
expanded_by job sender node a reached is (Ok route) to = inl (route, record { node = node; reached = reached; address = is; routed = to })
expanded_by job sender node a reached is (Err cause) to = inr (cause, record { node = node; reached = (sender, reached); address = is; unrouted = to }, reached)

module _ (job : Job) (g : GraphParts) (with_senders : Bool) (pairs : List Reached) (all : AreReachedPairs job g pairs) where
  expanded_at : (q : List ℕ) → HavePairLine job g with_senders pairs q → IsExpansionLine job with_senders q
  expanded_at q h =
      let pair : Reached = h.0 in
      let line = h.2 in
      let node = slice_get_below g.nodes pair.node (All-contains (λ (p : Reached). (p.sender < length g.senders) × (p.node < length g.nodes)) pairs pair all.in_graph h.1).1 in
      let is : final_address job node.0 ≡ Some line.address = sym (ap (option_and_then (final_address job)) node.1) ∙ line.address_at in
      let reached = all.reached pair line.sender node.0 h.1 line.sender_at node.1 in
      let route = has_route job node.0 line.address is in
      record { sender = line.sender; address = line.address; expanded = expanded_by job line.sender node.0 line.address reached is route.0 route.1; is = line.is }

  numbered : (q : List ℕ) (sender : Sender) (node : Node) (a : AddressParts) → IsReachedPair job (record { sender = sender; node = node }) → final_address job node ≡ Some a → q ≡ expansion_line with_senders sender a → HavePairLine job g with_senders pairs q
  numbered q sender node a reached is e =
      let p = all.numbered (record { sender = sender; node = node }) reached in
      (p.0, p.1, record { sender = sender; sender_at = p.2; address = a; address_at = ap (option_and_then (final_address job)) p.3 ∙ is; is = e })

  has_number : (q : List ℕ) → IsExpansionLine job with_senders q → HavePairLine job g with_senders pairs q
  has_number q line =
      elim line.expanded [
        | inl placed ↦ numbered q line.sender placed.1.node line.address placed.1.reached placed.1.address line.is
        | inr unrouted ↦ numbered q line.sender unrouted.1.node line.address unrouted.2 unrouted.1.address line.is
      ]

  -- the set of what the pairs give, as a list
  pub expansion_is : (set lines : List (List ℕ)) → lines ≡ set → IsAscendingBy text_cmp set → Reports [] set (HavePairLine job g with_senders pairs) → AreLines (IsExpansionLine job with_senders) lines
  expansion_is set lines same sorted reported =
      record {
        ascending = subst (λ (ls : List (List ℕ)). IsAscendingBy text_cmp ls) (sym same) sorted;
        members = λ q. (
          λ c. elim ((reported q).0 (has_text-Contains set q (subst (λ (ls : List (List ℕ)). Contains ls q) same c))) [
            | inl nothing ↦ absurd (let no : ⊥ = cc in no)
            | inr h ↦ expanded_at q h
          ],
          λ line. subst (λ (ls : List (List ℕ)). Contains ls q) (sym same) (Contains-has_text set q ((reported q).1 (inr (has_number q line)))),
        );
      }

-- ---- faults
-- the two faults of the lines of files and tables
abbrev pub IsTablesFault : RunFault → Type 0
IsTablesFault (BadJob line) = Unit {0}
IsTablesFault (BadSetting line) = Unit {0}
IsTablesFault (BadEnvelope line) = ⊥
IsTablesFault Read = ⊥
IsTablesFault TooLong = ⊥
IsTablesFault TooManyNames = ⊥
IsTablesFault TooManyOwners = ⊥
IsTablesFault TooManyPairs = ⊥
IsTablesFault Write = ⊥
IsTablesFault Memory = ⊥

fault_among : (a b : Option ℕ) (tables : Job) (fault : RunFault) → job_unless (first_of (option_map BadJob a ∷ option_map BadSetting b ∷ [])) tables ≡ Err fault → IsTablesFault fault
fault_among (Some n) b tables fault h = let e : BadJob n ≡ fault = cc in subst IsTablesFault e tt
fault_among None (Some n) tables fault h = let e : BadSetting n ≡ fault = cc in subst IsTablesFault e tt
fault_among None None tables fault h = cc

pub fault_of_tables : (text : List ℕ) (fault : RunFault) → tables_of text ≡ Err fault → IsTablesFault fault
unfolding tables_of
fault_of_tables text fault h = fault_among (bad_job text) (bad_setting text) (without_envelope (sections_of text)) fault h

module _ (limits : Limits) (questions : List Asked) (text : List ℕ) (size : length text ≤ limits.bytes) where
  -- a text that isn't files and tables
  pub refuses_tables : (fault : RunFault) → Fails fault (tables_of text) → RefusesAskedBytes limits questions text fault
  refuses_tables (BadJob line) h = record { size = size; read = h }
  refuses_tables (BadSetting line) h = record { size = size; read = h }
  refuses_tables Memory h = tt
  refuses_tables (BadEnvelope line) h = absurd (fault_of_tables text (BadEnvelope line) h)
  refuses_tables Read h = absurd (fault_of_tables text Read h)
  refuses_tables TooLong h = absurd (fault_of_tables text TooLong h)
  refuses_tables TooManyNames h = absurd (fault_of_tables text TooManyNames h)
  refuses_tables TooManyOwners h = absurd (fault_of_tables text TooManyOwners h)
  refuses_tables TooManyPairs h = absurd (fault_of_tables text TooManyPairs h)
  refuses_tables Write h = absurd (fault_of_tables text Write h)
