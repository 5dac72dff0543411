-- What can't be delivered at a node, and the lines that are reported of it.
use Rattle.std.proofs.Common.{◌≡◌, ◌⊎◌, ℕ, ◌+◌, ◌<◌, List, [], ◌∷◌, map, length, get_or, set, take, Contains, Option, Some, None, Result, Ok, Err, refl, sym, ap, ◌∙◌, subst, inl, inr}
use Rattle.std.specs.Prelude.{◌↔◌, IsTrue, option_and_then, slice_get}
use Rattle.std.proofs.lemmas.Bool.{cases_eq}
use Rattle.std.proofs.lemmas.List.{take_more, get_or-set_same, get_or-set_other}
use Rattle.std.proofs.lemmas.List.Elements.{Contains-push_cases}
use Rattle.relay_text.specs.AddressParts.{AddressParts}
use Rattle.relay_text.specs.Bytes.{has_text}
use Rattle.relay_routes.specs.declared.route.Route.{Route}
use Rattle.relay_routes.specs.declared.unrouted.Unrouted.{Unrouted}
use Rattle.relay_routes.specs.Routes.{route_of, route_via_of}
use Rattle.relay_tables.specs.declared.node.Node.{Node}
use Rattle.relay_tables.specs.declared.node.Node.TheVariants.{Alias, Include, Mailbox, Remote, Missing, NoInclude, Command, File}
use Rattle.relay_tables.specs.Directory.{Directory}
use Rattle.relay_tables.specs.GraphParts.{GraphParts}
use Rattle.relay_tables.specs.Graphs.{child_numbers, nodes_at}
use Rattle.relay_tables.specs.Targets.{targets_of}
use Rattle.relay_wire.specs.declared.finding.Place.{Place}
use Rattle.relay_wire.specs.declared.finding.Place.TheVariants as places
use Rattle.relay_wire.specs.declared.finding.Reason.{Reason}
use Rattle.relay_wire.specs.declared.finding.Finding.{Finding}
use Rattle.relay_wire.specs.declared.finding.Finding.TheVariants as findings
use Rattle.relay_wire.specs.Findings.{finding_text_of}
use Rattle.relay_job.specs.declared.job.Job.{Job}
use Rattle.relay_planning.specs.Delivery.{directory_of, routing_of, final_address, final_route, IsJobPart}
use Rattle.relay_planning.specs.Report.{reason_of}
use Rattle.relay_planning.specs.Listing.{place_of, target_finding}
use Rattle.relay_planning.specs.Entries.{IsLineIn, HaveLine, IsTargetLine, IsListLine, IsListLineIn, IsNodeLine}
use Rattle.relay_planning.specs.Routes.{IsLineAt, IsLineOfNode}
use Rattle.aliasplan.specs.Returns.{IsUndelivered}
use Rattle.aliasplan.specs.ReturnLines.{AreUndelivered, lines_at}
use Rattle.relay_planning.proofs.EntryFacts.{no_line}
use Rattle.relay_planning.proofs.NumberFacts.{child_at, child_of}
use Rattle.relay_planning.proofs.SetFacts.{Contains-has_text, has_text-Contains}

map_nil : {X Y : Type 0} (f : X → Y) (xs : List X) → map f xs ≡ [] → xs ≡ []
map_nil f [] e = refl
map_nil f (x ∷ xs) e = absurd (let none : ⊥ = cc in none)

same_address : (x y : AddressParts) → Some x ≡ Some y → x ≡ y
same_address x y e = cc

same_answer : (x y : Result Route Unrouted) → Some x ≡ Some y → x ≡ y
same_answer x y e = cc

module _ (job : Job) where
  -- some finding of a node has this line
  abbrev HasFinding : Node → List ℕ → Type 0
  HasFinding node q = (finding : Finding) × IsUndelivered job node finding × (q ≡ finding_text_of finding)

  -- ---- addresses without a route
  route_at : (node : Node) (a : AddressParts) (answer : Result Route Unrouted) (q : List ℕ) → final_address job node ≡ Some a → final_route job node ≡ Some answer → IsLineAt answer a q → HasFinding node q
  route_at node a (Ok route) q is routed h = elim h [ ]
  route_at node a (Err cause) q is routed h = (findings.Unrouted a h.0, (cause, is, routed, h.1), h.2)

  route_is : (node : Node) (q : List ℕ) → IsLineOfNode job node q → HasFinding node q
  route_is (Mailbox a) q h = route_at (Mailbox a) a (route_via_of (routing_of job) job.settings.mailbox_transport a) q refl refl h
  route_is (Remote a) q h = route_at (Remote a) a (route_of (routing_of job) a) q refl refl h
  route_is (Alias number) q h = elim h [ ]
  route_is (Include number) q h = elim h [ ]
  route_is (Missing name) q h = elim h [ ]
  route_is (NoInclude path) q h = elim h [ ]
  route_is (Command text) q h = elim h [ ]
  route_is (File path) q h = elim h [ ]

  line_at : (answer : Result Route Unrouted) (address a : AddressParts) (cause : Unrouted) (reason : Reason) → answer ≡ Err cause → address ≡ a → reason_of cause ≡ Some reason → IsLineAt answer address (finding_text_of (findings.Unrouted a reason))
  line_at answer address a cause reason routed is because =
      subst (λ o. IsLineAt o address (finding_text_of (findings.Unrouted a reason))) (sym routed) (reason, because, ap (λ x. finding_text_of (findings.Unrouted x reason)) (sym is))

  unrouted_line : (node : Node) (a : AddressParts) (cause : Unrouted) (reason : Reason) → final_address job node ≡ Some a → final_route job node ≡ Some (Err cause) → reason_of cause ≡ Some reason → IsLineOfNode job node (finding_text_of (findings.Unrouted a reason))
  unrouted_line (Mailbox address) a cause reason is routed because = line_at _ address a cause reason (same_answer _ _ routed) (same_address address a is) because
  unrouted_line (Remote address) a cause reason is routed because = line_at _ address a cause reason (same_answer _ _ routed) (same_address address a is) because
  unrouted_line (Alias number) a cause reason is routed because = absurd (let no : ⊥ = cc in no)
  unrouted_line (Include number) a cause reason is routed because = absurd (let no : ⊥ = cc in no)
  unrouted_line (Missing name) a cause reason is routed because = absurd (let no : ⊥ = cc in no)
  unrouted_line (NoInclude path) a cause reason is routed because = absurd (let no : ⊥ = cc in no)
  unrouted_line (Command text) a cause reason is routed because = absurd (let no : ⊥ = cc in no)
  unrouted_line (File path) a cause reason is routed because = absurd (let no : ⊥ = cc in no)

  module _ (g : GraphParts) (is : IsJobPart job g) (n : ℕ) (node : Node) (here : slice_get g.nodes n ≡ Some node) where
    abbrev d : Directory
    d = directory_of job

    -- ---- entries and include files
    no_targets : child_numbers g n ≡ [] → targets_of d node ≡ []
    no_targets none = map_nil (λ (t : Node). Some t) (targets_of d node) (sym (is.children n node here) ∙ ap (nodes_at g) none)

    no_children : targets_of d node ≡ [] → child_numbers g n ≡ []
    no_children none = map_nil (slice_get g.nodes) (child_numbers g n) (is.children n node here ∙ ap (map (λ (t : Node). Some t)) none)

    target_is : (place : Place) (t : Node) (q : List ℕ) → place_of d node ≡ Some place → Contains (targets_of d node) t → IsLineIn (target_finding place t) q → HasFinding node q
    target_is place (Missing name) q at has line = (findings.Missing name place, (at, has), line)
    target_is place (NoInclude path) q at has line = (findings.NoInclude path place, (at, has), line)
    target_is place (Command text) q at has line = (findings.Command text place, (at, has), line)
    target_is place (File path) q at has line = (findings.File path place, (at, has), line)
    target_is place (Alias number) q at has line = elim line [ ]
    target_is place (Include number) q at has line = elim line [ ]
    target_is place (Mailbox a) q at has line = elim line [ ]
    target_is place (Remote a) q at has line = elim line [ ]

    list_is : (place : Place) (cs : List ℕ) (q : List ℕ) → child_numbers g n ≡ cs → place_of d node ≡ Some place → IsListLine g place cs q → HasFinding node q
    list_is (places.Alias name) [] q none at h = (findings.EmptyAlias name, (at, no_targets none), h)
    list_is (places.Include path) [] q none at h = (findings.EmptyInclude path, (at, no_targets none), h)
    list_is places.Envelope [] q none at h = elim h [ ]
    list_is place (c ∷ cs) q among at h =
        let inside : Contains (child_numbers g n) h.0 = subst (λ (ms : List ℕ). Contains ms h.0) (sym among) h.1 in
        let t = child_at d job.sender job.recipients g is n node here h.0 inside in
        target_is place t.0 q at t.1 (subst (λ (o : Option Node). IsLineIn (option_and_then (target_finding place) o) q) t.2 h.2)

    list_is_in : (o : Option Place) (q : List ℕ) → place_of d node ≡ o → IsListLineIn g o (child_numbers g n) q → HasFinding node q
    list_is_in None q e h = elim h [ ]
    list_is_in (Some place) q e h = list_is place (child_numbers g n) q refl e h

    node_line_is : (q : List ℕ) → IsNodeLine g d n q → HasFinding node q
    node_line_is q line = list_is_in (place_of d node) q refl (subst (λ (o : Option Node). IsListLineIn g (option_and_then (place_of d) o) (child_numbers g n) q) here line)

    has_line : (place : Place) (q : List ℕ) (cs : List ℕ) → HaveLine (IsTargetLine g place) cs q → IsListLine g place cs q
    has_line place q [] h = absurd (no_line (IsTargetLine g place) q h)
    has_line place q (c ∷ cs) h = h

    child_line : (place : Place) (t : Node) (q : List ℕ) → Contains (targets_of d node) t → IsLineIn (target_finding place t) q → IsListLine g place (child_numbers g n) q
    child_line place t q has line =
        let c = child_of d job.sender job.recipients g is n node here t has in
        has_line place q (child_numbers g n) (c.0, c.1, subst (λ (o : Option Node). IsLineIn (option_and_then (target_finding place) o) q) (sym c.2) line)

    node_has : (place : Place) (q : List ℕ) → place_of d node ≡ Some place → IsListLine g place (child_numbers g n) q → IsNodeLine g d n q
    node_has place q at h =
        let listed : IsListLineIn g (place_of d node) (child_numbers g n) q = subst (λ (o : Option Place). IsListLineIn g o (child_numbers g n) q) (sym at) h in
        subst (λ (o : Option Node). IsListLineIn g (option_and_then (place_of d) o) (child_numbers g n) q) (sym here) listed

    -- ---- the line of what can't be delivered
    line_of : (finding : Finding) → IsUndelivered job node finding → IsNodeLine g d n (finding_text_of finding) ⊎ IsLineOfNode job node (finding_text_of finding)
    line_of (findings.Missing name place) u = inl (node_has place _ u.0 (child_line place (Missing name) _ u.1 refl))
    line_of (findings.NoInclude path place) u = inl (node_has place _ u.0 (child_line place (NoInclude path) _ u.1 refl))
    line_of (findings.File path place) u = inl (node_has place _ u.0 (child_line place (File path) _ u.1 refl))
    line_of (findings.Command text place) u = inl (node_has place _ u.0 (child_line place (Command text) _ u.1 refl))
    line_of (findings.EmptyAlias name) u =
        inl (node_has (places.Alias name) _ u.0 (subst (λ (cs : List ℕ). IsListLine g (places.Alias name) cs (finding_text_of (findings.EmptyAlias name))) (sym (no_children u.1)) refl))
    line_of (findings.EmptyInclude path) u =
        inl (node_has (places.Include path) _ u.0 (subst (λ (cs : List ℕ). IsListLine g (places.Include path) cs (finding_text_of (findings.EmptyInclude path))) (sym (no_children u.1)) refl))
    line_of (findings.Unrouted a reason) u = inr (unrouted_line node a u.0 reason u.1 u.2 u.3)
    line_of (findings.LoopAlias name) u = elim u [ ]
    line_of (findings.LoopInclude path) u = elim u [ ]
    line_of (findings.Aliases number word) u = elim u [ ]
    line_of (findings.Include path number word) u = elim u [ ]
    line_of (findings.Mailboxes number word) u = elim u [ ]
    line_of (findings.Mx number word) u = elim u [ ]
    line_of (findings.Transport number word) u = elim u [ ]

    -- the lines that are reported, one part after the other
    pub undelivered : (lines first second : List (List ℕ)) → ((q : List ℕ) → IsTrue (has_text first q) ↔ (IsTrue (has_text [] q) ⊎ IsNodeLine g d n q))
        → ((q : List ℕ) → IsTrue (has_text second q) ↔ (IsTrue (has_text first q) ⊎ IsLineOfNode job node q)) → ((q : List ℕ) → has_text lines q ≡ has_text second q) → AreUndelivered job node lines
    undelivered lines first second begun more same = record {
      each = λ q c. elim ((more q).0 (sym (same q) ∙ has_text-Contains lines q c)) [
        | inl early ↦ elim ((begun q).0 early) [ inl nothing ↦ absurd (let no : ⊥ = cc in no) | inr line ↦ node_line_is q line ]
        | inr route ↦ route_is node q route
      ];
      all = λ finding u.
          let q : List ℕ = finding_text_of finding in
          Contains-has_text lines q (same q ∙ elim (line_of finding u) [ inl line ↦ (more q).1 (inl ((begun q).1 (inr line))) | inr route ↦ (more q).1 (inr route) ]);
    }

-- ---- one more node
pub lists_more : (job : Job) (g : GraphParts) (nodes : List ℕ) (i : ℕ) (lists : List (List (List ℕ))) (lines : List (List ℕ)) → i < length nodes → get_or nodes i 0 < length lists
    → ((n : ℕ) (node : Node) → Contains (take i nodes) n → slice_get g.nodes n ≡ Some node → AreUndelivered job node (lines_at lists n))
    → ((at : Node) → slice_get g.nodes (get_or nodes i 0) ≡ Some at → AreUndelivered job at lines)
    → (n : ℕ) (node : Node) → Contains (take (i + 1) nodes) n → slice_get g.nodes n ≡ Some node → AreUndelivered job node (lines_at (set lists (get_or nodes i 0) lines) n)
lists_more job g nodes i lists lines inside below old new n node has at =
    let m : ℕ = get_or nodes i 0 in
    elim (cases_eq n m) [
      | inl same ↦
          let here : lines_at (set lists m lines) n ≡ lines = ap (lines_at (set lists m lines)) same ∙ get_or-set_same lists m lines [] below in
          subst (AreUndelivered job node) (sym here) (new node (ap (slice_get g.nodes) (sym same) ∙ at))
      | inr apart ↦
          let pushed = subst (λ (ns : List ℕ). Contains ns n) (take_more nodes i 0 inside) has in
          let early : Contains (take i nodes) n = elim (Contains-push_cases (take i nodes) m n pushed) [ inl before ↦ before | inr here ↦ absurd (apart (sym here)) ] in
          subst (AreUndelivered job node) (sym (get_or-set_other lists m n lines [] apart)) (old n node early at)
    ]
