-- Which finding each line of entries is of.
use Rattle.std.proofs.Common.{◌≡◌, ◌⊎◌, ℕ, ◌<◌, List, [], ◌∷◌, length, map, slice_get, All, Contains, Option, Some, None, refl, sym, ap, ◌∙◌, subst, inl, inr}
use Rattle.std.specs.Prelude.{◌↔◌, option_map, option_and_then}
use Rattle.std.proofs.lemmas.List.Elements.{All-contains, Contains-get_or}
use Rattle.relay_aliasfile.specs.declared.entry.Entry.{Entry}
use Rattle.relay_aliasfile.specs.declared.item.Item.{Item}
use Rattle.relay_tables.specs.declared.node.Node.{Node}
use Rattle.relay_tables.specs.declared.node.Node.TheVariants.{Alias, Include, Mailbox, Remote, Missing, NoInclude, Command, File}
use Rattle.relay_tables.specs.declared.include_entry.IncludeEntry.{IncludeEntry}
use Rattle.relay_tables.specs.Directory.{Directory}
use Rattle.relay_tables.specs.GraphParts.{GraphParts}
use Rattle.relay_tables.specs.Graphs.{child_numbers, nodes_at}
use Rattle.relay_tables.specs.Targets.{targets_of, recipient_target, item_target, items_of_entry, items_of_include}
use Rattle.relay_loops.specs.Loops.{AreLoopsOf}
use Rattle.relay_wire.specs.declared.finding.Place.{Place}
use Rattle.relay_wire.specs.declared.finding.Place.TheVariants as places
use Rattle.relay_wire.specs.declared.finding.Finding.{Finding}
use Rattle.relay_wire.specs.declared.finding.Finding.TheVariants as findings
use Rattle.relay_wire.specs.Findings.{finding_text_of}
use Rattle.relay_job.specs.declared.job.Job.{Job}
use Rattle.relay_planning.specs.Delivery.{directory_of, IsReachedNode, IsOnLoop, IsJobPart}
use Rattle.relay_planning.specs.Reaching.{AreReachedNodes}
use Rattle.relay_planning.specs.Report.{entries, part_of, IsReachedEntry, IsReachedInclude, HasTarget, IsFinding, IsLineOf}
use Rattle.relay_planning.specs.Listing.{place_of, empty_finding, loop_finding, target_finding}
use Rattle.relay_planning.specs.Entries.{IsLineIn, HaveLine, IsTargetLine, IsListLine, IsListLineIn, IsNodeLine, IsLoopLine, IsEntryLine}
use Rattle.relay_planning.proofs.Members.{Contains-map, Contains-from_map}
use Rattle.relay_planning.proofs.EntryFacts.{no_line}
use Rattle.relay_planning.proofs.NumberFacts.{slice_get_below, root_at, root_of, child_at, child_of, loop_of_node, loop_of_number}

map_nil : {X Y : Type 0} (f : X → Y) (xs : List X) → map f xs ≡ [] → xs ≡ []
map_nil f [] e = refl
map_nil f (x ∷ xs) e = absurd (let none : ⊥ = cc in none)

module _ (job : Job) (g : GraphParts) (nodes loops : List ℕ) (is : IsJobPart job g) (all : AreReachedNodes job g nodes) (looped : AreLoopsOf g nodes loops) where
  abbrev d : Directory
  d = directory_of job

  pub loops_within : All (λ n. n < length g.nodes) loops
  loops_within k other inside = All-contains (λ (n : ℕ). n < length g.nodes) nodes _ all.in_graph ((looped.members _).0 (Contains-get_or loops k other inside)).0

  -- ---- the finding of a line
  module _ (q : List ℕ) where
    target_is : (place : Place) (node : Node) → HasTarget job place node → IsLineIn (target_finding place node) q → IsLineOf job entries q
    target_is place (Missing name) has line = (findings.Missing name place, refl, has, line)
    target_is place (NoInclude path) has line = (findings.NoInclude path place, refl, has, line)
    target_is place (Command text) has line = (findings.Command text place, refl, has, line)
    target_is place (File path) has line = (findings.File path place, refl, has, line)
    target_is place (Alias number) has line = elim line [ ]
    target_is place (Include number) has line = elim line [ ]
    target_is place (Mailbox a) has line = elim line [ ]
    target_is place (Remote a) has line = elim line [ ]

    target_line_is : (place : Place) (n : ℕ) (node : Node) → slice_get g.nodes n ≡ Some node → HasTarget job place node → IsTargetLine g place n q → IsLineOf job entries q
    target_line_is place n node here has line =
        target_is place node has (subst (λ (o : Option Node). IsLineIn (option_and_then (target_finding place) o) q) here line)

    root_line_is : HaveLine (IsTargetLine g places.Envelope) g.roots q → IsLineOf job entries q
    root_line_is h =
        let a = root_at d job.sender job.recipients g is h.0 h.1 in
        target_line_is places.Envelope h.0 (recipient_target d a.0) a.2 (Contains-map (recipient_target d) job.recipients a.0 a.1) h.2

    -- the targets of a node at a place
    child_line_is : (place : Place) (n : ℕ) (node : Node) → slice_get g.nodes n ≡ Some node → ((t : Node) → Contains (targets_of d node) t → HasTarget job place t) → HaveLine (IsTargetLine g place) (child_numbers g n) q → IsLineOf job entries q
    child_line_is place n node here has h =
        let t = child_at d job.sender job.recipients g is n node here h.0 h.1 in
        target_line_is place h.0 t.0 t.2 (has t.0 t.1) h.2

    -- an entry's line is that it is empty, or that of a target
    module _ (number : ℕ) (entry : Entry) (r : IsReachedEntry job number entry) (n : ℕ) (here : slice_get g.nodes n ≡ Some (Alias number)) where
      alias_items : nodes_at g (child_numbers g n) ≡ map (λ (t : Node). Some t) (map (item_target d (Some number)) entry.items)
      alias_items =
          is.children n (Alias number) here
          ∙ ap (λ (o : Option Entry). map (λ (t : Node). Some t) (map (item_target d (Some number)) (items_of_entry d o))) r.is

      alias_empty : child_numbers g n ≡ [] → entry.items ≡ []
      alias_empty none =
          map_nil (item_target d (Some number)) entry.items
          (map_nil (λ (t : Node). Some t) (map (item_target d (Some number)) entry.items) (sym alias_items ∙ ap (nodes_at g) none))

      alias_line_is : IsListLine g (places.Alias entry.name) (child_numbers g n) q → IsLineOf job entries q
      alias_line_is line = at (child_numbers g n) refl line where
        at : (cs : List ℕ) → child_numbers g n ≡ cs → IsListLine g (places.Alias entry.name) cs q → IsLineOf job entries q
        at [] none h = (findings.EmptyAlias entry.name, refl, (number, entry, r, refl, alias_empty none), h)
        at (c ∷ cs) among h =
            child_line_is (places.Alias entry.name) n (Alias number) here (λ t has. (number, entry, r, refl, has))
            (subst (λ (ms : List ℕ). HaveLine (IsTargetLine g (places.Alias entry.name)) ms q) (sym among) h)

    -- the same of an include file
    module _ (number : ℕ) (entry : IncludeEntry) (r : IsReachedInclude job number entry) (n : ℕ) (here : slice_get g.nodes n ≡ Some (Include number)) where
      include_items : nodes_at g (child_numbers g n) ≡ map (λ (t : Node). Some t) (map (item_target d None) entry.items)
      include_items =
          is.children n (Include number) here
          ∙ ap (λ (o : Option IncludeEntry). map (λ (t : Node). Some t) (map (item_target d None) (items_of_include d o))) r.is

      include_empty : child_numbers g n ≡ [] → entry.items ≡ []
      include_empty none =
          map_nil (item_target d None) entry.items
          (map_nil (λ (t : Node). Some t) (map (item_target d None) entry.items) (sym include_items ∙ ap (nodes_at g) none))

      include_line_is : IsListLine g (places.Include entry.path) (child_numbers g n) q → IsLineOf job entries q
      include_line_is line = at (child_numbers g n) refl line where
        at : (cs : List ℕ) → child_numbers g n ≡ cs → IsListLine g (places.Include entry.path) cs q → IsLineOf job entries q
        at [] none h = (findings.EmptyInclude entry.path, refl, (number, entry, r, refl, include_empty none), h)
        at (c ∷ cs) among h =
            child_line_is (places.Include entry.path) n (Include number) here (λ t has. (number, entry, r, refl, has))
            (subst (λ (ms : List ℕ). HaveLine (IsTargetLine g (places.Include entry.path)) ms q) (sym among) h)

    list_line_is : (n : ℕ) (node : Node) → slice_get g.nodes n ≡ Some node → IsReachedNode job node → IsListLineIn g (place_of d node) (child_numbers g n) q → IsLineOf job entries q
    list_line_is n (Alias number) here r line = at (slice_get d.aliases number) refl line where
      at : (o : Option Entry) → slice_get d.aliases number ≡ o → IsListLineIn g (option_map (λ (e : Entry). places.Alias e.name) o) (child_numbers g n) q → IsLineOf job entries q
      at None e h = elim h [ ]
      at (Some entry) e h = alias_line_is number entry (record { is = e; reached = r }) n here h
    list_line_is n (Include number) here r line = at (slice_get d.includes number) refl line where
      at : (o : Option IncludeEntry) → slice_get d.includes number ≡ o → IsListLineIn g (option_map (λ (e : IncludeEntry). places.Include e.path) o) (child_numbers g n) q → IsLineOf job entries q
      at None e h = elim h [ ]
      at (Some entry) e h = include_line_is number entry (record { is = e; reached = r }) n here h
    list_line_is n (Mailbox a) here r line = elim line [ ]
    list_line_is n (Remote a) here r line = elim line [ ]
    list_line_is n (Missing name) here r line = elim line [ ]
    list_line_is n (NoInclude path) here r line = elim line [ ]
    list_line_is n (Command text) here r line = elim line [ ]
    list_line_is n (File path) here r line = elim line [ ]

    loop_line_is : (n : ℕ) (node : Node) → slice_get g.nodes n ≡ Some node → IsReachedNode job node → IsOnLoop job node → IsLineIn (option_and_then loop_finding (place_of d node)) q → IsLineOf job entries q
    loop_line_is n (Alias number) here r loop line = at (slice_get d.aliases number) refl line where
      at : (o : Option Entry) → slice_get d.aliases number ≡ o → IsLineIn (option_and_then loop_finding (option_map (λ (e : Entry). places.Alias e.name) o)) q → IsLineOf job entries q
      at None e h = elim h [ ]
      at (Some entry) e h = (findings.LoopAlias entry.name, refl, (number, entry, record { is = e; reached = r }, refl, loop), h)
    loop_line_is n (Include number) here r loop line = at (slice_get d.includes number) refl line where
      at : (o : Option IncludeEntry) → slice_get d.includes number ≡ o → IsLineIn (option_and_then loop_finding (option_map (λ (e : IncludeEntry). places.Include e.path) o)) q → IsLineOf job entries q
      at None e h = elim h [ ]
      at (Some entry) e h = (findings.LoopInclude entry.path, refl, (number, entry, record { is = e; reached = r }, refl, loop), h)
    loop_line_is n (Mailbox a) here r loop line = elim line [ ]
    loop_line_is n (Remote a) here r loop line = elim line [ ]
    loop_line_is n (Missing name) here r loop line = elim line [ ]
    loop_line_is n (NoInclude path) here r loop line = elim line [ ]
    loop_line_is n (Command text) here r loop line = elim line [ ]
    loop_line_is n (File path) here r loop line = elim line [ ]

    line_is : IsEntryLine g d nodes loops q → IsLineOf job entries q
    line_is (inl root) = root_line_is root
    line_is (inr (inl h)) =
        let node = slice_get_below g.nodes h.0 (All-contains (λ (n : ℕ). n < length g.nodes) nodes h.0 all.in_graph h.1) in
        let P : Option Node → Type 0 = λ o. IsListLineIn g (option_and_then (place_of d) o) (child_numbers g h.0) q in
        list_line_is h.0 node.0 node.1 (all.reached h.0 node.0 h.1 node.1) (subst P node.1 h.2)
    line_is (inr (inr h)) =
        let among = (looped.members h.0).0 h.1 in
        let node = slice_get_below g.nodes h.0 (All-contains (λ (n : ℕ). n < length g.nodes) nodes h.0 all.in_graph among.0) in
        let P : Option Node → Type 0 = λ o. IsLineIn (option_and_then loop_finding (option_and_then (place_of d) o)) q in
        loop_line_is h.0 node.0 node.1 (all.reached h.0 node.0 among.0 node.1) (loop_of_node d job.sender job.recipients g is h.0 node.0 node.1 among.1) (subst P node.1 h.2)

    -- ---- the line of a finding
    abbrev IsReported : Type 0
    IsReported = IsEntryLine g d nodes loops q

    -- a target of a node is a line of that node
    has_target : (place : Place) (cs : List ℕ) → HaveLine (IsTargetLine g place) cs q → IsListLine g place cs q
    has_target place [] h = absurd (no_line (IsTargetLine g place) q h)
    has_target place (c ∷ cs) h = h

    has_nothing : (place : Place) (cs : List ℕ) → cs ≡ [] → IsLineIn (empty_finding place) q → IsListLine g place cs q
    has_nothing place [] e h = h
    has_nothing place (c ∷ cs) e h = absurd (let none : ⊥ = cc in none)

    target_line : (place : Place) (n : ℕ) (node : Node) (finding : Finding) → slice_get g.nodes n ≡ Some node → target_finding place node ≡ Some finding → q ≡ finding_text_of finding → IsTargetLine g place n q
    target_line place n node finding here found line =
        let P : Option Node → Type 0 = λ o. IsLineIn (option_and_then (target_finding place) o) q in
        let Q : Option Finding → Type 0 = λ o. IsLineIn o q in
        subst P (sym here) (subst Q (sym found) line)

    node_line : (n : ℕ) (node : Node) (place : Place) → Contains nodes n → slice_get g.nodes n ≡ Some node → place_of d node ≡ Some place → IsListLine g place (child_numbers g n) q → IsReported
    node_line n node place c here at line =
        let P : Option Node → Type 0 = λ o. IsListLineIn g (option_and_then (place_of d) o) (child_numbers g n) q in
        let Q : Option Place → Type 0 = λ o. IsListLineIn g o (child_numbers g n) q in
        inr (inl (n, c, subst P (sym here) (subst Q (sym at) line)))

    loop_line : (n : ℕ) (node : Node) (place : Place) → Contains nodes n → slice_get g.nodes n ≡ Some node → place_of d node ≡ Some place → IsOnLoop job node → IsLineIn (loop_finding place) q → IsReported
    loop_line n node place c here at loop line =
        let P : Option Node → Type 0 = λ o. IsLineIn (option_and_then loop_finding (option_and_then (place_of d) o)) q in
        let Q : Option Place → Type 0 = λ o. IsLineIn (option_and_then loop_finding o) q in
        let among = (looped.members n).1 (c, loop_of_number d job.sender job.recipients g is n node here loop) in
        inr (inr (n, among, subst P (sym here) (subst Q (sym at) line)))

    alias_place : (number : ℕ) (entry : Entry) (name : List ℕ) → IsReachedEntry job number entry → entry.name ≡ name → place_of d (Alias number) ≡ Some (places.Alias name)
    alias_place number entry name r e =
        ap (option_map (λ (x : Entry). places.Alias x.name)) r.is ∙ ap (λ (t : List ℕ). Some (places.Alias t)) e

    include_place : (number : ℕ) (entry : IncludeEntry) (path : List ℕ) → IsReachedInclude job number entry → entry.path ≡ path → place_of d (Include number) ≡ Some (places.Include path)
    include_place number entry path r e =
        ap (option_map (λ (x : IncludeEntry). places.Include x.path)) r.is ∙ ap (λ (t : List ℕ). Some (places.Include t)) e

    child_line : (n : ℕ) (node : Node) (place : Place) (t : Node) (finding : Finding) → slice_get g.nodes n ≡ Some node → Contains (targets_of d node) t → target_finding place t ≡ Some finding → q ≡ finding_text_of finding → IsListLine g place (child_numbers g n) q
    child_line n node place t finding here has found line =
        let c = child_of d job.sender job.recipients g is n node here t has in
        has_target place (child_numbers g n) (c.0, c.1, target_line place c.0 t finding c.2 found line)

    target_reported : (place : Place) (t : Node) (finding : Finding) → HasTarget job place t → target_finding place t ≡ Some finding → q ≡ finding_text_of finding → IsReported
    target_reported (places.Alias name) t finding h found line =
        let number : ℕ = h.0 in
        let n = all.numbered (Alias number) h.2.reached in
        node_line n.0 (Alias number) (places.Alias name) n.1 n.2 (alias_place number h.1 name h.2 h.3)
        (child_line n.0 (Alias number) (places.Alias name) t finding n.2 h.4 found line)
    target_reported (places.Include path) t finding h found line =
        let number : ℕ = h.0 in
        let n = all.numbered (Include number) h.2.reached in
        node_line n.0 (Include number) (places.Include path) n.1 n.2 (include_place number h.1 path h.2 h.3)
        (child_line n.0 (Include number) (places.Include path) t finding n.2 h.4 found line)
    target_reported places.Envelope t finding h found line =
        let a = Contains-from_map (recipient_target d) job.recipients t h in
        let c = root_of d job.sender job.recipients g is a.0 a.1 in
        inl (c.0, c.1, target_line places.Envelope c.0 t finding (c.2 ∙ ap (λ (x : Node). Some x) a.2) found line)

    -- an entry without items has no children
    alias_without : (n number : ℕ) (entry : Entry) → IsReachedEntry job number entry → slice_get g.nodes n ≡ Some (Alias number) → entry.items ≡ [] → child_numbers g n ≡ []
    alias_without n number entry r here none =
        map_nil (slice_get g.nodes) (child_numbers g n)
        (alias_items number entry r n here ∙ ap (λ (items : List Item). map (λ (t : Node). Some t) (map (item_target d (Some number)) items)) none)

    include_without : (n number : ℕ) (entry : IncludeEntry) → IsReachedInclude job number entry → slice_get g.nodes n ≡ Some (Include number) → entry.items ≡ [] → child_numbers g n ≡ []
    include_without n number entry r here none =
        map_nil (slice_get g.nodes) (child_numbers g n)
        (include_items number entry r n here ∙ ap (λ (items : List Item). map (λ (t : Node). Some t) (map (item_target d None) items)) none)

    finding_reported : (finding : Finding) → part_of finding ≡ entries → IsFinding job finding → q ≡ finding_text_of finding → IsReported
    finding_reported (findings.Missing name place) e h line = target_reported place (Missing name) (findings.Missing name place) h refl line
    finding_reported (findings.NoInclude path place) e h line = target_reported place (NoInclude path) (findings.NoInclude path place) h refl line
    finding_reported (findings.File path place) e h line = target_reported place (File path) (findings.File path place) h refl line
    finding_reported (findings.Command text place) e h line = target_reported place (Command text) (findings.Command text place) h refl line
    finding_reported (findings.EmptyAlias name) e h line =
        let n = all.numbered (Alias h.0) h.2.reached in
        node_line n.0 (Alias h.0) (places.Alias name) n.1 n.2 (alias_place h.0 h.1 name h.2 h.3)
        (has_nothing (places.Alias name) (child_numbers g n.0) (alias_without n.0 h.0 h.1 h.2 n.2 h.4) line)
    finding_reported (findings.EmptyInclude path) e h line =
        let n = all.numbered (Include h.0) h.2.reached in
        node_line n.0 (Include h.0) (places.Include path) n.1 n.2 (include_place h.0 h.1 path h.2 h.3)
        (has_nothing (places.Include path) (child_numbers g n.0) (include_without n.0 h.0 h.1 h.2 n.2 h.4) line)
    finding_reported (findings.LoopAlias name) e h line =
        let n = all.numbered (Alias h.0) h.2.reached in
        loop_line n.0 (Alias h.0) (places.Alias name) n.1 n.2 (alias_place h.0 h.1 name h.2 h.3) h.4 line
    finding_reported (findings.LoopInclude path) e h line =
        let n = all.numbered (Include h.0) h.2.reached in
        loop_line n.0 (Include h.0) (places.Include path) n.1 n.2 (include_place h.0 h.1 path h.2 h.3) h.4 line
    finding_reported (findings.Unrouted a reason) e h line = absurd (let none : ⊥ = cc in none)
    finding_reported (findings.Aliases number word) e h line = absurd (let none : ⊥ = cc in none)
    finding_reported (findings.Include path number word) e h line = absurd (let none : ⊥ = cc in none)
    finding_reported (findings.Mailboxes number word) e h line = absurd (let none : ⊥ = cc in none)
    finding_reported (findings.Mx number word) e h line = absurd (let none : ⊥ = cc in none)
    finding_reported (findings.Transport number word) e h line = absurd (let none : ⊥ = cc in none)

    entry_line_is : IsEntryLine g d nodes loops q ↔ IsLineOf job entries q
    entry_line_is = (line_is, λ found. finding_reported found.0 found.1 found.2 found.3)

    -- the lines of the roots, of the nodes and of the loops are those of the findings
    pub lines_are : (t : Directory) (roots : List ℕ) → t ≡ directory_of job → roots ≡ g.roots
        → (HaveLine (IsTargetLine g places.Envelope) roots q ⊎ (HaveLine (IsNodeLine g t) nodes q ⊎ HaveLine (IsLoopLine g t) loops q)) ↔ IsLineOf job entries q
    lines_are t roots same_tables same_roots =
        let P : Directory → Type 0 = λ x. (HaveLine (IsTargetLine g places.Envelope) roots q ⊎ (HaveLine (IsNodeLine g x) nodes q ⊎ HaveLine (IsLoopLine g x) loops q)) ↔ IsLineOf job entries q in
        let Q : List ℕ → Type 0 = λ ns. (HaveLine (IsTargetLine g places.Envelope) ns q ⊎ (HaveLine (IsNodeLine g d) nodes q ⊎ HaveLine (IsLoopLine g d) loops q)) ↔ IsLineOf job entries q in
        subst P (sym same_tables) (subst Q (sym same_roots) entry_line_is)
