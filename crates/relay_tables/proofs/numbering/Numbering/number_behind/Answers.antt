use Rattle.std.proofs.Common.{arith, ◌≡◌, ℕ, ◌+◌, ◌-◌, false, Some, List, [], ◌∷◌, ◌++◌, length, take, drop, slice_get, refl, ap, sym, ◌∙◌}
use Rattle.std.specs.List.{list_any}
use Rattle.std.proofs.lemmas.List.{length_push, length-drop, take_all}
use Rattle.relay_tables.specs.declared.node.Node.{Node}
use Rattle.relay_tables.specs.Graphs.{same_node}
use Rattle.relay_tables.specs.Numbering.{Numbered, node_of, behind_of, with_nodes}
use Rattle.relay_tables.proofs.Numbers.{entries_within, found, there_stays, new_grows, new_numbered, last_is}
use Rattle.relay_tables.proofs.numbering.Numbering.number_behind.Goals as goal
use Rattle.relay_tables.proofs.numbering.Numbering.number_behind.Goals.{In_default}

-- a slice up to the end of nodes is all that stands behind a place
all_behind : (place : ℕ) (nodes all : List Node) → nodes ≡ all → drop place all ≡ take (length nodes - place) (drop place nodes)
all_behind place nodes all is = ap (drop place) (sym is) ∙ sym (take_all (length nodes - place) (drop place nodes) (omega (arith, length-drop place nodes)))

-- a node that isn't found comes behind all others
grown : (c : In_default) → with_nodes c.self.inside.nodes.items (node_of c.args.lead ∷ []) ≡ c.self.inside.nodes.items ++ node_of c.args.lead ∷ []
grown c =
    let i = c.self.inside in
    let n = node_of c.args.lead in
    let none : list_any (same_node n) (behind_of i.entries.aliases i.entries.includes i.nodes.items) ≡ false =
    ap (list_any (same_node n)) (all_behind (i.entries.aliases + i.entries.includes) c.deref.result.now i.nodes.items c.deref.ensures.value) ∙ c.in_default.ensures.none refl in
    new_grows i.nodes.items i.entries.aliases i.entries.includes i.limit i.key i.hashes c.self.invariant n (rw (← c.self.view_is) at c.requires.behind) none

pub slice_bounds-behind-count : goal.slice_bounds-behind-count
slice_bounds-behind-count c =
    let i = c.self.inside in
    rw c.deref.ensures.value (entries_within i.nodes.items i.entries.aliases i.entries.includes i.limit i.key i.hashes c.self.invariant)

pub slice_bounds-behind-start : goal.slice_bounds-behind-start
slice_bounds-behind-start c =
    let i = c.self.inside in
    omega (arith, ap length c.deref.ensures.value, entries_within i.nodes.items i.entries.aliases i.entries.includes i.limit i.key i.hashes c.self.invariant)

pub returns-in-Some-clause-numbers : goal.returns-in-Some-clause-numbers
returns-in-Some-clause-numbers c =
    let i = c.self.inside in
    let n = node_of c.args.lead in
    let place = c.in-Some.place in
    let there : slice_get (behind_of i.entries.aliases i.entries.includes i.nodes.items) place ≡ Some n =
    ap (λ (ns : List Node). slice_get ns place) (all_behind (i.entries.aliases + i.entries.includes) c.deref.result.now i.nodes.items c.deref.ensures.value) ∙ c.in-Some.ensures.found in
    let at = found i.nodes.items i.entries.aliases i.entries.includes i.limit i.key i.hashes c.self.invariant n place there in
    let stays = there_stays i.nodes.items (i.entries.aliases + i.entries.includes + place) n at in
    let viewed : List Node → Numbered = λ ns. record { nodes = ns; aliases = i.entries.aliases; includes = i.entries.includes; limit = i.limit } in
    rw (← c.self.view_is) (ap viewed (sym stays))

pub returns-then-number-self-clause-numbers : goal.returns-then-number-self-clause-numbers
returns-then-number-self-clause-numbers c =
    let i = c.self.inside in
    let n = node_of c.args.lead in
    let long : length (with_nodes i.nodes.items (n ∷ [])) ≡ length (i.nodes.items ++ n ∷ []) = ap length (grown (goal.at.returns-then-number-self-clause-numbers c).In_default) in
    rw (← c.self.view_is) (omega (arith, length_push i.nodes.items n, i.nodes.ok.0))

pub invariant_of-self-2 : goal.invariant_of-self-2
invariant_of-self-2 c =
    let i = c.self.inside in
    let more : length i.nodes.items ≡ i.limit → ⊥ = λ full. c.if-number-self.false (omega (arith, i.nodes.ok.0)) in
    rw (c.in_ok-push_node.ensures.nodes, c.in_ok-push_node.ensures.hashes, c.lead_hash-hash.ensures)
    (new_numbered i.nodes.items i.entries.aliases i.entries.includes i.limit i.key i.hashes c.self.invariant (node_of c.args.lead) more)

pub returns-clause-number : goal.returns-clause-number
returns-clause-number c =
    let i = c.self.inside in
    rw c.in_ok-push_node.ensures.nodes
    (last_is i.nodes.items (node_of c.args.lead) c.len-number.result (omega (arith, i.nodes.ok.0)))

pub returns-clause-numbers : goal.returns-clause-numbers
returns-clause-numbers c =
    let i = c.self.inside in
    let viewed : List Node → Numbered = λ ns. record { nodes = ns; aliases = i.entries.aliases; includes = i.entries.includes; limit = i.limit } in
    rw (← c.self.view_is, c.in_ok-push_node.ensures.nodes) (ap viewed (sym (grown (goal.at.returns-clause-numbers c).In_default)))
