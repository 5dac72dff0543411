use Rattle.std.proofs.Common.{◌≡◌, ◌+◌, ℕ, List, ap, sym, ◌∙◌, subst, get_or, slice_get, length, Some, arith}
use Rattle.std.proofs.lemmas.Option.{same_Some}
use Rattle.relay_tables.specs.declared.node.Node.{Node}
use Rattle.relay_tables.specs.Directory.{Directory}
use Rattle.relay_explain.specs.declared.step.Step.{Step}
use Rattle.relay_explain.specs.declared.entry.Entry.TheVariants as entries
use Rattle.relay_explain.specs.ExplanationText.{alias_step}
use Rattle.aliasplan_explain.specs.Targets.{target_at}
use Rattle.aliasplan_explain.specs.ChainSteps.{IsStepTo}
use Rattle.aliasplan_explain.specs.Stretches.{IsStepAt}
use Rattle.aliasplan_explain.proofs.RowFacts.{listed_got, target_is_listed}
use Rattle.aliasplan_explain.proofs.StepFacts.{alias_step_to, inside_at, leads_at, on_ok, place_there}
use Rattle.aliasplan_explain.proofs.WalkFacts.{child_node, one_more}
use Rattle.aliasplan_explain.proofs.step_line.put_step.Goals as goal

pub bounds-nodes-number : goal.bounds-nodes-number
bounds-nodes-number c =
    let long = one_more c.args.grounds.now.job.now c.args.grounds.now.basis.now.graph c.requires.made.graph c.args.found.now c.requires.nodes in
    omega (arith, long, ap length c.as_slice-nodes.ensures.value, c.requires.within)

pub bounds-nodes-number-2 : goal.bounds-nodes-number-2
bounds-nodes-number-2 c =
    let long = one_more c.args.grounds.now.job.now c.args.grounds.now.basis.now.graph c.requires.made.graph c.args.found.now c.requires.nodes in
    omega (arith, long, ap length c.as_slice-nodes.ensures.value, c.requires.within)

pub node-node-requires : goal.node-node-requires
node-node-requires c =
    let g = c.args.grounds.now.basis.now.graph in
    let long = one_more c.args.grounds.now.job.now g c.requires.made.graph c.args.found.now c.requires.nodes in
    inside_at c.args.grounds.now.job.now g c.requires.made.graph c.args.found.now c.requires.nodes c.as_slice-nodes.result.now c.as_slice-nodes.ensures.value c.args.number (omega (arith, long, ap length c.as_slice-nodes.ensures.value, c.requires.within))

pub node-requires : goal.node-requires
node-requires c =
    let g = c.args.grounds.now.basis.now.graph in
    let long = one_more c.args.grounds.now.job.now g c.requires.made.graph c.args.found.now c.requires.nodes in
    inside_at c.args.grounds.now.job.now g c.requires.made.graph c.args.found.now c.requires.nodes c.as_slice-nodes.result.now c.as_slice-nodes.ensures.value (c.args.number + 1) (omega (arith, long, ap length c.as_slice-nodes.ensures.value, c.requires.within))

pub next_step-requires-clause-from : goal.next_step-requires-clause-from
next_step-requires-clause-from c =
    let g = c.args.grounds.now.basis.now.graph in
    let long = one_more c.args.grounds.now.job.now g c.requires.made.graph c.args.found.now c.requires.nodes in
    inside_at c.args.grounds.now.job.now g c.requires.made.graph c.args.found.now c.requires.nodes c.as_slice-nodes.result.now c.as_slice-nodes.ensures.value c.args.number (omega (arith, long, ap length c.as_slice-nodes.ensures.value, c.requires.within))

pub next_step-requires-clause-to : goal.next_step-requires-clause-to
next_step-requires-clause-to c =
    leads_at c.args.grounds.now.job.now c.args.grounds.now.basis.now.graph c.requires.made.graph c.args.found.now c.requires.nodes c.as_slice-nodes.result.now c.as_slice-nodes.ensures.value c.as_slice-items.result.now c.as_slice-items.ensures.value c.args.number c.requires.within

pub unreachable-requires : goal.unreachable-requires
unreachable-requires c =
    let job = c.args.grounds.now.job.now in
    let g = c.args.grounds.now.basis.now.graph in
    let k = c.args.number in
    let nodes = c.as_slice-nodes.result.now in
    let items = c.as_slice-items.result.now in
    let item = get_or items k 0 in
    let from : Node = c.node-node.result.now in
    let name = c.in-Some-Some.name.now in
    let leads = leads_at job g c.requires.made.graph c.args.found.now c.requires.nodes nodes c.as_slice-nodes.ensures.value items c.as_slice-items.ensures.value k c.requires.within in
    let child = child_node job g c.requires.made.graph (get_or nodes k 0) from c.node-node.ensures item (get_or nodes (k + 1) 0) leads in
    let listed =
    target_is_listed (λ line list. c.places_of_items.ensures.of_list line list) (λ text. c.places_of_items.ensures.of_include text) (λ text e has. c.entries_on_lines.ensures.there text e has) (λ text. c.entries_on_lines.ensures.ascending text) job from item child.0 child.1 in
    let got = listed_got job from (entries.Alias name) c.args.grounds.now.basis.now.lookup.tables c.requires.made.tables (sym c.in-Some-Some.ensures.0)
    c.in_ok-row-in-Some-Some.row.items c.in_ok-row-in-Some-Some.ensures c.deref.result.now c.deref.ensures.value item c.get.result c.get.ensures.lookup in
    place_there job from item child.0 name c.get.result child.1 got listed c.in-None.is

pub returns-in-Some : goal.returns-in-Some
returns-in-Some c =
    let job = c.args.grounds.now.job.now in
    let g = c.args.grounds.now.basis.now.graph in
    let found = c.args.found.now in
    let k = c.args.number in
    let nodes = c.as_slice-nodes.result.now in
    let nodes_are = c.as_slice-nodes.ensures.value in
    let items = c.as_slice-items.result.now in
    let items_are = c.as_slice-items.ensures.value in
    let item = get_or items k 0 in
    let from : Node = c.node-node.result.now in
    let to : Node = c.node.result.now in
    let name = c.in-Some-Some.name.now in
    let target = c.in-Some-Some.target.now in
    let place = c.in-Some.place in
    let step : Step = alias_step name place.now.line place.now.item place.now.text.now target in
    let got = listed_got job from (entries.Alias name) c.args.grounds.now.basis.now.lookup.tables c.requires.made.tables (sym c.in-Some-Some.ensures.0)
    c.in_ok-row-in-Some-Some.row.items c.in_ok-row-in-Some-Some.ensures c.deref.result.now c.deref.ensures.value item c.get.result c.get.ensures.lookup in
    let leads = leads_at job g c.requires.made.graph found c.requires.nodes nodes nodes_are items items_are k c.requires.within in
    let child = child_node job g c.requires.made.graph (get_or nodes k 0) from c.node-node.ensures item (get_or nodes (k + 1) 0) leads in
    let to_is = child.1 ∙ ap (λ (n : Node). Some n) (same_Some child.0 to (sym child.2 ∙ c.node.ensures)) in
    let names_it = ap (λ (e : Directory). target_at e to) (sym c.requires.made.tables) ∙ c.in-Some-Some.ensures'.1 in
    let goes : IsStepTo job from item to step = alias_step_to job from item to name c.get.result to_is got target names_it place c.in-Some.is in
    let at : IsStepAt job g found k step =
    λ (a b : Node) at_a at_b.
    let a_is : from ≡ a = same_Some from a (sym c.node-node.ensures ∙ ap (λ (ns : List ℕ). slice_get g.nodes (get_or ns k 0)) nodes_are ∙ at_a) in
    let b_is : to ≡ b = same_Some to b (sym c.node.ensures ∙ ap (λ (ns : List ℕ). slice_get g.nodes (get_or ns (k + 1) 0)) nodes_are ∙ at_b) in
    subst (λ (is : List ℕ). IsStepTo job a (get_or is k 0) b step) items_are (subst (λ (n : Node). IsStepTo job a item n step) b_is (subst (λ (n : Node). IsStepTo job n item to step) a_is goes)) in
    on_ok c.put_alias_step.result (λ written. (step, at, written)) c.put_alias_step.ensures

pub returns-in_ok-step-in_default : goal.returns-in_ok-step-in_default
returns-in_ok-step-in_default c =
    let job = c.args.grounds.now.job.now in
    let g = c.args.grounds.now.basis.now.graph in
    let found = c.args.found.now in
    let k = c.args.number in
    let nodes_are = c.as_slice-nodes.ensures.value in
    let items_are = c.as_slice-items.ensures.value in
    let step : Step = c.in_ok-step-in_default.step in
    let at : IsStepAt job g found k step =
    λ (a b : Node) at_a at_b.
    subst (λ (is : List ℕ). IsStepTo job a (get_or is k 0) b step) items_are
    (c.in_ok-step-in_default.ensures a b (subst (λ (ns : List ℕ). slice_get g.nodes (get_or ns k 0) ≡ Some a) (sym nodes_are) at_a) (subst (λ (ns : List ℕ). slice_get g.nodes (get_or ns (k + 1) 0) ≡ Some b) (sym nodes_are) at_b)) in
    on_ok c.put_line-put.result (λ written. (step, at, written)) c.put_line-put.ensures
