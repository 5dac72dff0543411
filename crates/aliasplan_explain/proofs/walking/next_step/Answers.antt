use Rattle.std.proofs.Common.{◌≡◌, ap, refl, sym, ◌∙◌, subst, slice_get, Some, IsSome, is_some}
use Rattle.std.proofs.lemmas.Bool.{false≢true}
use Rattle.std.proofs.lemmas.Option.{same_Some, slice_get_within}
use Rattle.relay_tables.specs.declared.node.Node.{Node}
use Rattle.relay_tables.specs.Directory.{Directory}
use Rattle.relay_planning.specs.Delivery.{directory_of}
use Rattle.aliasplan_explain.specs.Rows.{listed_by}
use Rattle.aliasplan_explain.specs.Targets.{target_at}
use Rattle.aliasplan_explain.proofs.TargetFacts.{node_has_target}
use Rattle.aliasplan_explain.proofs.RowFacts.{target_is_listed}
use Rattle.aliasplan_explain.proofs.WalkFacts.{child_node}
use Rattle.aliasplan_explain.proofs.walking.next_step.Goals as goal

pub unreachable-requires : goal.unreachable-requires
unreachable-requires c =
    let job = c.args.grounds.now.job.now in
    let g = c.args.grounds.now.basis.now.graph in
    let node : Node = c.node.result.now in
    let child = child_node job g c.requires.made.graph c.args.from node c.node.ensures c.args.item c.args.to c.requires.to in
    let listed =
    target_is_listed (λ line list. c.places_of_items.ensures.of_list line list) (λ text. c.places_of_items.ensures.of_include text) (λ text e has. c.entries_on_lines.ensures.there text e has) (λ text. c.entries_on_lines.ensures.ascending text) job node c.args.item child.0 child.1 in
    false≢true (ap is_some (sym c.in_default.is ∙ c.in_ok-listed.ensures) ∙ listed)

pub node-requires-2 : goal.node-requires-2
node-requires-2 c =
    let g = c.args.grounds.now.basis.now.graph in
    let child = child_node c.args.grounds.now.job.now g c.requires.made.graph c.args.from c.node.result.now c.node.ensures c.args.item c.args.to c.requires.to in
    slice_get_within g.nodes c.args.to child.0 child.2

pub target_of-requires : goal.target_of-requires
target_of-requires c =
    let job = c.args.grounds.now.job.now in
    let g = c.args.grounds.now.basis.now.graph in
    subst (λ (d : Directory). IsSome (target_at d c.node-2.result.now)) (sym c.requires.made.tables)
    (node_has_target (directory_of job) job.sender job.recipients g c.requires.made.graph c.args.to c.node-2.result.now c.node-2.ensures)

pub returns : goal.returns
returns c = λ a b at_a at_b.
    let job = c.args.grounds.now.job.now in
    let d = directory_of job in
    let g = c.args.grounds.now.basis.now.graph in
    let child = child_node job g c.requires.made.graph c.args.from a at_a c.args.item c.args.to c.requires.to in
    let first : Node = c.node.result.now in
    let second : Node = c.node-2.result.now in
    let a_is : a ≡ first = same_Some a first (sym at_a ∙ c.node.ensures) in
    let b_is : b ≡ second = same_Some b second (sym at_b ∙ c.node-2.ensures) in
    let to_is : child.0 ≡ b = same_Some child.0 b (sym child.2 ∙ at_b) in
    record {
      leads = child.1 ∙ ap (λ (n : Node). Some n) to_is;
      listed = c.in-Some.listed;
      stands = ap (λ (n : Node). slice_get (listed_by job n) c.args.item) a_is ∙ sym c.in_ok-listed.ensures ∙ c.in-Some.is;
      mention = refl;
      target = ap (target_at d) b_is ∙ ap (λ (e : Directory). target_at e second) (sym c.requires.made.tables) ∙ c.in_ok-target_of.ensures;
    }
