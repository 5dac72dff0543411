use Rattle.std.proofs.Common.{◌≡◌, ℕ, List, ap, sym, ◌∙◌, subst, get_or, IsSome}
use Rattle.std.proofs.lemmas.Option.{get_or_from_slice_get, same_Some, slice_get_within}
use Rattle.relay_text.specs.AddressParts.{AddressParts}
use Rattle.relay_tables.specs.declared.node.Node.{Node}
use Rattle.relay_tables.specs.Directory.{Directory}
use Rattle.relay_tables.specs.Targets.{recipient_target}
use Rattle.relay_explain.specs.declared.step.Mention.TheVariants as mentions
use Rattle.relay_planning.specs.Delivery.{directory_of}
use Rattle.aliasplan_explain.specs.Targets.{target_at}
use Rattle.aliasplan_explain.proofs.TargetFacts.{node_has_target}
use Rattle.aliasplan_explain.proofs.WalkFacts.{root_node}
use Rattle.aliasplan_explain.proofs.walking.first_step.Goals as goal

pub node-node-requires : goal.node-node-requires
node-node-requires c =
    let g = c.args.grounds.now.basis.now.graph in
    let r = root_node c.args.grounds.now.job.now g c.requires.made.graph c.args.recipient c.args.root c.requires.root in
    slice_get_within g.nodes c.args.root (recipient_target (directory_of c.args.grounds.now.job.now) r.0) r.2

pub target_of-requires : goal.target_of-requires
target_of-requires c =
    let job = c.args.grounds.now.job.now in
    let g = c.args.grounds.now.basis.now.graph in
    subst (λ (d : Directory). IsSome (target_at d c.node-node.result.now)) (sym c.requires.made.tables)
    (node_has_target (directory_of job) job.sender job.recipients g c.requires.made.graph c.args.root c.node-node.result.now c.node-node.ensures)

pub returns-clause-mention : goal.returns-clause-mention
returns-clause-mention c = λ line address at_line at_address.
    let recipients = c.args.grounds.now.job.now.recipients in
    let r : ℕ = c.args.recipient in
    let read : AddressParts = c.index-as_slice-recipient.result in
    let at_read = ap (λ (xs : List AddressParts). get_or xs r read) c.as_slice.ensures in
    let same = c.in_ok-address.ensures.same ∙ c.index-as_slice-recipient.is ∙ at_read ∙ get_or_from_slice_get recipients r address read at_address in
    ap (λ (n : ℕ). mentions.Recipient n c.in_ok-address.address) (get_or_from_slice_get c.args.grounds.now.recipient_lines.now r line 0 at_line) ∙ ap (mentions.Recipient line) same

pub returns-clause-target : goal.returns-clause-target
returns-clause-target c = λ address at_address.
    let job = c.args.grounds.now.job.now in
    let d = directory_of job in
    let g = c.args.grounds.now.basis.now.graph in
    let r = root_node job g c.requires.made.graph c.args.recipient c.args.root c.requires.root in
    let node : Node = c.node-node.result.now in
    let same : r.0 ≡ address = same_Some r.0 address (sym r.1 ∙ at_address) in
    let here : recipient_target d address ≡ node = ap (λ (a : AddressParts). recipient_target d a) (sym same) ∙ same_Some (recipient_target d r.0) node (sym r.2 ∙ c.node-node.ensures) in
    ap (target_at d) here ∙ ap (λ (e : Directory). target_at e node) (sym c.requires.made.tables) ∙ c.in_ok-target_of.ensures
