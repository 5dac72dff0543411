use Rattle.std.proofs.Common.{◌∙◌}
use Rattle.relay_wire.proofs.Results.{if_ok_both}
use Rattle.aliasplan_explain.proofs.AnswerFacts.{told_are, apart_told}
use Rattle.aliasplan_explain.proofs.telling.told_for.Goals as goal

pub in_order-requires : goal.in_order-requires
in_order-requires c =
    let chains = c.requires.chains in
    apart_told c.args.grounds.now.job.now c.args.grounds.now.basis.now.graph c.args.node.now chains.found chains.best c.in_ok-told.told.items (c.in_ok-told.ensures.senders ∙ chains.senders)

pub returns : goal.returns
returns c =
    let grounds = c.args.grounds.now in
    let chains = c.requires.chains in
    if_ok_both c.in_order.result c.in_order.ensures.members c.in_order.ensures.ascending
    (λ sorted members up.
    told_are grounds.job.now grounds.basis.now.graph c.args.node.now chains.found chains.best c.in_ok-told.told.items (c.in_ok-told.ensures.senders ∙ chains.senders) c.args.plan.now grounds.recipient_lines.now c.in_ok-told.ensures.each sorted members up)
