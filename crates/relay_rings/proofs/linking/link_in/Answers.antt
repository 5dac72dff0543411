use Rattle.std.proofs.Common.{arith}
use Rattle.relay_rings.proofs.Steps.{linked_by_push}
use Rattle.relay_rings.proofs.linking.link_in.Goals as goal

pub returns-clause-ok : goal.returns-clause-ok
returns-clause-ok c =
    linked_by_push c.args.nodes.now.items c.push-2.new.self.items c.args.ring c.args.item c.args.number c.index.result.now c.index_mut.result.now
    c.requires.number
    c.if-ring-eq0.false
    (c.requires.newest (omega (arith, c.if-ring-eq0.false)))
    c.index.ensures
    c.in_ok-push-2.ensures.items
    c.index_mut.ensures.value
