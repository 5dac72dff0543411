use Rattle.std.proofs.Common.{[], subst}
use Rattle.relay_routes.specs.TableSteps.{AreNew}
use Rattle.relay_routes.proofs.TableFacts.{distinct_table}
use Rattle.relay_routes.proofs.transport_table.TransportTable.of_distinct.Goals as goal

pub returns : goal.returns
returns c =
    distinct_table c.args.bytes.now c.args.lines c.requires (subst (AreNew []) c.deref-2.ensures.value (c.has_repeat.ensures c.if-has_repeat.false))
