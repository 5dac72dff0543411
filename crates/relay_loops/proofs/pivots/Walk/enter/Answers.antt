use Rattle.std.proofs.Common.{refl}
use Rattle.relay_loops.specs.declared.pivots.Visit.{Visit}
use Rattle.relay_loops.proofs.Naming.{entered, entered_left, entered_work}
use Rattle.relay_loops.proofs.pivots.Walk.enter.Goals as goal

pub returns-clause-onward : goal.returns-clause-onward
returns-clause-onward c =
    let visit : Visit = record { node = c.args.node; looked = 0 } in
    rw c.in_ok-push.ensures.items (entered c.args.self.now.fresh.items c.args.self.now.path.items c.args.self.now.order.items c.args.node visit refl c.requires)

pub returns-clause-left : goal.returns-clause-left
returns-clause-left c =
    let visit : Visit = record { node = c.args.node; looked = 0 } in
    entered_left c.args.self.now.fresh.items c.args.self.now.path.items c.args.self.now.order.items c.args.node visit refl c.requires

pub returns-clause-work : goal.returns-clause-work
returns-clause-work c =
    let visit : Visit = record { node = c.args.node; looked = 0 } in
    rw c.in_ok-push.ensures.items (entered_work c.args.self.now.fresh.items c.args.self.now.path.items c.args.self.now.order.items c.args.node visit refl c.requires)
