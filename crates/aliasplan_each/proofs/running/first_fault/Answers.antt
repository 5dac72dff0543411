use Rattle.std.proofs.Common.{sym, subst}
use Rattle.aliasplan_each.proofs.PartFacts.{first_stop, stop_of_tables, stop_of_fault}
use Rattle.aliasplan_each.proofs.running.first_fault.Goals as goal

pub returns-in-Ok : goal.returns-in-Ok
returns-in-Ok c = stop_of_tables c.args.front.now c.args.fault _ c.in-Ok.ensures

pub returns-in-Err : goal.returns-in-Err
returns-in-Err c =
    let front = c.args.front.now in
    let fault = c.args.fault in
    subst (first_stop front fault) (sym c.earlier_of.ensures) (stop_of_fault front fault _ c.in-Err.ensures)
