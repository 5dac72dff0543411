use Rattle.std.proofs.lemmas.Result.{on_ok_weaker}
use Rattle.relay_planning.proofs.PlanFacts.{own_lines}
use Rattle.relay_planning.proofs.transacted.transactions_in_turn.Goals as goal

pub returns-clause-lines : goal.returns-clause-lines
returns-clause-lines g c =
    on_ok_weaker c.plan_addresses.result
    (λ routed q.
    let reported = own_lines c.args.job.now q c.args.lines.now c.report_reached-reported.new.lines (c.in_ok-reported.ensures q) in
    (λ has. reported.0 ((routed q).0 has), λ either. (routed q).1 (reported.1 either)))
    c.plan_addresses.ensures.lines
