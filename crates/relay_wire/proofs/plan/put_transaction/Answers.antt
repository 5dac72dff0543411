use Rattle.std.proofs.Common.{◌++◌, map}
use Rattle.std.proofs.lemmas.Result.{IfOk-equal}
use Rattle.relay_wire.specs.PlanText.{lines_of, transaction_line, from_line, host_lines, to_line}
use Rattle.relay_wire.proofs.Pieces.{transaction_is}
use Rattle.relay_wire.proofs.plan.put_transaction.Goals as goal

pub returns : goal.returns
returns c =
    IfOk-equal c.put_recipients.result c.put_recipients.new.out.items (c.put_route.new.out.items ++ lines_of (map to_line c.as_slice.result.now)) _ c.put_recipients.ensures
    (rw (c.as_slice.ensures, c.in_ok-put_route.ensures, c.in_ok-put_sender.ensures, c.as_ref.ensures.value)
    (transaction_is c.args.out.now.items (transaction_line c.args.number) (from_line c.args.planned.now.from) (host_lines c.args.planned.now) (map to_line c.args.planned.now.to)))
