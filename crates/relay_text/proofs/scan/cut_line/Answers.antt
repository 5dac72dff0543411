use Rattle.std.proofs.Common.{◌+◌, ◌<◌, length, arith}
use Rattle.std.proofs.lemmas.Bool.Decides.{nat_tests}
use Rattle.std.proofs.lemmas.List.{take_rest}
use Rattle.relay_text.proofs.Scans.{physical-cut_at, physical-whole}
use Rattle.relay_text.proofs.scan.cut_line.Goals as goal

pub returns-in-Some-clause-lines : goal.returns-in-Some-clause-lines
returns-in-Some-clause-lines c =
    physical-cut_at c.args.bytes.now c.in-Some.end c.without_cr.result.now _ c.in-Some.ensures c.without_cr.ensures (take_rest c.args.bytes.now (c.in-Some.end + 1))

pub returns-in-None-clause-lines : goal.returns-in-None-clause-lines
returns-in-None-clause-lines c =
    let some : 0 < length c.args.bytes.now = grind (arith, nat_tests) in
    physical-whole c.args.bytes.now c.without_cr-in-None.result.now _ some c.in-None.ensures c.without_cr-in-None.ensures (take_rest c.args.bytes.now (length c.args.bytes.now))
