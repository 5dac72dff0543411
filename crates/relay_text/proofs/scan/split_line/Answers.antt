use Rattle.std.proofs.Common.{◌<◌, length, arith}
use Rattle.std.proofs.lemmas.Bool.Decides.{nat_tests}
use Rattle.relay_text.proofs.Scans.{raw_lines-cut_at, raw_lines-whole}
use Rattle.relay_text.proofs.scan.split_line.Goals as goal

pub returns-in-Some-clause-lines : goal.returns-in-Some-clause-lines
returns-in-Some-clause-lines c =
    raw_lines-cut_at c.args.bytes.now c.in-Some.end c.split_at.result.0.now c.split_at.result.1.now c.in-Some.ensures c.split_at.ensures.front c.split_at.ensures.back

pub returns-in-None-clause-lines : goal.returns-in-None-clause-lines
returns-in-None-clause-lines c =
    let some : 0 < length c.args.bytes.now = grind (arith, nat_tests) in
    raw_lines-whole c.args.bytes.now c.split_at-in-None.result.0.now c.split_at-in-None.result.1.now some c.in-None.ensures c.split_at-in-None.ensures.front c.split_at-in-None.ensures.back
