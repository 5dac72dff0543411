use Rattle.std.proofs.Common.{arith}
use Rattle.relay_text.proofs.Scans.{without_cr-cut, without_cr-kept}
use Rattle.relay_text.proofs.scan.without_cr.Goals as goal
use Rattle.relay_text.proofs.scan.without_cr.Goals.{then-len-eq0-via-then-len-eq0, then-len-eq0-via-else-len-eq0+then-line-len-ne13}

pub returns-then-len-eq0 : goal.returns-then-len-eq0
returns-then-len-eq0 c = without_cr-kept c.args.line.now (λ some e. elim c.then-len-eq0.branch [
  | then-len-eq0-via-then-len-eq0 w ↦ omega (arith, some, w.if-len-eq0.true)
  | then-len-eq0-via-else-len-eq0+then-line-len-ne13 w ↦ w.if-line-len-ne13.true e
])

pub returns : goal.returns
returns c = without_cr-cut c.args.line.now (omega (arith, c.if-len-eq0.false)) c.if-line-len-ne13.false
