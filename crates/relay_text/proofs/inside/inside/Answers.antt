use Rattle.std.proofs.Common.{arith}
use Rattle.relay_text.proofs.Domains.{bytes_eq-inside, bytes_eq-not_inside}
use Rattle.relay_text.proofs.inside.inside.Goals as goal
use Rattle.relay_text.proofs.inside.inside.Goals.{then-len-lt2-via-then-len-lt2, then-len-lt2-via-else-len-lt2+then-text-first, then-len-lt2-via-else-len-lt2+else-text-first+then-text-len}

pub returns-then-len-lt2 : goal.returns-then-len-lt2
returns-then-len-lt2 c =
    rw (bytes_eq-not_inside c.args.text.now c.args.first c.args.last (λ h. elim c.then-len-lt2.branch [
      | then-len-lt2-via-then-len-lt2 w ↦ omega (arith, h.0)
      | then-len-lt2-via-else-len-lt2+then-text-first w ↦ w.if-text-first.true h.1
      | then-len-lt2-via-else-len-lt2+else-text-first+then-text-len w ↦ w.if-text-len.true h.2
    ]))

pub returns : goal.returns
returns c = rw (bytes_eq-inside c.args.text.now c.args.first c.args.last c.if-len-lt2.false c.if-text-first.false c.if-text-len.false)
