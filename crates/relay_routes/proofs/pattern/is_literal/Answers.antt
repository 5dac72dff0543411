use Rattle.std.proofs.Common.{arith}
use Rattle.relay_text.proofs.Domains.{bytes_eq-inside, bytes_eq-not_inside}
use Rattle.relay_routes.proofs.pattern.is_literal.Goals as goal
use Rattle.relay_routes.proofs.pattern.is_literal.Goals.{then-len-lt2-via-then-len-lt2, then-len-lt2-via-else-len-lt2+then-domain-ne91, then-len-lt2-via-else-len-lt2+else-domain-ne91+then-domain-len-ne93}

pub returns-then-len-lt2 : goal.returns-then-len-lt2
returns-then-len-lt2 c =
    rw (bytes_eq-not_inside c.args.domain.now 91 93 (λ h. elim c.then-len-lt2.branch [
      | then-len-lt2-via-then-len-lt2 w ↦ omega (arith, h.0)
      | then-len-lt2-via-else-len-lt2+then-domain-ne91 w ↦ w.if-domain-ne91.true h.1
      | then-len-lt2-via-else-len-lt2+else-domain-ne91+then-domain-len-ne93 w ↦ w.if-domain-len-ne93.true h.2
    ]))

pub returns : goal.returns
returns c = rw (bytes_eq-inside c.args.domain.now 91 93 c.if-len-lt2.false c.if-domain-ne91.false c.if-domain-len-ne93.false) c.is_literal_content.ensures
