use Rattle.std.proofs.Common.{arith}
use Rattle.relay_text.proofs.Writing.{quoted_count, some_is, none_is}
use Rattle.relay_text.proofs.local.quoted_len.Goals as goal

pub returns-clause-some : goal.returns-clause-some
returns-clause-some c = some_is c.checked_add-2.result _ _ _ c.checked_add-2.ensures
    (omega (arith, quoted_count c.args.local.now, c.escape_count.ensures, c.in_ok-checked_add.ensures.1))

pub returns-clause-none : goal.returns-clause-none
returns-clause-none c = none_is c.checked_add-2.result _ _ _ c.checked_add-2.ensures
    (λ more. omega (arith, quoted_count c.args.local.now, c.escape_count.ensures, c.in_ok-checked_add.ensures.1))
