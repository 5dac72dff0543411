use Rattle.std.proofs.Common.{◌∙◌, sym, refl}
use Rattle.relay_text.proofs.Faults.{domain_of_rest}
use Rattle.relay_text.proofs.parse.domain_in.Goals as goal

pub returns-in-len1-up-clause-ok : goal.returns-in-len1-up-clause-ok
returns-in-len1-up-clause-ok c = domain_of_rest c.args.rest.now c.args.origin.now _ c.in-len1-up.len_at_least (sym c.is_domain.ensures ∙ c.if-is_domain.true)

pub returns-in_default-clause-err : goal.returns-in_default-clause-err
returns-in_default-clause-err c = ((domain_of_rest c.args.rest.now c.args.origin.now _ c.in-len1-up.len_at_least (sym c.is_domain.ensures ∙ c.if-is_domain.false)).0, refl)
