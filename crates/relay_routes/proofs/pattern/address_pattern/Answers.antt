use Rattle.std.proofs.Common.{◌∙◌, Some, ap, sym, codes}
use Rattle.relay_routes.specs.Transports.{address_key}
use Rattle.relay_routes.proofs.PatternFacts.{domain_named, domain_not_named, pattern_at}
use Rattle.relay_routes.proofs.pattern.address_pattern.Goals as goal

pub returns-then-not-branch : goal.returns-then-not-branch
returns-then-not-branch c = sym (domain_not_named c.args.text.now (sym c.in_ok-names_domain.ensures ∙ c.if-not-branch.true))

pub returns-in_ok-address_key-in-Ok : goal.returns-in_ok-address_key-in-Ok
returns-in_ok-address_key-in-Ok c =
    ap (λ key. Some key) (c.in_ok-address_key-in-Ok.ensures ∙ ap (λ local. address_key local c.domain.result.now) c.local.ensures.value ∙ ap (address_key _) c.domain.ensures)
    ∙ sym (domain_named (codes "localhost") c.args.text.now (sym c.in_ok-names_domain.ensures ∙ c.if-not-branch.false) ∙ ap pattern_at c.in-Ok.ensures.spelled)
