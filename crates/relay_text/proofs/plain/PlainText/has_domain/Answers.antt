use Rattle.std.proofs.Common.{sym, ap, ◌∙◌}
use Rattle.std.proofs.lemmas.Bool.{ltb-true, ltb-false}
use Rattle.relay_text.specs.Addresses.{name_of}
use Rattle.relay_text.proofs.PlainTexts.{plain_name-domain, plain_name-other}
use Rattle.relay_text.proofs.plain.PlainText.has_domain.Goals as goal

pub returns-clause-yes : goal.returns-clause-yes
returns-clause-yes c = λ more. ap name_of (sym c.self.view_is) ∙ plain_name-domain c.self.inside.local_len c.self.inside.text.now c.self.invariant.1 (ltb-true _ _ more)

pub returns-clause-no : goal.returns-clause-no
returns-clause-no c = λ all h. plain_name-other c.self.inside.local_len c.self.inside.text.now c.self.invariant.1 (ltb-false _ _ all) (ap name_of c.self.view_is ∙ h)
