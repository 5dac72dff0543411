use Rattle.std.proofs.Common.{refl, ◌∙◌}
use Rattle.std.proofs.lemmas.Result.{err_from_is_err_and}
use Rattle.relay_job.proofs.TablesFacts.{parts-tables_settings, parts-tables}
use Rattle.relay_job.proofs.parsing.tables_of_parts.Goals as goal

pub returns-in_err-settings : goal.returns-in_err-settings
returns-in_err-settings c = λ text found.
    let p = err_from_is_err_and c.from_residual.result c.from_residual.ensures.1 in
    rw (p.1, p.2) (parts-tables_settings text c.args.parts.now found _ c.in_err-settings.ensures.err)

pub returns : goal.returns
returns c = λ text found.
    parts-tables text c.args.parts.now found c.in_ok-settings.settings c.in_ok-tables.tables _ c.of-2.result c.in_ok-settings.ensures.ok c.in_ok-tables.ensures c.of-2.ensures refl (c.of.ensures ∙ c.new.ensures.items)
