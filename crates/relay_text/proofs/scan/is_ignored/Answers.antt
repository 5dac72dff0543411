use Rattle.std.proofs.Common.{sym, ◌∙◌, ap}
use Rattle.relay_text.proofs.Scans.{is_ignored_at, is_ignored-cut, is_ignored-first, is_ignored-none}
use Rattle.relay_text.proofs.scan.is_ignored.Goals as goal

pub returns-in-Some : goal.returns-in-Some
returns-in-Some c =
    is_ignored-first c.in-Some.byte.now c.trimmed_start.result.now c.in-Some.ensures.value
    ∙ ap is_ignored_at c.trimmed_start.ensures ∙ sym (is_ignored-cut c.args.text.now)

pub returns-in-None : goal.returns-in-None
returns-in-None c =
    is_ignored-none c.trimmed_start.result.now (sym c.in-None.ensures.value)
    ∙ ap is_ignored_at c.trimmed_start.ensures ∙ sym (is_ignored-cut c.args.text.now)
