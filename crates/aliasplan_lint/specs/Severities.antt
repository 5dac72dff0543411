-- How bad something is, in words.
use Rattle.std.specs.Prelude.{ℕ, List, codes}
use Rattle.aliasplan_lint.specs.declared.severity.Severity.{Severity}
use Rattle.aliasplan_lint.specs.declared.severity.Severity.TheVariants.{Error, Warning, Note}

abbrev pub severity_word : Severity → List ℕ
severity_word Error = codes "error"
severity_word Warning = codes "warning"
severity_word Note = codes "note"
