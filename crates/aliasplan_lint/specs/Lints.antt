-- What is told of findings.
use Rattle.std.specs.Prelude.{◌≡◌, ℕ, ◌<◌, Bool, true, false, ◌==◌, not, ◌&&◌, ◌||◌, List, [], ◌∷◌, ◌++◌, length, map, filter, take, drop, slice_get, slice_index_or, Option, Some, None, All, Contains, IfSome, codes, if◌then◌else◌}
use Rattle.std.specs.Str.{bytes_eq}
use Rattle.aliasplan_lint.specs.declared.kind.Kind.{Kind}
use Rattle.aliasplan_lint.specs.declared.severity.Severity.{Severity}
use Rattle.aliasplan_lint.specs.declared.severity.Severity.TheVariants.{Error, Warning, Note}
use Rattle.aliasplan_lint.specs.declared.options.LintCounts.{LintCounts}
use Rattle.aliasplan_lint.specs.declared.lint.Lint.{Lint}
use Rattle.aliasplan_lint.specs.Kinds.{severity_where, kind_in}
use Rattle.aliasplan_lint.specs.Severities.{severity_word}

abbrev pub severity_in : Lint → Severity
severity_in lint = severity_where lint.kind lint.is_noted

abbrev pub has_severity : Severity → Lint → Bool
has_severity severity lint = bytes_eq (severity_word (severity_in lint)) (severity_word severity)

abbrev pub finding_in : Lint → Option ℕ
finding_in lint = lint.finding

-- It tells one of these findings, as what that finding is.
abbrev pub IsOfFinding : List (List ℕ) → Lint → Type 0
IsOfFinding findings lint = (k : ℕ) × (k < length findings) × (lint.finding ≡ Some k) × (lint.kind ≡ kind_in (slice_index_or findings k []))

-- Each finding is told, and nothing but findings, each as what it is.
pub record AreWhole (findings : List (List ℕ)) (lints : List Lint) : Type 0 where
  pub all : (k : ℕ) → k < length findings → Contains (map finding_in lints) (Some k)
  pub alone : All (IsOfFinding findings) lints

pub record AreCounts (counts : LintCounts) (lints : List Lint) : Type 0 where
  pub errors : counts.errors ≡ length (filter (has_severity Error) lints)
  pub warnings : counts.warnings ≡ length (filter (has_severity Warning) lints)
  pub notes : counts.notes ≡ length (filter (has_severity Note) lints)
