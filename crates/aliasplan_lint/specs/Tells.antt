-- What is told of findings and notes.
use Rattle.std.specs.Prelude.{◌≡◌, ℕ, Bool, List, [], ◌∷◌, ◌++◌, length, filter, All, Option, None}
use Rattle.relay_gather.specs.declared.origins.Origins.{Origins}
use Rattle.aliasplan_lint.specs.declared.kind.Kind.TheVariants.{Setting}
use Rattle.aliasplan_lint.specs.declared.lint.Lint.{Lint}
use Rattle.aliasplan_lint.specs.declared.options.LintOptions.{LintOptions}
use Rattle.aliasplan_lint.specs.declared.linting.LintText.{LintText}
use Rattle.aliasplan_lint.specs.Kinds.{is_kept}
use Rattle.aliasplan_lint.specs.Lints.{AreCounts, AreWhole}
use Rattle.aliasplan_lint.specs.Texts.{IsLintText}

-- a note is of no finding
abbrev pub IsNote : Lint → Type 0
IsNote lint = (lint.kind ≡ Setting) × (lint.finding ≡ None)

-- a lint for each note
pub record AreNotes (notes : List (List ℕ)) (lints : List Lint) : Type 0 where
  pub each : length lints ≡ length notes
  pub alone : All IsNote lints

abbrev pub keeps_lint : LintOptions → Lint → Bool
keeps_lint options lint = is_kept options.routes options.allowed lint.kind

-- Each finding is told, and each note; of these the kinds that are asked for are written and counted.
pub record Tells (options : LintOptions) (origins : Option Origins) (findings notes : List (List ℕ)) (told : LintText) : Type 0 where
  pub whole : List Lint
  pub is_whole : AreWhole findings whole
  pub noted : List Lint
  pub are_notes : AreNotes notes noted
  pub text : IsLintText origins (filter (keeps_lint options) (whole ++ noted)) told.text
  pub counted : AreCounts told.counts (filter (keeps_lint options) (whole ++ noted))
