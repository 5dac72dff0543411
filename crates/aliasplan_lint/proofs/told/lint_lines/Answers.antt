use Rattle.std.proofs.Common.{◌≡◌, [], ◌∷◌, ◌++◌, map, take, ap, ◌∙◌, arith}
use Rattle.std.specs.Prelude.{option_map}
use Rattle.std.proofs.lemmas.List.{map-append}
use Rattle.aliasplan_lint.specs.declared.told.LintLine.{LintLine}
use Rattle.aliasplan_lint.specs.Texts.{lint_line}
use Rattle.aliasplan_lint.proofs.ListFacts.{mapped_more}
use Rattle.aliasplan_lint.proofs.told.lint_lines.Goals as goal

pub loop-lint-preserved : goal.loop-lint-preserved
loop-lint-preserved c =
    let text_of = λ (line : LintLine). line.text.items in
    let lines = c.loop-lint.lines.items in
    let line = c.in_ok-line_of.field-0 in
    let f = lint_line (option_map (λ o. o.now) c.args.origins) in
    ap (map text_of) c.in_ok-push.ensures.items ∙ map-append text_of lines (line ∷ [])
    ∙ ap (λ ts. ts ++ text_of line ∷ []) c.loop-lint.invariant ∙ ap (λ t. map f (take c.loop-lint.lint-index c.args.lints.now) ++ t ∷ []) c.in_ok-line_of.ensures
    ∙ mapped_more f c.args.lints.now c.loop-lint.lint-index c.lint-item.result (omega arith) c.lint-item.is
