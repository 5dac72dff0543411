use Rattle.std.proofs.Common.{◌≡◌, ℕ, List, map, ap, subst, ◌∙◌}
use Rattle.std.specs.List.{concat}
use Rattle.std.specs.List.Sorted.{IsPermutation}
use Rattle.std.proofs.lemmas.List.Sorted.{IsPermutation-map}
use Rattle.aliasplan_lint.specs.declared.told.LintLine.{LintLine}
use Rattle.aliasplan_lint.proofs.told.lint_text.Goals as goal

pub returns : goal.returns
returns c =
    let text_of = λ (line : LintLine). line.text.items in
    let lines = c.in_ok-lines.lines.items in
    let sorted = c.sort_unstable.new.self.items in record {
      lines = map text_of sorted;
      order = subst (λ (ts : List (List ℕ)). IsPermutation ts (map text_of sorted)) c.in_ok-lines.ensures (IsPermutation-map text_of lines sorted c.sort_unstable.ensures.permutation);
      is = c.of.ensures ∙ c.in_ok-joined.ensures ∙ ap (λ ls. concat (map text_of ls)) c.as_slice.ensures.value;
    }
