use Rattle.std.proofs.Common.{ℕ, List, map, ap, sym, subst, ◌∙◌}
use Rattle.std.proofs.lemmas.List.Filters.{dedup_is}
use Rattle.std.proofs.lemmas.Result.{IfOk-weaker}
use Rattle.relay_text.specs.Bytes.{has_text}
use Rattle.relay_text.specs.TextSets.{IsAscendingBy, text_cmp}
use Rattle.relay_wire.specs.Findings.{finding_text_of}
use Rattle.relay_wire.proofs.FoundOrders.{same_lines, ascending, findings_have}
use Rattle.relay_wire.proofs.Results.{if_ok_both}
use Rattle.relay_wire.proofs.found.Found.of.Goals as goal

pub returns-clause-all : goal.returns-clause-all
returns-clause-all c =
    let given = c.in_ok-found.found.items in
    let sorted = c.sort_unstable.new.self.items in
    let kept = c.dedup.new.self.items in
    IfOk-weaker c.lines_and_findings.result _ _
    (λ parts lines q.
    ap (λ (ls : List (List ℕ)). has_text ls q) lines
    ∙ same_lines given sorted kept c.sort_unstable.ensures.permutation (dedup_is _ _ _ c.dedup.ensures.filtered) q
    ∙ ap (λ (ls : List (List ℕ)). has_text ls q) c.in_ok-found.ensures.lines)
    c.lines_and_findings.ensures.lines

pub returns-clause-ascending : goal.returns-clause-ascending
returns-clause-ascending c =
    let given = c.in_ok-found.found.items in
    let sorted = c.sort_unstable.new.self.items in
    let kept = c.dedup.new.self.items in
    IfOk-weaker c.lines_and_findings.result _ _
    (λ parts lines.
    subst (λ (ls : List (List ℕ)). IsAscendingBy text_cmp ls) (sym lines)
    (ascending given sorted kept c.sort_unstable.ensures.permutation (dedup_is _ _ _ c.dedup.ensures.filtered) c.sort_unstable.ensures.sorted))
    c.lines_and_findings.ensures.lines

pub returns-clause-findings : goal.returns-clause-findings
returns-clause-findings c =
    let given = c.in_ok-found.found.items in
    let sorted = c.sort_unstable.new.self.items in
    let kept = c.dedup.new.self.items in
    if_ok_both c.lines_and_findings.result c.lines_and_findings.ensures.lines c.lines_and_findings.ensures.findings
    (λ parts lines findings.
    ap (map finding_text_of) findings
    ∙ findings_have given sorted kept c.sort_unstable.ensures.permutation (dedup_is _ _ _ c.dedup.ensures.filtered) c.in_ok-found.ensures.own
    ∙ sym lines)
