use Rattle.std.proofs.Common.{◌≡◌, ◌⊎◌, List, ℕ, get_or, take, arith, sym, subst, inl, inr, ◌∙◌}
use Rattle.std.specs.Prelude.{◌↔◌, Contains, IsTrue}
use Rattle.std.proofs.lemmas.List.{take_all}
use Rattle.std.proofs.lemmas.List.Elements.{Contains-get_or}
use Rattle.relay_text.specs.Bytes.{has_text}
use Rattle.relay_planning.proofs.OutgoingFacts.{Some_has, some_more}
use Rattle.aliasplan.proofs.ReturnSteps.{IsLineOfText, line_added, lines_for, either_same}
use Rattle.aliasplan.proofs.return_lines.add_lines.Goals as goal

pub loop-finding-init : goal.loop-finding-init
loop-finding-init c = λ q. (λ old. inl old, λ either. elim either [ inl old ↦ old | inr none ↦ absurd (omega (arith, none.1.1)) ])

pub loop-finding-preserved : goal.loop-finding-preserved
loop-finding-preserved c =
    let findings = c.args.findings.now in
    let recipient = c.args.recipient.now in
    let i = c.loop-finding.finding-index in
    let text = c.finding-item.result in
    let line = c.in_ok-return_line.field-0.items in
    let inside = c.loop-finding-test.true in
    let here : get_or findings i text ≡ text = sym c.finding-item.is in
    let some = c.requires text (subst (Contains findings) here (Contains-get_or findings i text inside)) in
    λ q.
    some_more (IsLineOfText recipient q) findings i text (IsTrue (has_text c.args.lines.now q)) (IsTrue (has_text c.loop-finding.lines q)) (IsTrue (has_text c.insert.new.self q)) inside here (c.loop-finding.invariant q)
    (line_added recipient text line q (has_text c.loop-finding.lines q) (has_text c.insert.new.self q) some (λ f e. c.in_ok-return_line.ensures f (c.as_bytes.ensures ∙ e)) (c.in_ok-insert.ensures.ok q))

pub returns : goal.returns
returns c =
    let findings = c.args.findings.now in
    let whole : take c.loop-finding.finding-index findings ≡ findings = take_all c.loop-finding.finding-index findings c.loop-finding-test.false in
    λ q.
    either_same _ _ _ _
    (subst (λ (ts : List (List ℕ)). IsTrue (has_text c.loop-finding.lines q) ↔ (IsTrue (has_text c.args.lines.now q) ⊎ Some_has (IsLineOfText c.args.recipient.now q) ts)) whole (c.loop-finding.invariant q))
    (lines_for findings c.args.recipient.now q)
