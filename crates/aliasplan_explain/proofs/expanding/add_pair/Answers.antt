use Rattle.std.proofs.Common.{◌≡◌, ◌⊎◌, ℕ, List, Some, None, ap, sym, subst, ◌∙◌, inl, inr}
use Rattle.std.specs.Prelude.{◌↔◌, IsTrue, option_copied}
use Rattle.relay_text.specs.Bytes.{has_text}
use Rattle.relay_planning.specs.Delivery.{final_address}
use Rattle.aliasplan.proofs.ReturnSteps.{either_same, text_added}
use Rattle.aliasplan_explain.specs.Expansions.{expansion_line}
use Rattle.aliasplan_explain.proofs.ExpansionFacts.{no_pair_line, pair_line}
use Rattle.aliasplan_explain.proofs.expanding.add_pair.Goals as goal

pub returns-in_ok-insert : goal.returns-in_ok-insert
returns-in_ok-insert c = λ job q.
    let g = c.args.graph.now in
    let with_senders = c.args.with_senders in
    let text = c.in_ok-line_of.field-0.items in
    let sender = option_copied c.sender-sender.result in
    let address = c.in-Some.address.now in
    let is : final_address job c.node.result.now ≡ Some address = sym (c.address_at.ensures job) ∙ ap option_copied c.in-Some.is in
    let line : text ≡ expansion_line with_senders sender address = c.in_ok-line_of.ensures in
    let added = text_added q text (has_text c.args.lines.now q) (has_text c.insert.new.self q) (c.in_ok-insert.ensures.ok q) in
    either_same _ _ _ _ (subst (λ (l : List ℕ). IsTrue (has_text c.insert.new.self q) ↔ (IsTrue (has_text c.args.lines.now q) ⊎ (q ≡ l))) line added)
    (pair_line job g with_senders c.args.pair c.node.result.now c.node.ensures sender address c.sender-sender.ensures is q)

pub returns-in_default : goal.returns-in_default
returns-in_default c = λ job q.
    let g = c.args.graph.now in
    let gone : c.address_at.result ≡ None = search (c.in_default.is) in
    let none : final_address job c.node.result.now ≡ None = sym (c.address_at.ensures job) ∙ ap option_copied gone in (
      λ old. inl old,
      λ either. elim either [ inl old ↦ old | inr line ↦ absurd (no_pair_line job g c.args.with_senders c.args.pair c.node.result.now c.node.ensures none q line) ],
    )
