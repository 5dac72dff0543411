use Rattle.std.proofs.Common.{◌≡◌, ◌⊎◌, ℕ, List, [], sym, subst, ◌∙◌}
use Rattle.std.specs.Prelude.{◌↔◌, IsTrue}
use Rattle.std.proofs.lemmas.Option.{same_Some}
use Rattle.std.proofs.lemmas.Result.{IfOk-weaker}
use Rattle.relay_text.specs.Bytes.{has_text}
use Rattle.relay_tables.specs.declared.node.Node.{Node}
use Rattle.relay_tables.specs.Directory.{Directory}
use Rattle.relay_planning.specs.Entries.{IsNodeLine}
use Rattle.relay_planning.specs.Routes.{IsLineOfNode}
use Rattle.aliasplan.proofs.ReturnNodes.{undelivered}
use Rattle.aliasplan.proofs.undelivered.lines_of_node.Goals as goal

pub report_node-requires-clause-children : goal.report_node-requires-clause-children
report_node-requires-clause-children c = c.nodes.ensures.closed.children c.args.node c.requires.node

pub returns-clause-lines : goal.returns-clause-lines
returns-clause-lines c =
    let job = c.args.job.now in
    let g = c.args.graph.now in
    let n = c.args.node in
    let first = c.report_node.new.lines in
    let second = c.recipient_of.new.lines in
    IfOk-weaker c.into_seq.result _ _
    (λ lines same at here.
    let is_at : c.node.result.now ≡ at = same_Some c.node.result.now at (sym c.node.ensures ∙ here) in
    undelivered job g c.requires.graph n at here lines first second
    (λ q.
    subst (λ (t : Directory). IsTrue (has_text first q) ↔ (IsTrue (has_text [] q) ⊎ IsNodeLine g t n q)) c.requires.tables
    (subst (λ (ls : List (List ℕ)). IsTrue (has_text first q) ↔ (IsTrue (has_text ls q) ⊎ IsNodeLine g c.args.tables.now n q)) c.new-lines.ensures (c.in_ok-report_node.ensures q)))
    (λ q. subst (λ (m : Node). IsTrue (has_text second q) ↔ (IsTrue (has_text first q) ⊎ IsLineOfNode job m q)) is_at (c.in_ok-recipient_of.ensures.lines q))
    same)
    c.into_seq.ensures.all
