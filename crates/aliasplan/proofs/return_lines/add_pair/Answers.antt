use Rattle.std.proofs.Common.{◌≡◌, ◌⊎◌, ◌<◌, ℕ, List, [], length, set, arith, ap, sym, subst, ◌∙◌}
use Rattle.std.specs.Prelude.{◌↔◌, IsTrue}
use Rattle.std.proofs.lemmas.List.{get_or_default}
use Rattle.std.proofs.lemmas.Result.{on_ok_weaker}
use Rattle.relay_text.specs.Bytes.{has_text}
use Rattle.relay_tables.specs.Graphs.{sender_number_after}
use Rattle.relay_planning.specs.Findings.{Reports}
use Rattle.aliasplan.specs.ReturnLines.{AreFindings, IsLineFor, IsPairLine, ReportsEach, lines_at}
use Rattle.aliasplan.proofs.ReturnSteps.{pair_lines}
use Rattle.aliasplan.proofs.return_lines.add_pair.Goals as goal

pub add_lines-requires : goal.add_lines-requires
add_lines-requires c =
    let at = c.index-undelivered-pair.result in
    let inside : c.args.pair.node < length c.args.undelivered.now = omega (arith, c.requires.nodes, c.requires.node) in
    subst AreFindings (sym c.as_slice-findings.ensures) (subst AreFindings (sym c.index-undelivered-pair.is) (c.requires.findings c.args.pair.node at inside))

pub returns : goal.returns
returns c =
    let g = c.args.graph.now in
    let pair = c.args.pair in
    let undelivered = c.args.undelivered.now in
    let recipient = c.args.recipient.now in
    let lists = c.args.lists.now.items in
    let texts = c.add_lines.new.lines in
    let sender : ℕ = sender_number_after g pair.sender pair.node in
    let sender_is = c.sender_after-sender.ensures in
    let inside : sender < length lists = omega (arith, c.nodes.ensures.closed.senders pair.sender pair.node c.requires.sender c.requires.node, c.requires.senders) in
    let node_inside : pair.node < length undelivered = omega (arith, c.requires.nodes, c.requires.node) in
    let old_is : c.index_mut.result.now ≡ lines_at lists sender =
    c.index_mut.ensures.value ∙ get_or_default lists c.sender_after-sender.result c.index_mut.result.now [] (omega (arith, inside, sender_is)) ∙ ap (lines_at lists) sender_is in
    let findings_is : c.as_slice-findings.result.now ≡ lines_at undelivered pair.node =
    c.as_slice-findings.ensures ∙ c.index-undelivered-pair.is ∙ get_or_default undelivered pair.node c.index-undelivered-pair.result [] node_inside in
    on_ok_weaker {P = Reports c.index_mut.result.now texts (IsLineFor c.as_slice-findings.result.now recipient)} c.add_lines.result
    (λ h.
    subst (λ (n : ℕ). ReportsEach lists (set lists n texts) (λ s q. IsPairLine g undelivered recipient s q pair)) (sym sender_is)
    (pair_lines g undelivered recipient lists pair texts inside
    (λ q.
    subst (λ (fs : List (List ℕ)). IsTrue (has_text texts q) ↔ (IsTrue (has_text (lines_at lists sender) q) ⊎ IsLineFor fs recipient q)) findings_is
    (subst (λ (ls : List (List ℕ)). IsTrue (has_text texts q) ↔ (IsTrue (has_text ls q) ⊎ IsLineFor c.as_slice-findings.result.now recipient q)) old_is (h q)))))
    c.add_lines.ensures
