use Rattle.std.proofs.Common.{◌≡◌, ◌⊎◌, ◌<◌, List, ℕ, [], length, set, arith, subst, ◌∙◌}
use Rattle.std.specs.Prelude.{◌↔◌, IsTrue}
use Rattle.std.proofs.lemmas.List.{get_or_default}
use Rattle.relay_text.specs.Bytes.{has_text}
use Rattle.relay_pairs.specs.declared.reached.Reached.{Reached}
use Rattle.aliasplan.specs.ReturnLines.{HavePairLine, IsRootLine, ReportsEach, lines_at}
use Rattle.aliasplan.proofs.ReturnSteps.{recipient_lines}
use Rattle.aliasplan.proofs.return_lines.add_recipient.Goals as goal

pub returns-clause-lines : goal.returns-clause-lines
returns-clause-lines g c =
    let graph = c.args.search.now.graph.now in
    let undelivered = c.args.undelivered.now in
    let recipient = c.args.recipient.now in
    let root = c.args.root in
    let lists = c.args.lists.now.items in
    let texts = c.add_root.new.lines in
    let pairs = c.in_ok-pairs.pairs.items in
    let some : 0 < length lists = omega (arith, c.requires.senders, c.nodes.ensures.closed.some_sender) in
    let old_is : c.index_mut.result.now ≡ lines_at lists 0 = c.index_mut.ensures.value ∙ get_or_default lists 0 c.index_mut.result.now [] some in
    recipient_lines graph undelivered recipient root lists c.add_pairs.new.lists.items texts pairs some
    (λ q. subst (λ (ls : List (List ℕ)). IsTrue (has_text texts q) ↔ (IsTrue (has_text ls q) ⊎ IsRootLine graph root recipient q)) old_is (c.in_ok-add_root.ensures q))
    c.in_ok-pairs.ensures.pairs
    (subst (λ (ps : List Reached). ReportsEach (set lists 0 texts) c.add_pairs.new.lists.items (HavePairLine graph undelivered ps recipient)) c.deref.ensures.value c.in_ok-add_pairs.ensures)
