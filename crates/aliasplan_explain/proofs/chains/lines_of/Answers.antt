use Rattle.std.proofs.Common.{◌≡◌, ◌<◌, List, get_or, length, map, ap, sym, subst, ◌++◌, [], ◌∷◌, ◌∙◌}
use Rattle.std.proofs.lemmas.List.Elements.{All-push, All-same}
use Rattle.relay_trails.specs.declared.found.Found.{Found}
use Rattle.relay_trails.specs.Trails.{HasNodes}
use Rattle.aliasplan_explain.specs.declared.lines.ChainLines.{ChainLines}
use Rattle.aliasplan_explain.specs.Chains.{chain_sender, IsChainTo}
use Rattle.aliasplan_explain.proofs.AnswerFacts.{chain_is, chains_more, sender_there}
use Rattle.aliasplan_explain.proofs.chains.lines_of.Goals as goal

pub chain_lines-requires-clause-nodes : goal.chain_lines-requires-clause-nodes
chain_lines-requires-clause-nodes g c = λ κs within.
    let with_nodes : Found → Type 0 = HasNodes c.args.grounds.now.basis.now.graph in
    let items_are = c.deref-found-items.ensures.value in
    let i = c.loop-found.found-index in
    let one : Found = c.found-item.result in
    let at : one ≡ get_or c.args.sought.now.found.items i one = c.found-item.is ∙ ap (λ (fs : List Found). get_or fs i one) items_are in
    subst with_nodes (sym at) (c.requires.nodes i one (subst (λ (fs : List Found). i < length fs) items_are c.loop-found-test.true))

pub chain_lines-requires-clause-sender : goal.chain_lines-requires-clause-sender
chain_lines-requires-clause-sender g c = λ κs within.
    let items_are = c.deref-found-items.ensures.value in
    let i = c.loop-found.found-index in
    let one : Found = c.found-item.result in
    let at : one ≡ get_or c.args.sought.now.found.items i one = c.found-item.is ∙ ap (λ (fs : List Found). get_or fs i one) items_are in
    sender_there c.args.grounds.now.job.now c.args.grounds.now.basis.now.graph c.args.sought.now.node c.args.sought.now.found.items c.requires.best i one (subst (λ (fs : List Found). i < length fs) items_are c.loop-found-test.true) at

pub loop-found-preserved : goal.loop-found-preserved
loop-found-preserved g c =
    let job = c.args.grounds.now.job.now in
    let graph = c.args.grounds.now.basis.now.graph in
    let recipient_lines = c.args.grounds.now.recipient_lines.now in
    let node = c.args.sought.now.node in
    let found = c.args.sought.now.found.items in
    let lines = c.loop-found.lines.items in
    let items_are = c.deref-found-items.ensures.value in
    let i = c.loop-found.found-index in
    let one : Found = c.found-item.result in
    let at : one ≡ get_or found i one = c.found-item.is ∙ ap (λ (fs : List Found). get_or fs i one) items_are in
    let short : i < length found = subst (λ (fs : List Found). i < length fs) items_are c.loop-found-test.true in
    let chain : ChainLines = c.in_ok-chain_lines.field-0 in
    let is = chain_is job graph node found c.requires.best recipient_lines i one short at chain c.in_ok-chain_lines.ensures.lines c.in_ok-chain_lines.ensures.from in
    record {
      each = All-same (IsChainTo job recipient_lines node) c.push.new.self.items (lines ++ chain ∷ []) c.in_ok-push.ensures.items (All-push (IsChainTo job recipient_lines node) lines chain c.loop-found.invariant.each is);
      senders =
          ap (λ (xs : List ChainLines). map chain_sender xs) c.in_ok-push.ensures.items
          ∙ chains_more graph found i one short at lines c.loop-found.invariant.senders chain c.in_ok-chain_lines.ensures.from;
    }
