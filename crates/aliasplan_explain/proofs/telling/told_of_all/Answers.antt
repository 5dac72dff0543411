use Rattle.std.proofs.Common.{List, map, ap, sym, subst, ◌++◌, [], ◌∷◌, ◌∙◌, All, Some}
use Rattle.std.proofs.lemmas.List.{map_push}
use Rattle.std.proofs.lemmas.List.Elements.{All-head, All-push, All-same, All-tail}
use Rattle.relay_tables.specs.Senders.{Sender}
use Rattle.relay_explain.specs.declared.told.Told.{Told}
use Rattle.aliasplan_explain.specs.declared.lines.ChainLines.{ChainLines}
use Rattle.aliasplan_explain.specs.Chains.{chain_sender, IsChainTo}
use Rattle.aliasplan_explain.specs.Tellings.{told_sender, IsToldFor}
use Rattle.aliasplan_explain.proofs.telling.told_of_all.Goals as goal

pub told_of-requires-clause-chain : goal.told_of-requires-clause-chain
told_of-requires-clause-chain c =
    let P = IsChainTo c.args.grounds.now.job.now c.args.grounds.now.recipient_lines.now c.args.node.now in
    All-head P c.in-Some.chain _ (subst (All P) c.in-Some.ensures.steps.0 c.loop-chain.invariant.rest)

pub loop-chain-preserved : goal.loop-chain-preserved
loop-chain-preserved c =
    let job = c.args.grounds.now.job.now in
    let lines = c.args.grounds.now.recipient_lines.now in
    let node = c.args.node.now in
    let P = IsChainTo job lines node in
    let Q = IsToldFor job c.args.plan.now lines node in
    let told = c.loop-chain.told.items in
    let before = c.loop-chain.yielded in
    let chain : ChainLines = c.in-Some.chain in
    let one : Told = c.in_ok-told_of.field-0 in
    record {
      ending = c.loop-chain.invariant.ending;
      rest = All-tail P chain _ (subst (All P) c.in-Some.ensures.steps.0 c.loop-chain.invariant.rest);
      each = All-same Q c.push.new.self.items (told ++ one ∷ []) c.in_ok-push.ensures.items (All-push Q told one c.loop-chain.invariant.each c.in_ok-told_of.ensures.told);
      senders =
          ap (λ (xs : List Told). map told_sender xs) c.in_ok-push.ensures.items
          ∙ map_push told_sender told one
          ∙ ap (λ ss. ss ++ told_sender one ∷ []) c.loop-chain.invariant.senders
          ∙ ap (λ s. map chain_sender before ++ s ∷ []) (ap (λ (s : Sender). Some s) c.in_ok-told_of.ensures.sender)
          ∙ sym (map_push chain_sender before chain);
    }
