use Rattle.std.proofs.Common.{refl, sym, subst, List, Bor}
use Rattle.std.specs.Prelude.{option_map}
use Rattle.relay_text.specs.AddressParts.{AddressParts}
use Rattle.relay_wire.specs.declared.plan.Planned.{Planned}
use Rattle.relay_planning.specs.Plans.{IsSoundFor}
use Rattle.aliasplan_explain.specs.Endings.{IsEnding}
use Rattle.aliasplan_explain.specs.Explanations.{IsIn}
use Rattle.aliasplan_explain.proofs.EndingFacts.{indices_along, is_in, some_index, within}
use Rattle.aliasplan_explain.proofs.ending.outcome_of.Goals as goal

pub number_under-requires : goal.number_under-requires
number_under-requires c =
    let grounds = c.args.grounds.now in
    let delivered = subst (IsEnding grounds.job.now c.args.plan.now c.args.node.now) c.in-Transactions.is c.requires.ending in
    within c.as_slice-transactions.result.now delivered.address c.deref.result.now (indices_along c.args.plan.now.transactions c.as_slice-transactions.result.now delivered.address c.in-Transactions.indices.items c.deref.result.now c.as_slice-transactions.ensures c.deref.ensures.value delivered.all)

pub unreachable-requires : goal.unreachable-requires
unreachable-requires c =
    let grounds = c.args.grounds.now in
    let transactions = c.as_slice-transactions.result.now in
    let sender = option_map (λ (a : Bor AddressParts). a.now) c.args.sender in
    let delivered = subst (IsEnding grounds.job.now c.args.plan.now c.args.node.now) c.in-Transactions.is c.requires.ending in
    let all = indices_along c.args.plan.now.transactions transactions delivered.address c.in-Transactions.indices.items c.deref.result.now c.as_slice-transactions.ensures c.deref.ensures.value delivered.all in
    let sound = subst (IsSoundFor grounds.job.now) (sym c.as_slice-transactions.ensures) c.requires.sound in
    let some = some_index grounds.job.now transactions c.args.node.now delivered.address delivered.route sender c.deref.result.now sound c.requires.reached delivered.is delivered.routed all in
    c.in-None.ensures.none refl some.0 some.1 some.2

pub returns-in-Some : goal.returns-in-Some
returns-in-Some c =
    let grounds = c.args.grounds.now in
    let transactions = c.as_slice-transactions.result.now in
    let sender = option_map (λ (a : Bor AddressParts). a.now) c.args.sender in
    let delivered = subst (IsEnding grounds.job.now c.args.plan.now c.args.node.now) c.in-Transactions.is c.requires.ending in
    let all = indices_along c.args.plan.now.transactions transactions delivered.address c.in-Transactions.indices.items c.deref.result.now c.as_slice-transactions.ensures c.deref.ensures.value delivered.all in
    let some = c.in-Some.ensures.some in
    let here = is_in transactions sender delivered.address c.deref.result.now some.0 c.in-Some.number all some.1 some.2 some.3 in
    (delivered.address, delivered.is, subst (λ (ts : List Planned). IsIn ts sender delivered.address c.in-Some.number) c.as_slice-transactions.ensures here)
