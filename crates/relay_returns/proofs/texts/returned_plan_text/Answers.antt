use Rattle.std.proofs.Common.{◌∙◌}
use Rattle.std.proofs.lemmas.Result.{IfOk-weaker}
use Rattle.relay_wire.specs.PlanText.{transaction_text}
use Rattle.relay_returns.proofs.Blocks.{front_of, parted, joined, without}
use Rattle.relay_returns.proofs.texts.returned_plan_text.Goals as goal

pub with_blocks-requires : goal.with_blocks-requires
with_blocks-requires c =
    let p = c.args.plan.now in
    (front_of transaction_text p, rw (c.as_slice.ensures) (c.in_ok-text.ensures ∙ parted transaction_text p))

pub returns-clause-text : goal.returns-clause-text
returns-clause-text c =
    let p = c.args.plan.now in
    let h = rw c.as_slice.ensures at c.with_blocks.ensures in
    IfOk-weaker c.with_blocks.result _ _ (λ whole is. is (front_of transaction_text p) (c.in_ok-text.ensures ∙ parted transaction_text p) ∙ joined transaction_text p c.args.returns.now) h

pub returns-clause-none : goal.returns-clause-none
returns-clause-none c =
    let p = c.args.plan.now in
    let h = rw c.as_slice.ensures at c.with_blocks.ensures in
    IfOk-weaker c.with_blocks.result _ _ (λ whole is none. is (front_of transaction_text p) (c.in_ok-text.ensures ∙ parted transaction_text p) ∙ without transaction_text p c.args.returns.now none) h
