use Rattle.std.proofs.Common.{◌∙◌}
use Rattle.std.proofs.lemmas.Result.{IfOk-weaker}
use Rattle.relay_wire.specs.PlanText.{scripted_text}
use Rattle.relay_returns.proofs.Blocks.{front_of, parted, joined, without}
use Rattle.relay_returns.proofs.texts.returned_wire_text.Goals as goal

pub with_blocks-requires : goal.with_blocks-requires
with_blocks-requires c =
    let p = c.args.plan.now in
    (front_of (scripted_text c.args.plan.now.hostname) p, rw (c.as_slice.ensures) (c.in_ok-text.ensures ∙ parted (scripted_text c.args.plan.now.hostname) p))

pub returns-clause-text : goal.returns-clause-text
returns-clause-text c =
    let p = c.args.plan.now in
    let h = rw c.as_slice.ensures at c.with_blocks.ensures in
    IfOk-weaker c.with_blocks.result _ _ (λ whole is. is (front_of (scripted_text c.args.plan.now.hostname) p) (c.in_ok-text.ensures ∙ parted (scripted_text c.args.plan.now.hostname) p) ∙ joined (scripted_text c.args.plan.now.hostname) p c.args.returns.now) h

pub returns-clause-none : goal.returns-clause-none
returns-clause-none c =
    let p = c.args.plan.now in
    let h = rw c.as_slice.ensures at c.with_blocks.ensures in
    IfOk-weaker c.with_blocks.result _ _ (λ whole is none. is (front_of (scripted_text c.args.plan.now.hostname) p) (c.in_ok-text.ensures ∙ parted (scripted_text c.args.plan.now.hostname) p) ∙ without (scripted_text c.args.plan.now.hostname) p c.args.returns.now none) h
