use Rattle.std.proofs.Common.{◌≡◌, ◌∙◌, ◌++◌}
use Rattle.std.proofs.lemmas.Result.{IfOk-weaker}
use Rattle.relay_wire.specs.PlanText.{lines_of}
use Rattle.relay_wire.specs.PlanTexts.{bare}
use Rattle.relay_wire.proofs.Pieces.{bare_parted}
use Rattle.relay_wire.proofs.plan_texts.+lines.Goals as goal

pub returns : goal.returns
returns g t c =
    let first = c.split_at.result.0.now in
    let last = c.split_at.result.1.now in
    let whole : lines_of (bare c.split_at.result.0.now) ++ lines_of (bare c.split_at.result.1.now) ≡ lines_of (bare c.args.lines.now) = bare_parted c.args.lines.now first last _ c.split_at.ensures.front c.split_at.ensures.back in
    IfOk-weaker c.with_last.result _ _ (λ texts is. is ∙ whole) (c.with_last.ensures (lines_of (bare first)) (lines_of (bare last)) c.join-there.ensures.second c.join-there.ensures.first)
