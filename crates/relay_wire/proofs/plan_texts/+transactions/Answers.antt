use Rattle.std.proofs.Common.{◌∙◌, ◌+◌, List, ℕ, length}
use Rattle.std.specs.List.{enumerate_from}
use Rattle.std.proofs.lemmas.Result.{IfOk-weaker}
use Rattle.relay_wire.specs.PlanText.{numbered_texts, transaction_text}
use Rattle.relay_wire.proofs.Pieces.{numbered_parted}
use Rattle.relay_wire.proofs.plan_texts.+transactions.Goals as goal

pub returns : goal.returns
returns g t c =
    let n = c.args.number in
    let first = c.split_at.result.0.now in
    let last = c.split_at.result.1.now in
    let front : List ℕ = numbered_texts transaction_text (enumerate_from n first) in
    let back : List ℕ = numbered_texts transaction_text (enumerate_from (n + length first) last) in
    IfOk-weaker c.with_last.result _ _
    (λ texts is. is ∙ numbered_parted transaction_text n c.args.transactions.now first last _ c.split_at.ensures.front c.split_at.ensures.back)
    (c.with_last.ensures front back c.join-there.ensures.second c.join-there.ensures.first)
