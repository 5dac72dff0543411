use Rattle.std.proofs.Common.{ℕ, Bool, not, ap, ◌∙◌}
use Rattle.std.specs.Prelude.{filter}
use Rattle.std.proofs.lemmas.Result.{IfOk-weaker}
use Rattle.relay_rounds.specs.Shards.{is_there}
use Rattle.relay_rounds.proofs.Winners.{unsettled_are_new}
use Rattle.relay_rounds.proofs.winning.winners.Goals as goal

pub returns : goal.returns
returns g c =
    let settled = c.args.settled.now in
    let fresh : ℕ → Bool = λ key. not (is_there settled key) in
    IfOk-weaker c.unsettled.result _ _
    (λ new is. unsettled_are_new settled c.args.keys.now c.claim_all.new.kept.won.items new.items c.in_ok-claim_all.ensures (is ∙ ap (filter fresh) c.as_slice.ensures.value))
    c.unsettled.ensures
