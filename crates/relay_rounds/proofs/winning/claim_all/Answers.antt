use Rattle.std.proofs.Common.{List, ℕ, ap, sym, ◌∙◌, subst}
use Rattle.relay_rounds.specs.Searches.{AreDistinctOf}
use Rattle.relay_rounds.proofs.Winners.{won_all}
use Rattle.relay_rounds.proofs.winning.claim_all.Goals as goal

pub returns : goal.returns
returns g c =
    let opened = c.in_ok-round.ensures in
    let keys = c.args.keys.now in
    let worker = c.work_all-worker.result in
    subst (λ (xs : List ℕ). AreDistinctOf keys xs) (sym (c.work_all-worker.ensures.kept c.if-refused.false))
    (won_all c.in_ok-round.seat worker.seat keys (ap (λ s. s.round.keys) opened.seat ∙ opened.round.0) (ap (λ s. s.position) opened.seat) c.work_all-worker.ensures.rest c.end.ensures)
