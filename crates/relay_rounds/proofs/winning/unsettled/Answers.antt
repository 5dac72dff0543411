use Rattle.std.proofs.Common.{◌≡◌, ℕ, Bool, not, ap, ◌∙◌}
use Rattle.std.specs.Prelude.{filter}
use Rattle.rayon.proofs.ListFacts.{IfOk-then}
use Rattle.rayon.proofs.ToStd.{answers-by_ref, filter_by_mask-filter}
use Rattle.relay_rounds.specs.Shards.{is_there}
use Rattle.relay_rounds.proofs.winning.unsettled.Goals as goal

pub returns : goal.returns
returns g c =
    let fresh : ℕ → Bool = λ key. not (is_there c.args.settled.now key) in
    IfOk-then c.collect.result _ _ c.collect.ensures (λ v h.
    let chain = rw (c.filter.ensures.base, c.filter.ensures.f, c.copied.ensures, c.with_min_len.ensures.base) at h.1 in
    let given : chain.0 ≡ c.args.keys.now = chain.2.2 ∙ chain.2.1 ∙ c.par_iter.ensures in
    h.2 ∙ chain.4 ∙ filter_by_mask-filter fresh chain.0 chain.1 (answers-by_ref fresh chain.0 chain.1 chain.3) ∙ ap (filter fresh) given)
