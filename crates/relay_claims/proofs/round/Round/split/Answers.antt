use Rattle.std.proofs.Common.{arith, ap, sym, ◌∙◌}
use Rattle.relay_claims.proofs.Halves.{splits}
use Rattle.relay_claims.proofs.round.Round.split.Goals as goal

pub split_seat-other-requires : goal.split_seat-other-requires
split_seat-other-requires c =
    let r = c.self in let s = c.seat in let w = r.invariant.words in let token = s.inside.token in
    (ap (λ p. p.round.name) s.view_is ∙ ap (λ t. t.name) (c.requires ∙ sym r.view_is), omega arith, splits _ _ _ token.id token.me.0 s.invariant.live s.invariant.no_claim)
