use Rattle.std.proofs.Common.{arith, sym, ap, ◌∙◌}
use Rattle.relay_claims.proofs.Halves.{joins}
use Rattle.relay_claims.proofs.Pieces.{both_idle}
use Rattle.relay_claims.proofs.round.Round.join.Goals as goal

pub join_seat-requires : goal.join_seat-requires
join_seat-requires c =
    let r = c.self in let w = r.invariant.words in let one = c.first in let two = c.second in let h = c.requires.halves in
    let same = ap (λ t. t.name) (sym r.view_is) in (
      ap (λ p. p.round.name) one.view_is ∙ ap (λ t. t.name) c.requires.own.0 ∙ same,
      ap (λ p. p.round.name) two.view_is ∙ ap (λ t. t.name) c.requires.own.1 ∙ same,
      two.invariant.no_slot,
      omega arith,
      joins _ _ _ one.inside.token.id one.inside.token.me.0 two.inside.token.id two.inside.token.me.0 h.0 one.invariant.live one.invariant.no_claim two.invariant.live (ap (λ p. p.position) one.view_is ∙ h.1.0) (ap (λ p. p.position) two.view_is ∙ h.1.1),
    )

pub invariant_of-result : goal.invariant_of-result
invariant_of-result c = let one = c.first in let two = c.second in
    both_idle one.inside.token.me two.inside.token.me c.join_seat.new.seat.me one.invariant two.invariant (ap (λ p. p.round.keys) two.view_is ∙ ap (λ t. t.keys) (c.requires.own.1 ∙ sym c.requires.own.0) ∙ sym (ap (λ p. p.round.keys) one.view_is)) c.join_seat.ensures.2
