use Rattle.std.proofs.Common.{ap, sym, ◌∙◌}
use Rattle.relay_claims.proofs.Closings.{ended_first, ended_any}
use Rattle.relay_claims.proofs.round.Round.end.Goals as goal

pub returns : goal.returns
returns c =
    let r = c.self in let k = r.inside.table.shared.key in let law = r.invariant in let s = c.close_with-ended.ensures.values.2 in let round = c.requires in
    let words = c.close_with-ended.result.words.items in
    ended_any c.args.self c.args.seat words
    (ended_first c.args.self c.args.seat words k.keys.now k.heads k.cut c.seat.inside.token.id c.seat.inside.token.me.0 c.seat.inside.token.table_id s.0
    (law.keys_are ∙ ap (λ t. t.keys) r.view_is) (law.heads_are ∙ ap (λ t. t.heads) r.view_is) (law.cut_is ∙ ap (λ t. t.cut) r.view_is) (λ i. record (c.seat.view_is i) { round = sym round i })
    c.seat.invariant.live s.1.0 s.1.1 s.2)
