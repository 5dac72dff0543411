use Rattle.std.proofs.Common.{◌≡◌, ℕ, ◌+◌, ◌-◌, length, arith, sym, ap, ◌∙◌}
use Rattle.relay_claims.proofs.Scans.{sees_link}
use Rattle.relay_claims.proofs.round.Round.scan.Goals as goal

pub load-link-requires : goal.load-link-requires
load-link-requires c =
    let r = c.self.inside in let w = c.self.invariant.words in let inv = c.loop-next.invariant in let t = c.loop-next.token in let low = inv.low in let i : ℕ = c.loop-next.next - 1 in
    let test = c.loop-next-test.true in let n = ap (λ t. length t.keys) c.self.view_is in
    let next : t.me.0.flight.next ≡ i + 1 = ap (λ m. m.0.flight.next) inv.at ∙ omega arith in (
      inv.own.0 ∙ c.requires.own.0 ∙ sym (ap (λ t. t.name) c.self.view_is),
      omega arith,
      sees_link r.table.shared.key.keys.now r.table.shared.key.heads r.table.shared.key.cut r.table.shared.table_id.slots t.id t.me i (1 + r.heads + i)
          (ap (λ m. m.0.spent) inv.at ∙ c.requires.begun.0) (ap (λ m. m.0.flight.busy) inv.at) next (ap (λ (h : ℕ). 1 + h + i) (sym c.self.invariant.heads_are)),
    )
