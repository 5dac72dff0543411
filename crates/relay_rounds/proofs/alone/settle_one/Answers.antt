use Rattle.std.proofs.Common.{◌<◌, Bool, true, false, length, arith, refl, inl, inr, true≢false, sym, ◌∙◌, subst}
use Rattle.relay_rounds.specs.Shards.{Taken}
use Rattle.relay_rounds.proofs.Numbers.{has_number}
use Rattle.relay_rounds.proofs.Search.{one_longer}
use Rattle.relay_rounds.proofs.alone.settle_one.Goals as goal

pub returns-then-contains-clause-met : goal.returns-then-contains-clause-met
returns-then-contains-clause-met g c = inl ((has_number c.args.settled.now c.args.key).0 (sym c.contains.ensures ∙ c.if-contains.true), refl, refl)

pub returns-then-len-limit-clause-refused : goal.returns-then-len-limit-clause-refused
returns-then-len-limit-clause-refused g c _ = (
  (λ on. true≢false (sym ((has_number c.args.settled.now c.args.key).1 on) ∙ sym c.contains.ensures ∙ c.if-contains.false)),
  (let full = c.if-len-limit.true in let count = c.len.ensures.count in omega arith),
)

pub returns-in_ok-append-clause-met : goal.returns-in_ok-append-clause-met
returns-in_ok-append-clause-met g c =
    let settled = c.args.settled.now in
    let now = c.insert.new.self in
    let new : Taken settled c.args.key true now = subst (λ (b : Bool). Taken settled c.args.key b now) c.if-branch.true c.in_ok-insert.ensures in
    let room : length settled < c.args.limit = (let count = c.len.ensures.count in let free = c.if-len-limit.false in let within = c.requires.within in omega arith) in
    inr (new.0, new.1, one_longer settled now c.args.key c.len.ensures.distinct new.0 new.1, room, c.in_ok-append.ensures)

pub returns-else-branch-clause-met : goal.returns-else-branch-clause-met
returns-else-branch-clause-met g c =
    let settled = c.args.settled.now in
    let now = c.insert.new.self in
    let old : Taken settled c.args.key false now = subst (λ (b : Bool). Taken settled c.args.key b now) c.if-branch.false c.in_ok-insert.ensures in
    inl (old.0, old.1, refl)
