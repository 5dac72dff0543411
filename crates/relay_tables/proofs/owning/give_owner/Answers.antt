use Rattle.std.proofs.Common.{ℕ, ◌+◌, ◌<◌, Option, length, set, sym, refl, subst, arith}
use Rattle.std.proofs.lemmas.Option.{slice_get_within}
use Rattle.relay_tables.proofs.Owned.{AreGiven, given_before, given_more}
use Rattle.relay_tables.proofs.owning.give_owner.Goals as goal

pub loop-place-init : goal.loop-place-init
loop-place-init c = (omega arith, record { count = refl; given = λ k e here below. absurd (omega arith); left = λ k from. refl })

pub loop-place-smaller : goal.loop-place-smaller
loop-place-smaller c =
    let found = c.in-Some.ensures.found in
    let below = slice_get_within c.args.entries.now c.in-Some.place found.1 found.2 in
    omega (arith, below, found.0)

pub loop-place-preserved : goal.loop-place-preserved
loop-place-preserved c =
    let l = c.loop-place in
    let found = c.in-Some.ensures.found in
    let below : c.in-Some.place < length c.args.entries.now = slice_get_within c.args.entries.now c.in-Some.place found.1 found.2 in (
      omega (arith, below),
      subst (λ (o : Option ℕ). AreGiven c.args.entries.now c.args.name.now c.args.owner (c.in-Some.place + 1) c.args.owners.now (set l.owners c.in-Some.place o)) (sym c.or.ensures)
          (given_more c.args.entries.now c.args.name.now c.args.owner l.next c.in-Some.place found.1 c.args.owners.now l.owners l.invariant.1
          c.in-Some.ensures.before found.0 (omega (arith, below, l.invariant.1.count, c.requires.count)) found.2 found.3),
    )

pub returns-clause-given : goal.returns-clause-given
returns-clause-given c =
    let l = c.loop-place in
    λ k e here. given_before c.args.entries.now c.args.name.now c.args.owner l.next (length c.args.entries.now) c.args.owners.now l.owners l.invariant.1
    c.in_default.ensures.before k e here (slice_get_within c.args.entries.now k e here)
