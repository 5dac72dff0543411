use Rattle.std.proofs.Common.{◌≡◌, ℕ, ◌<◌, length, get_or, inl, inr, refl, sym, ap, ◌∙◌, subst, arith}
use Rattle.std.specs.Vec.{with_items}
use Rattle.std.proofs.lemmas.List.{with_items_is}
use Rattle.relay_aliasfile.specs.declared.entry.Entry.{Entry}
use Rattle.relay_tables.proofs.Owned.{AreOwnedAmong, owned_more, owned_same, owned_all}
use Rattle.relay_tables.proofs.owning.entry_owners.Goals as goal
use Rattle.relay_tables.proofs.owning.entry_owners.Goals.{in-Some, in_default}

pub loop-number-preserved : goal.loop-number-preserved
loop-number-preserved c =
    let entries = c.args.entries.now in
    let l = c.loop-number in
    let entry = c.index-entries-number.result in
    let below : l.number < length entries = omega (arith, c.loop-number-test.true) in
    let here : get_or entries l.number entry ≡ entry = sym c.index-entries-number.is in
    let name : entry.name ≡ c.as_bytes.result.now = ap (λ (e : Entry). e.name) (sym here) ∙ sym c.as_bytes.ensures in
    elim c.match-owned_name.branch [
      | in-Some w ↦
          let count : length w.give_owner.new.owners ≡ length l.owners.items = w.give_owner.ensures.count ∙ ap length w.deref_mut.ensures.value in
          let items : (with_items l.owners w.give_owner.new.owners).items ≡ w.give_owner.new.owners = with_items_is l.owners w.give_owner.new.owners (omega (arith, count)) in
          rw w.owners-is (rw items (owned_more entries l.number entry w.in-Some.name.now l.owners.items w.give_owner.new.owners below here
          (name ∙ w.in-Some.ensures.some) l.invariant count (rw w.deref_mut.ensures.value at w.give_owner.ensures.given)))
      | in_default w ↦ rw w.owners-is (owned_same entries l.number entry l.owners.items below here
          (λ owned is. w.in_default.ensures.none refl owned (sym name ∙ is)) l.invariant)
    ]

pub returns-then-not-has_owner : goal.returns-then-not-has_owner
returns-then-not-has_owner c = inr (c.new.ensures.items, c.has_owner.ensures c.if-not-has_owner.true)

pub returns : goal.returns
returns c =
    let l = c.loop-number in
    inl (owned_all c.args.entries.now l.owners.items (subst (λ (n : ℕ). AreOwnedAmong c.args.entries.now n l.owners.items) (omega (arith, c.loop-number-test.false)) l.invariant))
