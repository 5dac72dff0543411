use Rattle.std.proofs.Common.{arith, ◌≡◌, ℕ, ◌+◌, length, ap, ◌∙◌, subst}
use Rattle.std.proofs.lemmas.List.{length_push}
use Rattle.std.specs.Prelude.{is_some, count_by}
use Rattle.std.specs.List.{range_with_len}
use Rattle.relay_tables.specs.Senders.{owner_number}
use Rattle.relay_tables.specs.Sending.{AreOwned}
use Rattle.relay_tables.proofs.Runs.{counted_within}
use Rattle.relay_tables.proofs.SenderSteps.{owned_none, owned_by_none, owned_more, few_more}
use Rattle.relay_tables.proofs.sending.number_owners.Goals as goal

pub loop-alias-init : goal.loop-alias-init
loop-alias-init c = record {
  few = omega arith;
  count = ap length c.new-owners.ensures.items;
  owned = λ sender is. rw c.new-owners.ensures.items (owned_none c.args.tables.now sender c.args.senders.now is);
}

pub returns-then-owned-eq0-clause-owned : goal.returns-then-owned-eq0-clause-owned
returns-then-owned-eq0-clause-owned c =
    let d = c.args.tables.now in
    λ sender is.
    let none : count_by (λ alias. is_some (owner_number d alias)) (range_with_len 0 (length d.aliases)) ≡ 0 = omega (arith, c.requires.owned) in
    rw c.new-owners.ensures.items (owned_by_none d sender (length d.aliases) c.args.senders.now is none)

pub number_owner-requires-clause-room : goal.number_owner-requires-clause-room
number_owner-requires-clause-room c =
    let l = c.loop-alias in
    let e = c.aliases-alias-end.ensures in
    omega (arith, l.invariant.few, counted_within (λ alias. is_some (owner_number c.args.tables.now alias)) l.alias, e.lawful.few_entries, ap length e.entries)

pub loop-alias-preserved : goal.loop-alias-preserved
loop-alias-preserved c =
    let l = c.loop-alias in
    let d = c.args.tables.now in
    let new = c.number_owner.new.senders in
    let added = c.in_ok-owner.ensures.added in
    record {
      count = ap length c.in_ok-push.ensures.items ∙ length_push l.owners.items c.in_ok-owner.owner ∙ ap (λ (n : ℕ). n + 1) l.invariant.count;
      few = few_more d l.alias l.senders new added l.invariant.few;
      owned = λ sender is. rw c.in_ok-push.ensures.items (owned_more d sender l.alias l.senders new l.owners.items c.in_ok-owner.owner l.invariant.count (l.invariant.owned sender is) added c.in_ok-owner.ensures.owned);
    }

pub returns-clause-owned : goal.returns-clause-owned
returns-clause-owned c =
    let l = c.loop-alias in
    let d = c.args.tables.now in
    λ sender is.
    let end : l.alias ≡ length d.aliases = omega (arith, ap length c.aliases-alias-end.ensures.entries) in
    subst (λ (n : ℕ). AreOwned d sender n l.senders l.owners.items) end (l.invariant.owned sender is)
