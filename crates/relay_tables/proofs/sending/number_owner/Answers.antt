use Rattle.std.proofs.Common.{◌≡◌, None, refl, sym, ap, ◌∙◌, inl}
use Rattle.std.specs.Prelude.{not}
use Rattle.relay_tables.specs.Senders.{owner_number, owner_entry}
use Rattle.relay_tables.proofs.SenderSteps.{not_owned, owned_as, may_add, none_of}
use Rattle.relay_tables.proofs.sending.number_owner.Goals as goal

pub returns-then-is_none-clause-owned : goal.returns-then-is_none-clause-owned
returns-then-is_none-clause-owned c =
    let d = c.args.tables.now in
    let none : owner_number d c.args.alias ≡ None = sym c.owner_of.ensures ∙ none_of c.owner_of.result (c.is_none.ensures ∙ ap (λ b. not b) c.if-is_none.true) in
    not_owned d c.args.senders.now c.args.alias none

pub returns-then-is_none-clause-added : goal.returns-then-is_none-clause-added
returns-then-is_none-clause-added c = inl refl

pub returns-clause-owned : goal.returns-clause-owned
returns-clause-owned c =
    let d = c.args.tables.now in
    owned_as d c.put.new.self (owner_entry d c.args.alias) c.in_ok-number.number c.in_ok-sender.sender c.in_ok-sender.ensures c.in_ok-number.ensures.number

pub returns-clause-added : goal.returns-clause-added
returns-clause-added c =
    let d = c.args.tables.now in
    may_add d c.args.alias c.in_ok-sender.sender c.args.senders.now c.put.new.self c.in_ok-sender.ensures c.in_ok-number.ensures.added
