use Rattle.relay_tables.proofs.Resolving.{resolved_named, resolved_based, resolved_mailbox, resolved_missing, no_alias_with}
use Rattle.relay_tables.proofs.tables.Tables.resolve.Goals as goal

pub returns-in-Some : goal.returns-in-Some
returns-in-Some c = resolved_named c.args.self.now c.args.name.now c.args.parent c.in-Some.number c.in-Some.ensures

pub returns-in-Some-base_alias : goal.returns-in-Some-base_alias
returns-in-Some-base_alias c =
    resolved_based c.args.self.now c.args.name.now c.args.parent _ c.base_of-base.ensures c.in_default.ensures c.in-Some-base_alias.number c.in-Some-base_alias.ensures

pub returns-then-has_mailbox_among : goal.returns-then-has_mailbox_among
returns-then-has_mailbox_among c =
    resolved_mailbox c.args.self.now c.args.name.now c.args.parent _ c.base_of-base.ensures
    (no_alias_with c.args.self.now c.args.name.now c.args.parent _ c.in_default.ensures c.in_default-base_alias.ensures) c.if-has_mailbox_among.ensures

pub returns-else-has_mailbox_among : goal.returns-else-has_mailbox_among
returns-else-has_mailbox_among c =
    resolved_missing c.args.self.now c.args.name.now c.args.parent _ c.base_of-base.ensures
    (no_alias_with c.args.self.now c.args.name.now c.args.parent _ c.in_default.ensures c.in_default-base_alias.ensures) c.if-has_mailbox_among.ensures
