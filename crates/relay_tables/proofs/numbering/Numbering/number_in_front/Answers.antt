use Rattle.std.proofs.Common.{arith, ◌≡◌, ap}
use Rattle.relay_tables.specs.declared.node.Node.TheVariants.{Alias, Include}
use Rattle.relay_tables.specs.Numbering.{node_of}
use Rattle.relay_tables.proofs.Numbers.{alias_at, include_at, no_entry, other_behind}
use Rattle.relay_tables.proofs.numbering.Numbering.number_in_front.Goals as goal

pub returns-then-number-self-clause-found : goal.returns-then-number-self-clause-found
returns-then-number-self-clause-found c =
    let i = c.self.inside in
    let leads : node_of c.args.lead ≡ Alias c.in-Alias.number = ap node_of c.in-Alias.is in
    rw (leads, ← c.self.view_is) (alias_at i.nodes.items i.entries.aliases i.entries.includes i.limit i.key i.hashes c.self.invariant c.in-Alias.number c.if-number-self.true)

pub returns-then-number-self-2-clause-found : goal.returns-then-number-self-2-clause-found
returns-then-number-self-2-clause-found c =
    let i = c.self.inside in
    let leads : node_of c.args.lead ≡ Include c.in-Include.number = ap node_of c.in-Include.is in
    rw (leads, ← c.self.view_is) (include_at i.nodes.items i.entries.aliases i.entries.includes i.limit i.key i.hashes c.self.invariant c.in-Include.number c.if-number-self-2.true)

pub returns-else-number-self-clause-behind : goal.returns-else-number-self-clause-behind
returns-else-number-self-clause-behind c =
    let i = c.self.inside in
    let leads : node_of c.args.lead ≡ Alias c.in-Alias.number = ap node_of c.in-Alias.is in
    rw (leads, ← c.self.view_is) (λ e. no_entry i.entries.aliases i.entries.includes (Alias c.in-Alias.number) (omega (arith, c.if-number-self.false)))

pub returns-else-number-self-2-clause-behind : goal.returns-else-number-self-2-clause-behind
returns-else-number-self-2-clause-behind c =
    let i = c.self.inside in
    let leads : node_of c.args.lead ≡ Include c.in-Include.number = ap node_of c.in-Include.is in
    rw (leads, ← c.self.view_is) (λ e. no_entry i.entries.aliases i.entries.includes (Include c.in-Include.number) (omega (arith, c.if-number-self-2.false)))

pub returns-in_default : goal.returns-in_default
returns-in_default c =
    let i = c.self.inside in
    record { found = tt; behind = rw (← c.self.view_is) (λ e. other_behind i.entries.aliases i.entries.includes c.args.lead c.in_default.not-Alias c.in_default.not-Include) }
