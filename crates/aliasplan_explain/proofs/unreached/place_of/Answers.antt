use Rattle.aliasplan_explain.proofs.UnreachedFacts.{place_of_alias, place_of_include, no_place}
use Rattle.aliasplan_explain.proofs.unreached.place_of.Goals as goal

pub returns-in-Alias-clause-some : goal.returns-in-Alias-clause-some
returns-in-Alias-clause-some c = place_of_alias c.args.tables.now c.args.node.now c.in-Alias.number c.in-Alias.is c.requires

pub returns-in-Include-clause-some : goal.returns-in-Include-clause-some
returns-in-Include-clause-some c = rw c.aliases.ensures.entries (place_of_include c.args.tables.now c.args.node.now c.in-Include.number c.in-Include.is c.requires)

pub returns-in_default : goal.returns-in_default
returns-in_default c = record { some = tt; none = λ e. no_place c.args.tables.now c.args.node.now c.in_default.not-Alias c.in_default.not-Include }
