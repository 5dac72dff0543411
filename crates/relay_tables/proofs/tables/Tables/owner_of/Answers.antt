use Rattle.std.proofs.Common.{◌<◌, None, length, get_or, sym, ap, ◌∙◌}
use Rattle.std.proofs.lemmas.Bool.{ltb-true, ltb-false}
use Rattle.std.proofs.lemmas.List.{get_or_read, get_or_past}
use Rattle.relay_tables.proofs.Owned.{owner_found}
use Rattle.relay_tables.proofs.tables.Tables.owner_of.Goals as goal

pub returns-in-Some : goal.returns-in-Some
returns-in-Some c =
    let i = c.self.inside in
    let found = c.in-Some.ensures.lookup in
    let below : c.args.alias < length i.aliases = rw (← c.self.view_is) at c.requires in
    let within = ltb-true c.args.alias (length c.deref.result.now) (sym found.0) in
    rw (← c.self.view_is)
    (get_or_read c.deref.result.now c.args.alias c.in-Some.owner.now within found.1 None
    ∙ ap (λ os. get_or os c.args.alias None) c.deref.ensures.value
    ∙ owner_found i.aliases i.indices.owners.items c.args.alias c.self.invariant.owners below)

pub returns-in-None : goal.returns-in-None
returns-in-None c =
    let i = c.self.inside in
    let below : c.args.alias < length i.aliases = rw (← c.self.view_is) at c.requires in
    let past = ltb-false c.args.alias (length c.deref.result.now) (sym c.in-None.ensures.lookup.0) in
    rw (← c.self.view_is)
    (sym (get_or_past c.deref.result.now c.args.alias None past)
    ∙ ap (λ os. get_or os c.args.alias None) c.deref.ensures.value
    ∙ owner_found i.aliases i.indices.owners.items c.args.alias c.self.invariant.owners below)
