use Rattle.std.proofs.Common.{◌≡◌, [], List, rules, subst}
use Rattle.relay_expansion.specs.declared.walk.Visit.{Visit}
use Rattle.relay_expansion.specs.Rows.{Walks}
use Rattle.relay_expansion.proofs.walk.Walk.walk_from.Goals as goal

pub returns-clause-walks : goal.returns-clause-walks
returns-clause-walks c = λ asked before.
    let g = c.args.graph.now in
    let entered : Walks g asked c.enter.new.self.standings.items c.enter.new.self.path.items c.enter.new.self.rows.items = rw (c.in_ok-enter.ensures.standings, c.in_ok-enter.ensures.path, c.in_ok-enter.ensures.rows) before in
    let empty : c.loop-last.self.path.items ≡ [] = search rules in
    subst (λ (path : List Visit). Walks g asked c.loop-last.self.standings.items path c.loop-last.self.rows.items) empty (c.loop-last.invariant.walks asked entered)
