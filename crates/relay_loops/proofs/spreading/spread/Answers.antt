use Rattle.std.proofs.Common.{ℕ, List, [], subst, arith}
use Rattle.relay_loops.specs.Searches.{AreTaken}
use Rattle.relay_loops.proofs.Searching.{spread_on, spread_walked}
use Rattle.relay_loops.proofs.spreading.spread.Goals as goal

pub walk-requires-clause-within : goal.walk-requires-clause-within
walk-requires-clause-within g c =
    let d = c.args.direction in
    let taken : AreTaken d c.args.starts.now c.args.places.now c.take_all.new.places [] c.take_all.new.found.items =
    subst (λ (l : List ℕ). AreTaken d c.args.starts.now c.args.places.now c.take_all.new.places l c.take_all.new.found.items) c.clear.ensures.items c.in_ok-take_all.ensures in
    taken.within (λ n none. absurd (omega (arith, none.1)))

pub returns-in_ok-go_on : goal.returns-in_ok-go_on
returns-in_ok-go_on g c =
    let d = c.args.direction in
    let taken : AreTaken d c.args.starts.now c.args.places.now c.take_all.new.places [] c.take_all.new.found.items =
    subst (λ (l : List ℕ). AreTaken d c.args.starts.now c.args.places.now c.take_all.new.places l c.take_all.new.found.items) c.clear.ensures.items c.in_ok-take_all.ensures in
    spread_on c.args.graph.now d c.args.starts.now c.args.places.now c.take_all.new.places c.take_all.new.found.items c.requires.none_met taken c.in_ok-passed.passed c.walk.new.places c.walk.new.found.items c.in_ok-passed.ensures c.go_on.new.places c.go_on.new.found.items c.in_ok-go_on.ensures

pub returns-else-passed-len : goal.returns-else-passed-len
returns-else-passed-len g c =
    let d = c.args.direction in
    let taken : AreTaken d c.args.starts.now c.args.places.now c.take_all.new.places [] c.take_all.new.found.items =
    subst (λ (l : List ℕ). AreTaken d c.args.starts.now c.args.places.now c.take_all.new.places l c.take_all.new.found.items) c.clear.ensures.items c.in_ok-take_all.ensures in
    spread_walked c.args.graph.now d c.args.starts.now c.args.places.now c.take_all.new.places c.take_all.new.found.items c.requires.none_met taken c.in_ok-passed.passed c.walk.new.places c.walk.new.found.items c.in_ok-passed.ensures (omega arith)
