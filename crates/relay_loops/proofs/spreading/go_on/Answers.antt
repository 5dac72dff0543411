use Rattle.std.proofs.Common.{◌-◌, ◌<◌, ℕ, List, All, length, take, drop, sym, subst}
use Rattle.relay_rounds.specs.Closures.{IsClosureOf}
use Rattle.relay_loops.specs.Places.{near_numbers, open_keys}
use Rattle.relay_loops.specs.Searches.{AreTaken, HasGoneOn}
use Rattle.relay_loops.proofs.Closing.{all_within, closed_below, on_ok}
use Rattle.relay_loops.proofs.Searching.{gone_on, rest_is, rest_within}
use Rattle.relay_loops.proofs.spreading.go_on.Goals as goal

pub reach_open-requires-clause-within : goal.reach_open-requires-clause-within
reach_open-requires-clause-within g c κs within =
    rest_within c.args.places.now c.args.found.now.items c.deref.result.now c.args.passed c.deref.ensures.value c.requires.within

pub take_keys-requires-clause-below : goal.take_keys-requires-clause-below
take_keys-requires-clause-below g c =
    let places = c.args.places.now in
    let rest = take (length c.deref.result.now - c.args.passed) (drop c.args.passed c.deref.result.now) in
    let within = all_within places rest (rest_within places c.args.found.now.items c.deref.result.now c.args.passed c.deref.ensures.value c.requires.within) in
    subst (λ (l : List ℕ). All (λ n. n < length places) l) (sym c.deref-2.ensures.value) (closed_below c.args.graph.now c.args.direction places rest within c.in_ok-keys.keys.items c.in_ok-keys.ensures)

pub returns : goal.returns
returns g c =
    let graph = c.args.graph.now in
    let d = c.args.direction in
    let old = c.args.places.now in
    let new = c.take_keys.new.places in
    let before = c.args.found.now.items in
    let found = c.take_keys.new.found.items in
    let keys = c.deref-2.result.now in
    let closed_rest : IsClosureOf (λ key. open_keys d old key (near_numbers graph d key)) (drop c.args.passed before) c.in_ok-keys.keys.items =
    subst (λ (l : List ℕ). IsClosureOf (λ key. open_keys d old key (near_numbers graph d key)) l c.in_ok-keys.keys.items) (rest_is before c.deref.result.now c.args.passed c.deref.ensures.value) c.in_ok-keys.ensures in
    let closed : IsClosureOf (λ key. open_keys d old key (near_numbers graph d key)) (drop c.args.passed before) keys =
    subst (λ (l : List ℕ). IsClosureOf (λ key. open_keys d old key (near_numbers graph d key)) (drop c.args.passed before) l) (sym c.deref-2.ensures.value) closed_rest in
    on_ok c.take_keys.result (AreTaken d keys old new before found) (HasGoneOn graph d c.args.passed old new before found)
    (λ taken. gone_on graph d c.args.passed old new before keys found closed taken) c.take_keys.ensures
