use Rattle.std.proofs.Common.{◌≡◌, ◌<◌, length, get_or, sym, ap, ◌∙◌, subst, arith}
use Rattle.std.proofs.lemmas.Grind.{get_or_default_zero}
use Rattle.std.proofs.lemmas.List.Elements.{Contains-get_or}
use Rattle.relay_loops.specs.Places.{near_numbers}
use Rattle.relay_loops.specs.Searches.{AreTaken}
use Rattle.relay_loops.proofs.Searching.{walked_none, walked_more}
use Rattle.relay_loops.proofs.spreading.walk.Goals as goal

pub near-requires : goal.near-requires
near-requires c =
    let found = c.loop-passed.found.items in
    let passed = c.loop-passed.passed in
    let below : passed < length found = omega arith in
    let node : get_or found passed 0 ≡ c.index-node.result.now = sym (get_or_default_zero found passed c.index-node.result.now below) ∙ sym c.index-node.ensures in
    let inside : get_or found passed 0 < length c.loop-passed.places = c.loop-passed.invariant.walked.within (get_or found passed 0) (Contains-get_or found passed 0 below) in
    omega arith

pub loop-passed-init : goal.loop-passed-init
loop-passed-init c = record {
  places = c.requires.places;
  walked = walked_none c.args.graph.now c.args.direction c.args.places.now c.args.found.now.items c.requires.within;
}

pub loop-passed-preserved : goal.loop-passed-preserved
loop-passed-preserved c =
    let found = c.loop-passed.found.items in
    let passed = c.loop-passed.passed in
    let below : passed < length found = omega arith in
    let node : get_or found passed 0 ≡ c.index-node.result.now = sym (get_or_default_zero found passed c.index-node.result.now below) ∙ sym c.index-node.ensures in
    let near : c.near.result.now ≡ near_numbers c.args.graph.now c.args.direction (get_or found passed 0) = c.near.ensures ∙ ap (near_numbers c.args.graph.now c.args.direction) (sym node) in
    let taken : AreTaken c.args.direction (near_numbers c.args.graph.now c.args.direction (get_or found passed 0)) c.loop-passed.places c.take_all.new.places found c.take_all.new.found.items =
    subst (λ l. AreTaken c.args.direction l c.loop-passed.places c.take_all.new.places found c.take_all.new.found.items) near c.in_ok-take_all.ensures in
    record {
      places = record { numbers = omega (arith, c.loop-passed.invariant.places.numbers); in_graph = omega (arith, c.loop-passed.invariant.places.in_graph) };
      walked = walked_more c.args.graph.now c.args.direction passed c.args.places.now c.loop-passed.places c.take_all.new.places c.args.found.now.items found c.take_all.new.found.items c.loop-passed.invariant.walked (omega arith) taken;
    }
