use Rattle.std.proofs.Common.{◌≡◌, ◌<◌, ℕ, true, false, List, All, length, get_or, sym, ap, ◌∙◌, subst, arith}
use Rattle.relay_loops.specs.declared.direction.Direction.TheVariants.{Onward}
use Rattle.relay_tables.specs.Graphs.{child_numbers}
use Rattle.relay_loops.specs.Places.{is_ahead, place_at, settled, IsChangedAt}
use Rattle.relay_loops.specs.Searches.{IsSpread}
use Rattle.relay_loops.proofs.Judging.{found_within, around_judged, cleared_pivot}
use Rattle.relay_loops.proofs.Placing.{left-below}
use Rattle.relay_loops.proofs.dividing.divide.Goals as goal

pub settle_ahead-requires : goal.settle_ahead-requires
settle_ahead-requires g c =
    let within = subst (λ (l : List ℕ). All (λ n. n < length c.spread.new.places) l) (sym c.deref.ensures.value)
    (found_within c.args.graph.now Onward c.children-children.result.now c.args.places.now c.spread.new.places c.spread.new.found.items c.in_ok-spread.ensures) in
    λ k d inside. let below : get_or c.deref.result.now k d < length c.spread.new.places = within k d inside in omega arith

pub settle_ahead-requires-else-is_ahead : goal.settle_ahead-requires-else-is_ahead
settle_ahead-requires-else-is_ahead g c =
    subst (λ (l : List ℕ). All (λ n. n < length c.spread.new.places) l) (sym c.deref-else-is_ahead.ensures.value)
    (found_within c.args.graph.now Onward c.children-children.result.now c.args.places.now c.spread.new.places c.spread.new.found.items c.in_ok-spread.ensures)

pub returns-in_ok-spread-2-clause-judged : goal.returns-in_ok-spread-2-clause-judged
returns-in_ok-spread-2-clause-judged g c =
    let graph = c.args.graph.now in
    let old = c.args.places.now in
    let mid = c.spread.new.places in
    let late = c.spread-then-is_ahead.new.places in
    let ahead = c.spread.new.found.items in
    let onward : IsSpread graph Onward (child_numbers graph c.args.pivot) old mid ahead = subst (λ (l : List ℕ). IsSpread graph Onward l old mid ahead) c.children-children.ensures c.in_ok-spread.ensures in
    let met : is_ahead (place_at mid c.args.pivot) ≡ true = ap is_ahead (sym c.place_of.ensures) ∙ sym c.if-is_ahead.ensures in
    let changed : IsChangedAt settled ahead late c.settle_ahead.new.places = subst (λ (l : List ℕ). IsChangedAt settled l late c.settle_ahead.new.places) c.deref.ensures.value c.settle_ahead.ensures in
    around_judged graph c.args.pivot old mid ahead c.requires.resting c.requires.left onward late c.settle_ahead.new.places c.spread-then-is_ahead.new.found.items (omega (arith, c.requires.places.in_graph)) (omega arith) met c.in_ok-spread-2.ensures changed

pub returns-else-is_ahead-clause-resting : goal.returns-else-is_ahead-clause-resting
returns-else-is_ahead-clause-resting g c =
    let graph = c.args.graph.now in
    let old = c.args.places.now in
    let mid = c.spread.new.places in
    let before = c.settle_ahead-else-is_ahead.new.places in
    let ahead = c.spread.new.found.items in
    let onward : IsSpread graph Onward (child_numbers graph c.args.pivot) old mid ahead = subst (λ (l : List ℕ). IsSpread graph Onward l old mid ahead) c.children-children.ensures c.in_ok-spread.ensures in
    let alone : is_ahead (place_at mid c.args.pivot) ≡ false = ap is_ahead (sym c.place_of.ensures) ∙ sym c.if-is_ahead.ensures in
    let changed : IsChangedAt settled ahead mid before = subst (λ (l : List ℕ). IsChangedAt settled l mid before) c.deref-else-is_ahead.ensures.value c.settle_ahead-else-is_ahead.ensures in
    let inside : c.args.pivot < length old = left-below old c.args.pivot c.requires.left in
    let below : c.args.pivot < length before = omega arith in
    (cleared_pivot graph c.args.pivot old mid before ahead c.requires.resting c.requires.left below onward alone changed).resting

pub returns-else-is_ahead-clause-judged : goal.returns-else-is_ahead-clause-judged
returns-else-is_ahead-clause-judged g c =
    let graph = c.args.graph.now in
    let old = c.args.places.now in
    let mid = c.spread.new.places in
    let before = c.settle_ahead-else-is_ahead.new.places in
    let ahead = c.spread.new.found.items in
    let onward : IsSpread graph Onward (child_numbers graph c.args.pivot) old mid ahead = subst (λ (l : List ℕ). IsSpread graph Onward l old mid ahead) c.children-children.ensures c.in_ok-spread.ensures in
    let alone : is_ahead (place_at mid c.args.pivot) ≡ false = ap is_ahead (sym c.place_of.ensures) ∙ sym c.if-is_ahead.ensures in
    let changed : IsChangedAt settled ahead mid before = subst (λ (l : List ℕ). IsChangedAt settled l mid before) c.deref-else-is_ahead.ensures.value c.settle_ahead-else-is_ahead.ensures in
    let inside : c.args.pivot < length old = left-below old c.args.pivot c.requires.left in
    let below : c.args.pivot < length before = omega arith in
    (cleared_pivot graph c.args.pivot old mid before ahead c.requires.resting c.requires.left below onward alone changed).judged
