use Rattle.std.proofs.Common.{◌≡◌, ℕ, ◌<◌, List, Option, length, get_or, sym, ap, ◌∙◌, subst, arith}
use Rattle.std.proofs.lemmas.List.{get_or_read}
use Rattle.std.proofs.lemmas.Option.{slice_get_within}
use Rattle.relay_tables.specs.GraphParts.{GraphParts}
use Rattle.relay_tables.specs.Graphs.{child_numbers, sender_number_after}
use Rattle.relay_trails.specs.declared.step.Link.TheVariants.{Item}
use Rattle.relay_pairs.specs.declared.reached.Reached.{Reached}
use Rattle.relay_trails.specs.declared.step.Step.{Step}
use Rattle.relay_trails.specs.Searches.{IsSearch, pair_in}
use Rattle.relay_trails.specs.Steps.{no_step, place_at}
use Rattle.relay_trails.proofs.Taking.{kept_trans, taken_kept}
use Rattle.relay_trails.proofs.Going.{child_listed, child_taken, children_end}
use Rattle.relay_trails.proofs.Marking.{marks_long, numbers_after}
use Rattle.relay_trails.proofs.search.Search.take_items.Goals as goal

place_read : (steps : List Step) (k : ℕ) (s : Step) → k < length steps → s ≡ get_or steps k s → place_at steps k ≡ s.place
place_read steps k s h e = ap (λ (x : Step). x.place) (sym (get_or_read steps k s h e no_step))

-- a step has the pair of its place
pair_read : (g : GraphParts) (pairs : List Reached) (found : List (Option ℕ)) (steps : List Step) → IsSearch g pairs found steps → (k : ℕ) (s : Step) → k < length steps → s ≡ get_or steps k s → s.pair ≡ pair_in pairs s.place
pair_read g pairs found steps search k s h e =
    ap (λ (x : Step). x.pair) (get_or_read steps k s h e no_step) ∙ search.pairs_are k h ∙ ap (pair_in pairs) (place_read steps k s h e)

pub place_of-place-requires-clause-listed : goal.place_of-place-requires-clause-listed
place_of-place-requires-clause-listed c =
    let s = c.index.result.now in
    let here = place_read c.args.self.now.steps.items c.args.from s c.requires.from c.index.ensures in
    let inside = subst (λ (p : ℕ). p < length c.args.pairs.now) here (c.requires.before.at.search.places c.args.from c.requires.from).0 in
    let g = c.args.graph.now in
    let before = c.requires.before in
    let same = pair_read g c.args.pairs.now before.found c.args.self.now.steps.items before.at.search c.args.from s c.requires.from c.index.ensures in
    let after = c.sender_after-sender.ensures ∙ ap (λ (p : Reached). sender_number_after g p.sender p.node) same in
    let row = c.children-node-items.ensures ∙ ap (λ (p : Reached). child_numbers g p.node) same in
    child_listed g c.args.pairs.now c.requires.pairs s.place inside c.sender_after-sender.result after c.children-node-items.result.now row c.loop-item.item (omega arith)

pub take-requires : goal.take-requires
take-requires c =
    let inside = slice_get_within c.args.pairs.now c.place_of-place.result _ c.place_of-place.ensures in
    omega (arith, inside, marks_long c.args.graph.now c.args.pairs.now c.loop-item.self.marks.items c.loop-item.self.steps.items (Item c.args.from c.loop-item.item) c.loop-item.invariant.at)

pub loop-item-preserved : goal.loop-item-preserved
loop-item-preserved c =
    let k = c.args.from in
    let i = c.loop-item.item in
    let s = c.index.result.now in
    let before = c.args.self.now.steps.items in
    let steps = c.loop-item.self.steps.items in
    let kept = c.loop-item.invariant.kept in
    let below : k < length steps = omega (arith, c.requires.from, kept.longer) in
    let here = kept.places k c.requires.from ∙ place_read before k s c.requires.from c.index.ensures in
    let m = c.loop-item.invariant.at in
    let g = c.args.graph.now in
    let same = pair_read g c.args.pairs.now c.requires.before.found before c.requires.before.at.search k s c.requires.from c.index.ensures in
    let sender = c.sender_after-sender.ensures ∙ ap (λ (p : Reached). sender_number_after g p.sender p.node) same in
    let row = c.children-node-items.ensures ∙ ap (λ (p : Reached). child_numbers g p.node) same in
    let place = c.place_of-place.result in
    let steps_after = c.take.new.self.steps.items in
    let child : Reached = record { sender = c.sender_after-sender.result; node = get_or c.children-node-items.result.now i 0 } in
    let inside = slice_get_within c.args.pairs.now place _ c.place_of-place.ensures in
    let after = numbers_after c.args.graph.now c.args.pairs.now c.loop-item.self.marks.items steps (Item k i) m place child inside c.take.new.self.marks.items steps_after c.in_ok-take.ensures in
    record {
      at = record {
        found = after.0;
        marked = after.1;
        at =
            child_taken g c.args.pairs.now m.found steps k i place s.place below m.at here
            c.sender_after-sender.result sender c.children-node-items.result.now row (omega arith) c.place_of-place.ensures
            after.0 steps_after after.2;
      };
      kept = kept_trans before steps steps_after kept (taken_kept place child (Item k i) m.found steps after.0 steps_after after.2);
    }

pub returns-clause-after : goal.returns-clause-after
returns-clause-after c =
    let k = c.args.from in
    let s = c.index.result.now in
    let before = c.args.self.now.steps.items in
    let steps = c.loop-item.self.steps.items in
    let kept = c.loop-item.invariant.kept in
    let below : k < length steps = omega (arith, c.requires.from, kept.longer) in
    let here = kept.places k c.requires.from ∙ place_read before k s c.requires.from c.index.ensures in
    let m = c.loop-item.invariant.at in
    let g = c.args.graph.now in
    let same = pair_read g c.args.pairs.now c.requires.before.found before c.requires.before.at.search k s c.requires.from c.index.ensures in
    let row = c.children-node-items.ensures ∙ ap (λ (p : Reached). child_numbers g p.node) same in
    record {
      found = m.found;
      marked = m.marked;
      at = children_end g c.args.pairs.now m.found steps k c.loop-item.item s.place below m.at here c.children-node-items.result.now row (omega arith);
    }
