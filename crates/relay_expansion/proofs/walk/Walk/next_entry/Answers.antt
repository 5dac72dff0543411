use Rattle.std.proofs.Common.{◌≡◌, ◌∙◌, ◌<◌, ◌≤◌, ℕ, Some, length, slice_get, slice_index, sym, subst, List}
use Rattle.std.proofs.lemmas.Option.{slice_get-get_or}
use Rattle.relay_tables.specs.GraphParts.{GraphParts}
use Rattle.relay_tables.specs.Graphs.{child_numbers}
use Rattle.relay_expansion.specs.Rows.{leaves}
use Rattle.relay_expansion.proofs.WalkFacts.{met_by, met_in}
use Rattle.relay_expansion.proofs.walk.Walk.next_entry.Goals as goal

member : (g : GraphParts) (members : List ℕ) (entry at : ℕ) → members ≡ child_numbers g entry → at < length members → slice_get (child_numbers g entry) at ≡ Some (slice_index members at)
member g members entry at same below = subst (λ (l : List ℕ). slice_get l at ≡ Some (slice_index members at)) same (slice_get-get_or members at _ below)

pub returns-then-branch-clause-walks : goal.returns-then-branch-clause-walks
returns-then-branch-clause-walks c = λ asked before.
    let g = c.args.graph.now in
    let row = rw (c.loop-at.invariant.standings, c.loop-at.invariant.path) at c.in_ok-meet.ensures.row in
    let goes = rw c.loop-at.invariant.standings at c.in_ok-meet.ensures.goes in
    let is = member g c.args.members.now c.args.last.node c.loop-at.at c.requires.members c.loop-at-test.true in
    met_in g asked c.args.self.now.standings.items c.args.self.now.path.items c.loop-at.self.rows.items c.meet.new.self.rows.items c.args.last.node c.loop-at.at (slice_index c.args.members.now c.loop-at.at) (c.loop-at.invariant.walks asked before) is (sym goes ∙ c.if-branch.true) row

pub loop-at-preserved : goal.loop-at-preserved
loop-at-preserved c =
    let g = c.args.graph.now in
    let row = rw (c.loop-at.invariant.standings, c.loop-at.invariant.path) at c.in_ok-meet.ensures.row in
    let goes = rw c.loop-at.invariant.standings at c.in_ok-meet.ensures.goes in
    let is = member g c.args.members.now c.args.last.node c.loop-at.at c.requires.members c.loop-at-test.true in
    record {
      told = c.in_ok-meet.ensures.told;
      standings = c.in_ok-meet.ensures.standings ∙ c.loop-at.invariant.standings;
      path = c.in_ok-meet.ensures.path ∙ c.loop-at.invariant.path;
      walks = λ asked before. met_by g asked c.args.self.now.standings.items c.args.self.now.path.items c.loop-at.self.rows.items c.meet.new.self.rows.items c.args.last.node c.loop-at.at (slice_index c.args.members.now c.loop-at.at) (c.loop-at.invariant.walks asked before) is (sym goes ∙ c.if-branch.false) row;
    }

pub returns-clause-walks : goal.returns-clause-walks
returns-clause-walks c = λ asked before.
    let left : length (child_numbers c.args.graph.now c.args.last.node) ≤ c.loop-at.at = subst (λ (l : List ℕ). length l ≤ c.loop-at.at) c.requires.members c.loop-at-test.false in
    leaves asked c.args.self.now.standings.items c.args.self.now.path.items c.loop-at.self.rows.items c.args.last.node c.loop-at.at (c.loop-at.invariant.walks asked before) left
