use Rattle.std.proofs.Common.{◌<◌, ℕ, List, length, All, IsTrue, sym, subst}
use Rattle.relay_text.specs.Bytes.{has_text}
use Rattle.relay_wire.specs.declared.finding.Place.TheVariants as places
use Rattle.relay_planning.specs.Report.{IsLineOf, entries}
use Rattle.relay_planning.specs.Entries.{HaveLine, IsTargetLine, IsNodeLine, IsLoopLine}
use Rattle.relay_planning.proofs.EntryFacts.{three_parts}
use Rattle.relay_planning.proofs.NumberFacts.{leads_within}
use Rattle.relay_planning.proofs.FindingFacts.{loops_within, lines_are}
use Rattle.relay_planning.proofs.entries.report_entries.Goals as goal

pub report_targets-requires : goal.report_targets-requires
report_targets-requires g c =
    let within = leads_within _ _ _ _ c.requires.graph in
    subst (λ (ns : List ℕ). All (λ n. n < length c.args.graph.now.nodes) ns) (sym c.roots.ensures) within.roots

pub report_nodes-requires-clause-graph : goal.report_nodes-requires-clause-graph
report_nodes-requires-clause-graph g c = leads_within _ _ _ _ c.requires.graph

pub report_loops-requires : goal.report_loops-requires
report_loops-requires g c = loops_within c.args.job.now c.args.graph.now c.args.reach.now.nodes.now c.args.reach.now.loops.now c.requires.graph c.requires.nodes c.requires.loops

pub returns : goal.returns
returns g c =
    let g = c.args.graph.now in
    let lines : List (List ℕ) → List ℕ → Type 0 = λ set q. IsTrue (has_text set q) in
    three_parts c.report_loops.result (lines c.args.lines.now) (lines c.report_targets.new.lines) (lines c.report_nodes.new.lines) (lines c.report_loops.new.lines)
    (HaveLine (IsTargetLine g places.Envelope) c.roots.result.now) (HaveLine (IsNodeLine g c.args.tables.now) c.args.reach.now.nodes.now) (HaveLine (IsLoopLine g c.args.tables.now) c.args.reach.now.loops.now) (IsLineOf c.args.job.now entries)
    (λ q. c.in_ok-report_targets.ensures q) (λ q. c.in_ok-report_nodes.ensures q) c.report_loops.ensures
    (λ q. lines_are c.args.job.now g c.args.reach.now.nodes.now c.args.reach.now.loops.now c.requires.graph c.requires.nodes c.requires.loops q c.args.tables.now c.roots.result.now c.requires.tables c.roots.ensures)
