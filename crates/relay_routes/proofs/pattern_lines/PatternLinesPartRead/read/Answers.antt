use Rattle.std.proofs.Common.{arith, ◌≡◌, ◌≤◌, ◌++◌, ◌∷◌, ℕ, List, map, All, length, refl, sym, ap, ◌∙◌, subst}
use Rattle.std.specs.Prelude.{filter_map, flat_map}
use Rattle.relay_text.specs.Lines.{logical_lines_of}
use Rattle.relay_text.specs.declared.lines.Line.{Line}
use Rattle.relay_text.specs.declared.lines.Lines.{Lines}
use Rattle.relay_halves.specs.Halves.{moved, AreUpTo}
use Rattle.relay_halves.proofs.HalvedLogicalLines.{up_to-orphans, up_to-logical_lines}
use Rattle.relay_routes.specs.PatternLines.{entry_of, bad_in}
use Rattle.relay_routes.specs.declared.fault.LineFault.{LineFault}
use Rattle.relay_routes.specs.declared.transport_line.TransportLine.{TransportLine}
use Rattle.relay_routes.proofs.LinesMore.{entries_more, faults_more}
use Rattle.relay_routes.proofs.pattern_lines.PatternLinesPartRead.read.Goals as goal

pub add_orphans-requires : goal.add_orphans-requires
add_orphans-requires c =
    let most = length c.args.bytes.now in
    let these : c.orphans.result.now ≡ (logical_lines_of c.args.bytes.now).orphans = c.orphans.ensures ∙ ap (λ (lines : Lines). lines.orphans) c.in_ok-lines.ensures in
    let low = subst (λ (numbers : List ℕ). All (λ n. n ≤ most) numbers) (sym these) (up_to-orphans c.args.bytes.now) in
    λ k d within. omega (arith, low k d within, c.requires)

pub loop-joined-init : goal.loop-joined-init
loop-joined-init c =
    record {
      entries = rw (c.in_ok-add_orphans.ensures.entries, c.in_ok-entries.ensures.items, c.in_ok-lines.ensures) refl;
      faults = rw (c.in_ok-add_orphans.ensures.faults, c.new-faults.ensures.items, c.orphans.ensures, c.in_ok-lines.ensures) refl;
      numbers = subst (λ (lines : Lines). AreUpTo (length c.args.bytes.now) lines.lines) (sym c.in_ok-lines.ensures) (up_to-logical_lines c.args.bytes.now);
    }

pub loop-joined-preserved : goal.loop-joined-preserved
loop-joined-preserved c =
    let passed = c.args.passed in
    let l : Line = record { number = c.in-Some.line.number; text = c.in-Some.line.text.now } in
    let next = c.next_line.new.self.lines in
    let left : c.loop-joined.lines.lines ≡ l ∷ next = rw c.in-Some.is at c.in_ok-line.ensures.some in
    record {
      entries = ap (λ (es : List TransportLine). es ++ filter_map entry_of (map (moved passed) next)) c.in_ok-add_line.ensures.entries
          ∙ entries_more passed c.loop-joined.said.entries.items l next
          ∙ ap (λ (ls : List Line). c.loop-joined.said.entries.items ++ filter_map entry_of (map (moved passed) ls)) (sym left)
          ∙ c.loop-joined.invariant.entries;
      faults = ap (λ (fs : List LineFault). fs ++ flat_map bad_in (map (moved passed) next)) c.in_ok-add_line.ensures.faults
          ∙ faults_more passed c.loop-joined.said.faults.items l next
          ∙ ap (λ (ls : List Line). c.loop-joined.said.faults.items ++ flat_map bad_in (map (moved passed) ls)) (sym left)
          ∙ c.loop-joined.invariant.faults;
      numbers = (subst (λ (ls : List Line). AreUpTo (length c.args.bytes.now) ls) left c.loop-joined.invariant.numbers).1;
    }
