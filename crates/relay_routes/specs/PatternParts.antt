-- What was read of both parts of a transport table was read of the whole.
use Rattle.std.proofs.Common.{◌≡◌, ℕ, ◌+◌, List, [], ◌++◌, length, map, refl, sym, ap, ◌∙◌, append_assoc}
use Rattle.std.specs.Prelude.{filter_map, flat_map}
use Rattle.std.proofs.lemmas.List.{map-append}
use Rattle.std.proofs.lemmas.List.Elements.{filter_map-append}
use Rattle.std.proofs.lemmas.Grind.{flat_map-append}
use Rattle.relay_text.specs.Lines.{raw_lines, logical_lines_of}
use Rattle.relay_text.specs.declared.lines.Line.{Line}
use Rattle.relay_halves.specs.Halves.{EndsWithLine, BeginsLogicalLine, moved, lines_behind}
use Rattle.relay_halves.proofs.HalvedLines.{moved_twice}
use Rattle.relay_halves.proofs.HalvedLogicalLines.{no_orphans, lines-halved, orphans-halved}
use Rattle.relay_routes.specs.declared.fault.LineFault.{LineFault}
use Rattle.relay_routes.specs.declared.pattern_lines.PatternLines.{PatternLines}
use Rattle.relay_routes.specs.PatternLines.{AreBoth, AreRead, entry_of, bad_in, orphan_faults}

-- ---- both parts of a text, each behind the lines before it
module _ (passed behind : ℕ) (front back : List ℕ) (ended : EndsWithLine front) (begun : BeginsLogicalLine back) (e : behind ≡ passed + length (raw_lines front)) where
  both-lines : (lines_behind passed (front ++ back)).lines ≡ (lines_behind passed front).lines ++ (lines_behind behind back).lines
  both-lines =
      let count : ℕ = length (raw_lines front) in
      ap (map (moved passed)) (lines-halved front back ended begun)
      ∙ map-append (moved passed) (logical_lines_of front).lines (map (moved count) (logical_lines_of back).lines)
      ∙ ap (λ (lines : List Line). (lines_behind passed front).lines ++ lines) (moved_twice passed count behind (logical_lines_of back).lines (sym e))

  both-orphans : (lines_behind passed (front ++ back)).orphans ≡ (lines_behind passed front).orphans
  both-orphans = ap (map (λ n. passed + n)) (orphans-halved front back ended begun)

  behind-orphans : (lines_behind behind back).orphans ≡ []
  behind-orphans = ap (map (λ n. behind + n)) (no_orphans front back ended begun)

-- the lines of both parts of a text
pub patterns_read_on : (passed behind : ℕ) (front back : List ℕ) (first second both : PatternLines) → EndsWithLine front → BeginsLogicalLine back
    → behind ≡ passed + length (raw_lines front) → AreRead passed front first → AreRead behind back second → AreBoth first second both
    → AreRead passed (front ++ back) both
patterns_read_on passed behind front back first second both ended begun count one two made =
    let here = (lines_behind passed front).lines in
    let there = (lines_behind behind back).lines in
    let orphans = orphan_faults (lines_behind passed front).orphans in
    let lines : (lines_behind passed (front ++ back)).lines ≡ here ++ there = both-lines passed behind front back ended begun count in
    let same : (lines_behind passed (front ++ back)).orphans ≡ (lines_behind passed front).orphans = both-orphans passed behind front back ended begun count in
    let e : first.entries.items ++ second.entries.items ≡ filter_map entry_of here ++ filter_map entry_of there = rw (one.entries, two.entries) refl in
    let alone : second.faults.items ≡ flat_map bad_in there = two.faults ∙ ap (λ (numbers : List ℕ). orphan_faults numbers ++ flat_map bad_in there) (behind-orphans passed behind front back ended begun count) in
    let f : first.faults.items ++ second.faults.items ≡ (orphans ++ flat_map bad_in here) ++ flat_map bad_in there = rw (one.faults, alone) refl in
    record {
      entries = made.0 ∙ e ∙ sym (filter_map-append entry_of here there) ∙ ap (filter_map entry_of) (sym lines);
      faults = made.1 ∙ f ∙ append_assoc orphans (flat_map bad_in here) (flat_map bad_in there)
          ∙ ap (λ (fs : List LineFault). orphans ++ fs) (sym (flat_map-append bad_in here there) ∙ ap (flat_map bad_in) (sym lines))
          ∙ ap (λ (numbers : List ℕ). orphan_faults numbers ++ flat_map bad_in (lines_behind passed (front ++ back)).lines) (sym same);
    }
