use Rattle.std.proofs.Common.{◌≡◌, ◌++◌, length}
use Rattle.std.specs.Prelude.{filter_map}
use Rattle.relay_text.specs.Lines.{logical_lines_of}
use Rattle.relay_routes.specs.DecidingLines.{good_line_in}
use Rattle.relay_routes.proofs.deciding.good_lines.Given as goal

-- the good lines so far, with those among the lines left, are all
abbrev pub invariant-loop-good : goal.invariant-loop-good
invariant-loop-good l = l.good.items ++ filter_map good_line_in l.lines.lines ≡ filter_map good_line_in (logical_lines_of l.table).lines

abbrev pub decreases-loop-good : goal.decreases-loop-good
decreases-loop-good l = length l.lines.lines
