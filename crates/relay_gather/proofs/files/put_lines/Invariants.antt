use Rattle.std.proofs.Common.{◌≡◌, ◌++◌, length}
use Rattle.relay_gather.specs.JoinedFiles.{apart}
use Rattle.relay_gather.proofs.files.put_lines.Given as goal

-- the lines that were passed are put
abbrev pub invariant-loop-line : goal.invariant-loop-line
invariant-loop-line l = l.text.items ++ apart l.rest ≡ l.fn.text.items ++ apart l.fn.file

abbrev pub decreases-loop-line : goal.decreases-loop-line
decreases-loop-line l = length l.rest
