use Rattle.std.proofs.Common.{length}
use Rattle.relay_text.specs.Lines.{kept_lines}
use Rattle.relay_text.specs.KeptLines.{kept_rest}
use Rattle.relay_routes.specs.ExchangerLines.{HasRead}
use Rattle.relay_routes.proofs.exchanger_fates.DomainLines.read.Given as goal

abbrev pub invariant-loop-line : goal.invariant-loop-line
invariant-loop-line l = HasRead l.domain (kept_lines l.table) (kept_rest l.lines) l.found.exchangers.items l.found.address

abbrev pub decreases-loop-line : goal.decreases-loop-line
decreases-loop-line l = length (kept_rest l.lines)
