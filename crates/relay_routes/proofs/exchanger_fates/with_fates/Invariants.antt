use Rattle.relay_routes.proofs.FateFacts.{AreFated}
use Rattle.relay_routes.proofs.exchanger_fates.with_fates.Given as goal

-- what became of the exchangers so far, and their keys
abbrev pub invariant-loop-numbered : goal.invariant-loop-numbered
invariant-loop-numbered l = AreFated l.own_names l.fn.exchangers.items l.yielded l.lines.items l.seen
