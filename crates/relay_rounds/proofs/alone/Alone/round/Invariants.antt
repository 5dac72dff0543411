use Rattle.relay_rounds.proofs.Search.{IsPartly}
use Rattle.relay_rounds.proofs.alone.Alone.round.Given as goal

abbrev pub invariant-loop-place : goal.invariant-loop-place
invariant-loop-place g l = IsPartly (g.S.Steps.next_keys l.self.steps.now) (g.S.Steps.key_bound l.self.steps.now) l.self.limit l.initial.settled l.keys l.settled l.offered.items l.place
