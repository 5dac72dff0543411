use Rattle.std.proofs.Common.{take, map, Some}
use Rattle.std.specs.Prelude.{All}
use Rattle.relay_trails.specs.Answers.{AreAnswers}
use Rattle.relay_trails.specs.Trails.{HasNodes}
use Rattle.relay_trails.proofs.answering.answers.Given as goal

abbrev pub invariant-loop-place : goal.invariant-loop-place
invariant-loop-place l = record {
  answers : AreAnswers (take l.place l.pairs) l.pairs (map Some l.numbers) l.steps l.node l.found.items;
  nodes : All (HasNodes l.graph) l.found.items;
}
