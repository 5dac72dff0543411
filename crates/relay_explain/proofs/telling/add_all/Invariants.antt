use Rattle.std.proofs.Common.{◌≡◌, ◌+◌, ◌++◌, length}
use Rattle.std.specs.List.{enumerate_from}
use Rattle.relay_explain.specs.PiecedTexts.{text_so_far}
use Rattle.relay_explain.specs.Tellings.{told_texts}
use Rattle.relay_explain.proofs.telling.add_all.Given as goal

abbrev pub invariant-loop-told : goal.invariant-loop-told
invariant-loop-told l = record {
  count : l.number ≡ length l.yielded;
  room : l.number + l.told-iterator.rest.len ≡ l.fn.answers.len;
  text : text_so_far l.pieces ≡ text_so_far l.initial.pieces ++ told_texts l.target l.decision (enumerate_from 1 l.yielded);
}
