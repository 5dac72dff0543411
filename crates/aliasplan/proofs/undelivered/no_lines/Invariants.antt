use Rattle.std.proofs.Common.{◌≡◌, [], length}
use Rattle.std.specs.Prelude.{All}
use Rattle.aliasplan.proofs.undelivered.no_lines.Given as goal

abbrev pub invariant-loop : goal.invariant-loop
invariant-loop l = record {
  empty : All (λ lines. lines ≡ []) l.lists.items;
  count : length l.lists.items ≡ l.counter;
}
