use Rattle.std.proofs.Common.{◌≡◌, ◌≤◌, [], length, take, vec_len, vec_capacity}
use Rattle.relay_aliasfile.specs.DistinctTexts.{with_texts}
use Rattle.relay_aliasfile.proofs.distinct.first_texts.Given as goal

-- the texts so far, each by its first place
abbrev pub invariant-loop-text : goal.invariant-loop-text
invariant-loop-text l = record {
  counted : l.place ≡ length l.yielded;
  kept : l.distinct.items ≡ with_texts [] (take l.place l.fn.texts.items);
  few : vec_len l.distinct ≤ l.place;
  room : length l.fn.texts.items ≤ vec_capacity l.distinct;
}
