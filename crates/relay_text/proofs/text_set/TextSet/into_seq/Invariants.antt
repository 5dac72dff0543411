use Rattle.std.proofs.Common.{◌≡◌}
use Rattle.relay_text.specs.TextSets.{texts_of}
use Rattle.relay_text.proofs.text_set.TextSet.into_seq.Given as goal

abbrev pub invariant-loop-text : goal.invariant-loop-text
invariant-loop-text l = l.texts.items ≡ texts_of l.yielded
