use Rattle.std.proofs.Common.{rules, ◌∙◌, sym}
use Rattle.relay_text.proofs.SameBytes.{past_same}
use Rattle.relay_text.proofs.equality.same_bytes.Goals as goal

pub loop-left_word-preserved : goal.loop-left_word-preserved
loop-left_word-preserved c = (
  search rules,
  c.loop-left_word.invariant.1 ∙ past_same c.loop-left_word.left.now c.loop-left_word.right.now c.in-Some.left_word.now c.in-Some-split_first_chunk.right_word.now c.in-Some.left_rest.now c.in-Some-split_first_chunk.right_rest.now (record {
    is_a = search rules;
    is_b = search rules;
    is_more = search rules;
    is_rest = search rules;
  }) (sym c.is_same_word.ensures ∙ c.if-not-is_same_word.false),
)
