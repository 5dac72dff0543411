use Rattle.std.proofs.Common.{rules, sym, ◌∙◌}
use Rattle.relay_rounds.proofs.Numbers.{copied_more}
use Rattle.relay_rounds.proofs.shard.rebuilt.Goals as goal

pub loop-number-preserved : goal.loop-number-preserved
loop-number-preserved c = record {
  keys = copied_more c.args.chains.now.keys c.loop-number.grown.keys c.insert-answer.new.self.keys c.loop-number.grown.limit c.loop-number.number c.in-Some.key c.insert-answer.result
      c.len-number-end.ensures.distinct (sym c.in-Some.ensures) c.loop-number.invariant.keys (sym c.is_err.ensures.value ∙ c.if-is_err.false) c.insert-answer.ensures.inserts;
  wide = search rules;
}
