use Rattle.std.proofs.Common.{◌≡◌, length, drop, ap, arith}
use Rattle.std.proofs.lemmas.List.{at_drop_all}
use Rattle.std.proofs.lemmas.Bool.Decides.{nat_tests}
use Rattle.relay_text.proofs.QuoteMarks.{kept_from, kept_count-more, without_escapes-kept}
use Rattle.relay_text.proofs.cut.unescaped_len.Goals as goal

pub loop-byte-preserved : goal.loop-byte-preserved
loop-byte-preserved c =
    let more = kept_count-more c.loop-byte.len c.loop-byte.escaped c.args.content.now c.loop-byte.byte-index _ (omega arith) c.loop-byte.invariant.1 in
    (grind (arith, nat_tests), grind (arith, nat_tests, more))

pub returns : goal.returns
returns c =
    let none : length (kept_from c.loop-byte.escaped (drop c.loop-byte.byte-index c.args.content.now)) ≡ 0 = ap length (at_drop_all (λ xs. kept_from c.loop-byte.escaped xs) c.args.content.now c.loop-byte.byte-index (omega arith)) in
    omega (arith, none, c.loop-byte.invariant.1, ap length (without_escapes-kept c.args.content.now))
