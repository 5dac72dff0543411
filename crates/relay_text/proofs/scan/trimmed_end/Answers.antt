use Rattle.std.proofs.Common.{◌≡◌, ◌-◌, length, take, ap, sym, ◌∙◌, arith}
use Rattle.std.specs.List.{suffix_len}
use Rattle.std.proofs.lemmas.List.Sums.{suffix_len-take_no, suffix_len-take_yes}
use Rattle.relay_text.specs.Bytes.{is_white}
use Rattle.relay_text.proofs.scan.trimmed_end.Goals as goal
use Rattle.relay_text.proofs.scan.trimmed_end.Goals.{then-loop-end-test+else-is_white, else-loop-end-test}

pub loop-end-preserved : goal.loop-end-preserved
loop-end-preserved c =
    let more = suffix_len-take_yes is_white c.args.text.now c.loop-end.end 0 c.loop-end-test.true c.loop-end.invariant.inside (sym c.is_white.ensures ∙ c.if-is_white.true) in
    record {
      inside = omega (arith, c.loop-end.invariant.inside);
      passed = omega (arith, more, c.loop-end.invariant.passed, c.loop-end-test.true);
    }

pub returns : goal.returns
returns c =
    let none : suffix_len is_white (take c.loop-end.end c.args.text.now) ≡ 0 = elim c.loop-end-test.branch [
      | then-loop-end-test+else-is_white w ↦ suffix_len-take_no is_white c.args.text.now c.loop-end.end 0 w.loop-end-test.true c.loop-end.invariant.inside (sym w.is_white.ensures ∙ w.if-is_white.false)
      | else-loop-end-test w ↦ let start : c.loop-end.end ≡ 0 = omega (arith, w.loop-end-test.false) in ap (λ n. suffix_len is_white (take n c.args.text.now)) start
    ] in
    let place : c.loop-end.end ≡ length c.args.text.now - suffix_len is_white c.args.text.now = omega (arith, none, c.loop-end.invariant.passed) in
    ap (λ n. take n c.args.text.now) place
