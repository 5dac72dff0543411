use Rattle.std.proofs.Common.{length, drop, take, ap, sym, ◌∙◌, arith}
use Rattle.std.proofs.Math.Seq.{take-append_seam}
use Rattle.std.proofs.lemmas.Bool.{ne_eqb}
use Rattle.std.proofs.lemmas.Bool.Decides.{Decides-eqb}
use Rattle.std.proofs.lemmas.List.Sums.{common_prefix_len-drop_no}
use Rattle.std.proofs.lemmas.Slice.Eq.{starts_is}
use Rattle.std.specs.Prelude.{nat_eq}
use Rattle.relay_wire.proofs.SharedFronts.{common_front-whole, counted, ends_other, ends_text}
use Rattle.relay_wire.proofs.shared_front.common_front.Goals.{then-loop-len-test+then-len-other+else-text-len, then-loop-len-test+else-len-other, else-loop-len-test}
use Rattle.relay_wire.proofs.shared_front.common_front.Goals as goal

pub returns-then-starts_with : goal.returns-then-starts_with
returns-then-starts_with c =
    let text = c.args.text.now in
    let other = c.args.other.now in
    let begins = (starts_is Decides-eqb other text c.starts_with.result c.starts_with.ensures.value).0 c.if-starts_with.true in
    sym (common_front-whole text other (ap (take (length text)) begins ∙ take-append_seam text (drop (length text) other)))

pub returns : goal.returns
returns c =
    let text = c.args.text.now in
    let other = c.args.other.now in
    let len = c.loop-len.len in
    counted len text other c.loop-len.invariant.same (elim c.loop-len-test.branch [
      | then-loop-len-test+then-len-other+else-text-len w ↦ common_prefix_len-drop_no nat_eq text other len 0 0 w.loop-len-test.true w.if-len-other.true (ne_eqb _ _ w.if-text-len.false)
      | then-loop-len-test+else-len-other w ↦ ends_other len text other (omega arith)
      | else-loop-len-test w ↦ ends_text len text other (omega arith)
    ])
