use Rattle.std.proofs.Common.{◌≡◌, [], Option, IfNone, refl, ap, sym, ◌∙◌, subst}
use Rattle.relay_text.specs.declared.kept.KeptLine.{KeptLine}
use Rattle.relay_text.specs.Lines.{kept_lines, logical_lines_of}
use Rattle.relay_text.specs.KeptLines.{kept_rest}
use Rattle.relay_text.specs.LogicalLines.{kept_left, lines_in}
use Rattle.relay_text.proofs.LineCuts.{left_read}
use Rattle.relay_text.proofs.logical.LogicalLines.new.Goals as goal

pub loop-line-init : goal.loop-line-init
unfolding logical_lines_of
loop-line-init c =
    let whole : kept_left c.next_line-first.result c.next_line-first.new.self ≡ kept_lines c.args.bytes.now =
    sym (left_read c.new-kept.result c.next_line-first.new.self c.next_line-first.result c.next_line-first.ensures.none c.next_line-first.ensures.ended c.next_line-first.ensures.some) ∙ c.new-kept.ensures in
    record {
      orphans = rw (c.new-orphans.ensures.items, whole) refl;
      lines = ap lines_in whole;
      ended = λ none. subst (λ (first : Option KeptLine). IfNone first (kept_rest c.next_line-first.new.self ≡ [])) none c.next_line-first.ensures.ended;
    }
