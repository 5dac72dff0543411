use Rattle.std.proofs.Common.{refl, sym, subst, length}
use Rattle.std.specs.Prelude.{List}
use Rattle.relay_text.specs.declared.lines.Line.{Line}
use Rattle.relay_halves.specs.Halves.{AreUpTo}
use Rattle.relay_halves.proofs.HalvedLines.{up_to-kept_lines}
use Rattle.relay_aliasfile.proofs.mailbox_lines.MailboxLinesPartRead.read.Goals as goal

pub loop-line-init : goal.loop-line-init
loop-line-init c = record {
  names = rw (c.new-names.ensures.items, c.new-lines.ensures) refl;
  faults = rw (c.new-faults.ensures.items, c.new-lines.ensures) refl;
  numbers = subst (λ (lines : List Line). AreUpTo (length c.args.bytes.now) lines) (sym c.new-lines.ensures) (up_to-kept_lines c.args.bytes.now);
}
