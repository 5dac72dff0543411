use Rattle.std.proofs.Common.{◌≡◌, ◌+◌, length, ap, ◌∙◌, arith}
use Rattle.std.proofs.lemmas.List.{length_push}
use Rattle.std.proofs.lemmas.List.Elements.{All-push}
use Rattle.aliasplan_lint.specs.Tells.{IsNote}
use Rattle.aliasplan_lint.proofs.linting.note_lints.Goals as goal

pub loop-note-preserved : goal.loop-note-preserved
loop-note-preserved c =
    let lints = c.loop-note.lints.items in
    let lint = c.in_ok-note_lint.field-0 in record {
      each = omega (arith, ap length c.in_ok-push.ensures.items, length_push lints lint, c.loop-note.invariant.each);
      alone = rw c.in_ok-push.ensures.items (All-push IsNote lints lint c.loop-note.invariant.alone c.in_ok-note_lint.ensures);
    }
