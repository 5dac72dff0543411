-- What was read of both parts of a mailbox file was read of the whole.
use Rattle.std.proofs.Common.{◌≡◌, ℕ, ◌+◌, List, ◌++◌, length, refl, sym, ap, ◌∙◌}
use Rattle.std.specs.Prelude.{filter_map, flat_map}
use Rattle.std.proofs.lemmas.List.Elements.{filter_map-append}
use Rattle.std.proofs.lemmas.Grind.{flat_map-append}
use Rattle.relay_text.specs.Lines.{raw_lines}
use Rattle.relay_halves.specs.Halves.{EndsWithLine, BeginsLogicalLine, kept_behind}
use Rattle.relay_halves.proofs.HalvedLines.{kept_behind-append}
use Rattle.relay_aliasfile.specs.MailboxFiles.{name_in, faults_in}
use Rattle.relay_aliasfile.specs.MailboxLines.{AreBoth, AreRead}
use Rattle.relay_aliasfile.specs.declared.mailbox_lines.MailboxLines.{MailboxLines}

pub mailboxes_read_on : (passed behind : ℕ) (front back : List ℕ) (first second both : MailboxLines) → EndsWithLine front → BeginsLogicalLine back
    → behind ≡ passed + length (raw_lines front) → AreRead passed front first → AreRead behind back second → AreBoth first second both
    → AreRead passed (front ++ back) both
mailboxes_read_on passed behind front back first second both ended begun count one two made =
    let lines : kept_behind passed (front ++ back) ≡ kept_behind passed front ++ kept_behind behind back = kept_behind-append passed behind front back ended (sym count) in
    let n : first.names.items ++ second.names.items ≡ filter_map name_in (kept_behind passed front) ++ filter_map name_in (kept_behind behind back) = rw (one.names, two.names) refl in
    let f : first.faults.items ++ second.faults.items ≡ flat_map faults_in (kept_behind passed front) ++ flat_map faults_in (kept_behind behind back) = rw (one.faults, two.faults) refl in
    record {
      names = made.0 ∙ n ∙ sym (filter_map-append name_in (kept_behind passed front) (kept_behind behind back)) ∙ ap (filter_map name_in) (sym lines);
      faults = made.1 ∙ f ∙ sym (flat_map-append faults_in (kept_behind passed front) (kept_behind behind back)) ∙ ap (flat_map faults_in) (sym lines);
    }
