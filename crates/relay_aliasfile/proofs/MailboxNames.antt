-- The file of a text, of whose lines all was read.
use Rattle.std.proofs.Common.{◌≡◌, ℕ, List, ap, ◌∙◌}
use Rattle.std.specs.Prelude.{filter_map, flat_map}
use Rattle.std.specs.Str.{bytes_eq}
use Rattle.relay_text.specs.Bytes.{firsts}
use Rattle.relay_text.specs.Lines.{kept_lines}
use Rattle.relay_halves.proofs.HalvedLines.{moved_nowhere}
use Rattle.relay_aliasfile.specs.MailboxFiles.{name_in, faults_in, mailbox_file_of}
use Rattle.relay_aliasfile.specs.MailboxLines.{AreRead}
use Rattle.relay_aliasfile.specs.declared.mailbox_lines.MailboxLines.{MailboxLines}

pub mailbox_file_read : (text : List ℕ) (lines : MailboxLines) → AreRead 0 text lines → record { names = firsts bytes_eq lines.names.items; faults = lines.faults.items } ≡ mailbox_file_of text
unfolding mailbox_file_of
mailbox_file_read text lines read =
    let n : firsts bytes_eq lines.names.items ≡ firsts bytes_eq (filter_map name_in (kept_lines text)) = ap (firsts bytes_eq) (read.names ∙ ap (filter_map name_in) (moved_nowhere (kept_lines text))) in
    let f : lines.faults.items ≡ flat_map faults_in (kept_lines text) = read.faults ∙ ap (flat_map faults_in) (moved_nowhere (kept_lines text)) in
    cc
