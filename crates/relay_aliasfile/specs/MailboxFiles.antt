-- Mailbox files: the local names that have a mailbox.
use Rattle.std.specs.Prelude.{ℕ, List, [], ◌∷◌, filter_map, flat_map, Option, option_map, is_none, if◌then◌else◌}
use Rattle.std.specs.Result.{result_ok}
use Rattle.std.specs.Str.{bytes_eq}
use Rattle.relay_text.specs.Bytes.{folded, trimmed, firsts}
use Rattle.relay_text.specs.Lines.{kept_lines}
use Rattle.relay_text.specs.Addresses.{name_of}
use Rattle.relay_text.specs.declared.lines.Line.{Line}
use Rattle.relay_aliasfile.specs.declared.fault.LineFault.{LineFault}
use Rattle.relay_aliasfile.specs.declared.fault.FaultKind.{FaultKind}
use Rattle.relay_aliasfile.specs.declared.fault.FaultKind.TheVariants.{BadLine}
use Rattle.relay_aliasfile.specs.declared.mailboxes.MailboxFile.{MailboxFile}

-- the name that a text spells, folded
abbrev pub folded_name_of : List ℕ → Option (List ℕ)
folded_name_of text = option_map folded (result_ok (name_of text))

abbrev pub fault : ℕ → FaultKind → LineFault
fault line kind = record { line = line; kind = kind }

-- A mailbox file has one name on each line that isn't ignored. Repeats are dropped.
abbrev pub name_in : Line → Option (List ℕ)
name_in l = folded_name_of (trimmed l.text)

abbrev pub faults_in : Line → List LineFault
faults_in l = if is_none (name_in l) then (fault l.number BadLine ∷ []) else []

unfoldable pub mailbox_file_of : List ℕ → MailboxFile
mailbox_file_of text = record {
  names = firsts bytes_eq (filter_map name_in (kept_lines text));
  faults = flat_map faults_in (kept_lines text);
}
