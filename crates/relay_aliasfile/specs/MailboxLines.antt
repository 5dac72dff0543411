-- What the lines of a mailbox file say.
use Rattle.std.specs.Prelude.{◌≡◌, ℕ, List, ◌++◌, filter_map, flat_map}
use Rattle.relay_halves.specs.Halves.{kept_behind}
use Rattle.relay_aliasfile.specs.MailboxFiles.{name_in, faults_in}
use Rattle.relay_aliasfile.specs.declared.mailbox_lines.MailboxLines.{MailboxLines}

-- These are the names and the faults of a text, where so many lines of the file stand before it.
pub record AreRead (passed : ℕ) (text : List ℕ) (lines : MailboxLines) : Type 0 where
  pub names : lines.names.items ≡ filter_map name_in (kept_behind passed text)
  pub faults : lines.faults.items ≡ flat_map faults_in (kept_behind passed text)

-- These are the names and the faults of two parts.
abbrev pub AreBoth : MailboxLines → MailboxLines → MailboxLines → Type 0
AreBoth first second lines = (lines.names.items ≡ first.names.items ++ second.names.items) × (lines.faults.items ≡ first.faults.items ++ second.faults.items)
