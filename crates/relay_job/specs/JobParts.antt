-- The parts of a job, each by its lines.
use Rattle.std.specs.Prelude.{◌≡◌, ℕ, not, nat_lt, List, [], ◌∷◌, ◌++◌, length, map, take, drop, filter, filter_map, flat_map, slice_get, Option, Some, None, is_none, option_map, unwrap_or, if◌then◌else◌, ⊤}
use Rattle.std.specs.List.{list_all}
use Rattle.relay_text.specs.Bytes.{is_white, first_of}
use Rattle.relay_text.specs.Lines.{line_text}
use Rattle.relay_text.specs.AddressParts.{AddressParts}
use Rattle.relay_text.specs.declared.lines.Line.{Line}
use Rattle.relay_job.specs.declared.place.Place.{Place}
use Rattle.relay_job.specs.declared.command.Command.{Command}
use Rattle.relay_job.specs.declared.envelope.Envelope.{Envelope}
use Rattle.relay_job.specs.declared.fault.RunFault.{RunFault}
use Rattle.relay_job.specs.declared.fault.RunFault.TheVariants.{BadEnvelope, Memory}
use Rattle.relay_job.specs.Settings.{breaks_settings, setting_lines}
use Rattle.relay_job.specs.Places.{content_at}
use Rattle.relay_job.specs.JobText.{JobLine, content_of, first_broken, breaks_envelope, sender_in, recipient_in}

-- a section's lines, by the job's numbers
abbrev pub command_of : JobLine → Line
command_of l = record { number = l.number; text = line_text (content_of l.raw) }

abbrev pub lines_of : List JobLine → List Line
lines_of lines = map command_of lines

-- the first fault of a part of the job, unless memory ran out
abbrev pub Stops : Option RunFault → RunFault → Type 0
Stops fault Memory = ⊤
Stops fault given = fault ≡ Some given

abbrev pub first_bad_setting : List Line → Option ℕ
first_bad_setting lines = first_broken breaks_settings (λ l. l.number) (setting_lines lines)

-- the commands of an envelope: its lines that aren't of white space alone
abbrev pub commands_of : List Line → List Line
commands_of lines = filter (λ l. not (list_all is_white l.text)) lines

abbrev pub commands_at : Place → List Line
commands_at place = commands_of (lines_of (content_at place))

abbrev pub line_in : Command → Line
line_in c = record { number = c.number; text = c.text.now }

-- the recipients that commands name, and the numbers of those that name none
abbrev pub recipients_of : List ℕ → List Line → List AddressParts
recipients_of origin commands = filter_map (λ l. recipient_in origin l.text) commands

abbrev pub bad_recipients : List ℕ → List Line → List ℕ
bad_recipients origin commands = flat_map (λ l. if is_none (recipient_in origin l.text) then (l.number ∷ []) else []) commands

abbrev pub first_bad_recipient : List ℕ → List Line → Option RunFault
first_bad_recipient origin commands = option_map BadEnvelope (slice_get (bad_recipients origin commands) 0)

-- Each command names a recipient, and these are they.
pub record AreRecipientsOf (origin : List ℕ) (commands : List Line) (recipients : List AddressParts) : Type 0 where
  pub named : recipients ≡ recipients_of origin commands
  pub number : length recipients ≡ length commands
  pub unbroken : bad_recipients origin commands ≡ []

-- A command names a recipient, which is added to those before it.
pub record HasNamed (origin : List ℕ) (command : Line) (old new : List AddressParts) : Type 0 where
  pub recipient : AddressParts
  pub named : recipient_in origin command.text ≡ Some recipient
  pub added : new ≡ old ++ recipient ∷ []

-- the first command that breaks the envelope, or the heading's number where the commands end too early
abbrev pub first_bad_command : List ℕ → ℕ → List Line → Option ℕ
first_bad_command origin heading commands = first_of (
    first_broken (breaks_envelope origin) (λ l. l.number) commands
    ∷ (if nat_lt (length commands) 2 then Some heading else None)
    ∷ [])

abbrev pub sender_of : List ℕ → List Line → Option AddressParts
sender_of origin commands = unwrap_or (first_of (map (λ l. sender_in origin l.text) (take 1 commands))) None

-- The commands behind a heading, of which none breaks the envelope, say this one; else the first that breaks it is the fault.
pub record IsEnvelopeAt (origin : List ℕ) (section : Place) (envelope : Envelope) : Type 0 where
  pub unbroken : first_bad_command origin section.line (commands_at section) ≡ None
  pub sender : envelope.sender ≡ sender_of origin (commands_at section)
  pub recipients : envelope.recipients ≡ recipients_of origin (drop 1 (commands_at section))

abbrev pub bad_envelope_at : List ℕ → Place → Option RunFault
bad_envelope_at origin section = option_map BadEnvelope (first_bad_command origin section.line (commands_at section))

-- The first command names the sender, and the others stand behind it.
pub record HasSender (origin : List ℕ) (commands : List Line) (sender : Option AddressParts) (behind : List Line) : Type 0 where
  pub first : Line
  pub parted : commands ≡ first ∷ behind
  pub named : sender_in origin first.text ≡ Some sender
