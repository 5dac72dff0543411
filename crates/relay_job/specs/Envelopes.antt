-- An envelope's section by itself, and the job of tables and an envelope.
use Rattle.std.specs.Prelude.{◌≡◌, ◌++◌, ℕ, false, List, [], ◌∷◌, drop, codes, Option, Some, None, option_map, Result, Ok, Err, ⊤}
use Rattle.std.specs.List.{list_any}
use Rattle.relay_text.specs.Lines.{cut_before}
use Rattle.relay_text.specs.declared.lines.Line.{Line}
use Rattle.relay_job.specs.declared.envelope.Envelope.{Envelope}
use Rattle.relay_job.specs.declared.job.Job.{Job}
use Rattle.relay_job.specs.declared.fault.RunFault.{RunFault}
use Rattle.relay_job.specs.declared.fault.RunFault.TheVariants.{BadEnvelope}
use Rattle.relay_job.specs.JobText.{named, is_heading, job_lines, part_at}
use Rattle.relay_job.specs.JobParts.{commands_of, lines_of, first_bad_command, sender_of, recipients_of}

-- An envelope's section by itself: its lines are those before the first heading, numbered from 1. Where it ends too early the fault is
-- at 0.
abbrev pub envelope_commands : List ℕ → List Line
envelope_commands text = commands_of (lines_of (cut_before is_heading (job_lines text)).before)

abbrev pub envelope_fault : List ℕ → List ℕ → Option RunFault
envelope_fault origin text = option_map BadEnvelope (first_bad_command origin 0 (envelope_commands text))

abbrev pub envelope_by : List ℕ → List Line → Envelope
envelope_by origin commands = record { sender = sender_of origin commands; recipients = recipients_of origin (drop 1 commands) }

-- an envelope, unless there's a fault
abbrev pub envelope_unless : Option RunFault → Envelope → Result Envelope RunFault
envelope_unless None envelope = Ok envelope
envelope_unless (Some fault) envelope = Err fault

-- what the section says where addresses without a domain are of this origin
unfoldable pub envelope_of : List ℕ → List ℕ → Result Envelope RunFault
envelope_of origin text = envelope_unless (envelope_fault origin text) (envelope_by origin (envelope_commands text))

-- the job of these files and tables, and of this envelope in place of their own
abbrev pub with_envelope : Job → Envelope → Job
with_envelope tables envelope = record tables { sender = envelope.sender; recipients = envelope.recipients }

-- A text that is empty or ends with an LF.
abbrev pub EndsWithLine : List ℕ → Type 0
EndsWithLine [] = ⊤
EndsWithLine (b ∷ []) = b ≡ 10
EndsWithLine (b ∷ c ∷ bs) = EndsWithLine (c ∷ bs)

abbrev pub HasNoEnvelope : List ℕ → Type 0
HasNoEnvelope text = part_at text (named (codes "%envelope")) ≡ None

abbrev pub HasNoHeading : List ℕ → Type 0
HasNoHeading text = list_any is_heading (job_lines text) ≡ false

-- a text, and behind it an envelope's section under its heading
abbrev pub joined_text : List ℕ → List ℕ → List ℕ
joined_text front section = front ++ (codes "%envelope" ++ 10 ∷ section)
