-- A job's settings, files and tables, without its envelope.
use Rattle.std.specs.Prelude.{◌≡◌, ℕ, ◌≤◌, List, [], ◌∷◌, length, option_map, Option, None, Result, Ok}
use Rattle.relay_text.specs.Bytes.{first_of}
use Rattle.relay_job.specs.declared.job.Job.{Job}
use Rattle.relay_job.specs.declared.fault.RunFault.{RunFault}
use Rattle.relay_job.specs.declared.fault.RunFault.TheVariants.{BadJob, BadSetting}
use Rattle.relay_job.specs.JobText.{bad_job, bad_setting, sections_of, job_unless}

-- the first line that breaks the job, else the first that breaks the settings
abbrev pub tables_fault : List ℕ → Option RunFault
tables_fault text = first_of (option_map BadJob (bad_job text) ∷ option_map BadSetting (bad_setting text) ∷ [])

-- a job whose null sender writes to nobody
abbrev pub without_envelope : Job → Job
without_envelope job = record {
  settings = job.settings;
  aliases = job.aliases;
  includes = job.includes;
  mailboxes = job.mailboxes;
  transport = job.transport;
  mx = job.mx;
  sender = None;
  recipients = [];
}

-- Whatever stands in an envelope, or where there is none.
unfoldable pub tables_of : List ℕ → Result Job RunFault
tables_of text = job_unless (tables_fault text) (without_envelope (sections_of text))

-- what some text of at most this many bytes says of files and tables
abbrev pub AreTablesWithin : ℕ → Job → Type 0
AreTablesWithin bytes tables = (text : List ℕ) × (length text ≤ bytes) × (tables_of text ≡ Ok tables)
