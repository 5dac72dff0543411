-- What jobs are made of.
use Rattle.std.specs.Prelude.{◌≡◌, map}
use Rattle.relay_job.specs.declared.envelope.Envelope.{Envelope}
use Rattle.relay_job.specs.declared.job.Job.{Job}
use Rattle.relay_job.specs.declared.job_files.JobFiles.{JobFiles}
use Rattle.relay_job.specs.declared.parts.Parts.{Parts}
use Rattle.relay_job.specs.declared.section.Section.TheVariants.{Aliases, Mailboxes, Transport, Mx}
use Rattle.relay_job.specs.declared.settings.Settings.{Settings}
use Rattle.relay_job.specs.SectionPlaces.{place_of, bytes_behind, include_at}

-- what the sections of files and tables hold that are among a job's parts
pub record AreFilesOf (p : Parts) (files : JobFiles) : Type 0 where
  pub aliases : files.aliases ≡ bytes_behind (place_of p.sections Aliases)
  pub includes : files.includes ≡ map include_at p.includes.items
  pub mailboxes : files.mailboxes ≡ bytes_behind (place_of p.sections Mailboxes)
  pub transport : files.transport ≡ bytes_behind (place_of p.sections Transport)
  pub mx : files.mx ≡ bytes_behind (place_of p.sections Mx)

-- The job of settings, files and an envelope.
pub record IsJobOf (set : Settings) (files : JobFiles) (envelope : Envelope) (job : Job) : Type 0 where
  pub settings : job.settings ≡ set
  pub aliases : job.aliases ≡ files.aliases
  pub includes : job.includes ≡ files.includes
  pub mailboxes : job.mailboxes ≡ files.mailboxes
  pub transport : job.transport ≡ files.transport
  pub mx : job.mx ≡ files.mx
  pub sender : job.sender ≡ envelope.sender
  pub recipients : job.recipients ≡ envelope.recipients
