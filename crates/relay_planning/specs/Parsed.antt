-- What each of a job's files and tables says.
use Rattle.std.specs.Prelude.{◌≡◌}
use Rattle.relay_aliasfile.specs.AliasFiles.{alias_file_of}
use Rattle.relay_aliasfile.specs.MailboxFiles.{mailbox_file_of}
use Rattle.relay_routes.specs.Transports.{transport_table_of}
use Rattle.relay_routes.specs.Exchanges.{mx_table_of}
use Rattle.relay_job.specs.declared.job.Job.{Job}
use Rattle.relay_planning.specs.declared.parsed.Parsed.{Parsed}

-- Each is what the definition gives for the job's own text.
pub record AreParsed (job : Job) (parsed : Parsed) : Type 0 where
  pub aliases : parsed.aliases ≡ alias_file_of job.aliases
  pub mailboxes : parsed.mailboxes ≡ mailbox_file_of job.mailboxes
  pub transports : parsed.transports ≡ transport_table_of job.transport
  pub exchanges : parsed.exchanges ≡ mx_table_of job.mx
