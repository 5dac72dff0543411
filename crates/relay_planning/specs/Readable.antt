-- What a job's files and tables have to be like to be read: a job that is a text within the greatest size is so.
use Rattle.std.specs.Prelude.{◌≢◌, ◌≡◌, ◌<◌, ◌-◌, ◌^◌, length, All, AllPairs, IsTrue}
use Rattle.relay_text.specs.Bytes.{folded}
use Rattle.relay_text.specs.Addresses.{is_origin}
use Rattle.relay_aliasfile.specs.AliasFiles.{alias_file_of}
use Rattle.relay_aliasfile.specs.MailboxFiles.{mailbox_file_of}
use Rattle.relay_job.specs.declared.job.Job.{Job}

pub record IsReadable (job : Job) : Type 0 where
  pub origin : IsTrue (is_origin job.settings.origin)
  pub domains : All (λ domain. folded domain ≡ domain) job.settings.destinations
  pub paths : AllPairs (λ a b. a.path ≢ b.path) job.includes
  pub few_entries : length (alias_file_of job.aliases).entries < 2 ^ 32 - 2
  pub few_includes : length job.includes < 2 ^ 32 - 2
  pub few_mailboxes : length (mailbox_file_of job.mailboxes).names < 2 ^ 32 - 2
