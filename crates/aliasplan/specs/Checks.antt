-- What is wrong with files and tables before a message comes.
use Rattle.std.specs.Prelude.{◌↔◌, ℕ, List, [], ◌∷◌, map, codes, None, Contains, if◌then◌else◌}
use Rattle.relay_text.specs.Bytes.{has_text}
use Rattle.relay_text.specs.TextSets.{text_cmp, IsAscendingBy}
use Rattle.relay_tables.specs.Targets.{at_origin}
use Rattle.relay_job.specs.declared.settings.Settings.{Settings}
use Rattle.relay_job.specs.declared.job.Job.{Job}
use Rattle.relay_planning.specs.Delivery.{directory_of}

-- The job of the null sender who writes to every alias, by these files and tables.
abbrev pub to_each_alias : Job → Job
to_each_alias tables = record {
  settings = tables.settings;
  aliases = tables.aliases;
  includes = tables.includes;
  mailboxes = tables.mailboxes;
  transport = tables.transport;
  mx = tables.mx;
  sender = None;
  recipients = map (λ entry. at_origin (directory_of tables) entry.name) (directory_of tables).aliases;
}

-- Lines in the order of their bytes, each once, of which this holds, and no others.
pub record AreLines (IsLine : List ℕ → Type 0) (lines : List (List ℕ)) : Type 0 where
  pub ascending : IsAscendingBy text_cmp lines
  pub members : (line : List ℕ) → Contains lines line ↔ IsLine line

-- What settings say that Postfix reads otherwise: names at the origin are local here whether mydestination has it or not, and there only
-- where it has.
abbrev pub notes_of : Settings → List (List ℕ)
notes_of s = if has_text s.destinations s.origin then [] else (codes "note myorigin isn't in mydestination" ∷ [])
