-- What was parsed of a job, from its parts.
use Rattle.std.proofs.Common.{◌≡◌, ◌∙◌, ℕ, List, ap, sym, subst}
use Rattle.std.specs.Prelude.{Result, Ok, IfOk}
use Rattle.std.proofs.lemmas.Result.{IfOk-at_ok, IfOk-weaker}
use Rattle.relay_aliasfile.specs.declared.aliases.AliasFile.{AliasFile}
use Rattle.relay_aliasfile.specs.declared.mailboxes.MailboxFile.{MailboxFile}
use Rattle.relay_aliasfile.specs.AliasFiles.{alias_file_of}
use Rattle.relay_aliasfile.specs.MailboxFiles.{mailbox_file_of}
use Rattle.relay_routes.specs.TransportLines.{TransportLines}
use Rattle.relay_routes.specs.Transports.{transport_table_of}
use Rattle.relay_routes.specs.MxLines.{MxLines}
use Rattle.relay_routes.specs.Exchanges.{mx_table_of}
use Rattle.relay_job.specs.declared.job.Job.{Job}
use Rattle.relay_planning.specs.declared.parsed.Parsed.{Parsed}
use Rattle.relay_planning.specs.Parsed.{AreParsed}

-- what one call gave, which is told, and what another gave
pub both_beside : {A B E : Type 0} (both : Result (A × B) E) (first : A) (second : Result B E) (P : A → Type 0) (Q : B → Type 0) → IfOk both (λ b. (b.0 ≡ first) × (second ≡ Ok b.1)) → P first → IfOk second Q
    → IfOk both (λ b. P b.0 × Q b.1)
both_beside both first second P Q are p q = IfOk-weaker both _ _ (λ b is. (subst P (sym is.0) p, IfOk-at_ok Q is.1 q)) are

abbrev pub AreFiles : List ℕ → List ℕ → AliasFile × MailboxFile → Type 0
AreFiles aliases mailboxes files = (files.0 ≡ alias_file_of aliases) × (files.1 ≡ mailbox_file_of mailboxes)

abbrev pub AreTables : List ℕ → List ℕ → TransportLines × MxLines → Type 0
AreTables transport mx tables = (tables.0 ≡ transport_table_of transport) × (tables.1 ≡ mx_table_of mx)

-- The texts of a job, as they were read.
pub record AreTexts (job : Job) (aliases mailboxes transport mx : List ℕ) : Type 0 where
  pub aliases_are : aliases ≡ job.aliases
  pub mailboxes_are : mailboxes ≡ job.mailboxes
  pub transport_is : transport ≡ job.transport
  pub mx_is : mx ≡ job.mx

pub parsed_of_both : {E : Type 0} (job : Job) (aliases mailboxes transport mx : List ℕ) → AreTexts job aliases mailboxes transport mx
    → (both : Result ((AliasFile × MailboxFile) × (TransportLines × MxLines)) E) (r : Result Parsed E)
    → IfOk r (λ p. both ≡ Ok ((p.aliases, p.mailboxes), (p.transports, p.exchanges)))
    → IfOk both (λ b. AreFiles aliases mailboxes b.0 × AreTables transport mx b.1)
    → IfOk r (AreParsed job)
parsed_of_both job aliases mailboxes transport mx texts both r is are =
    IfOk-weaker r _ _
    (λ p same. let h = IfOk-at_ok (λ (b : (AliasFile × MailboxFile) × (TransportLines × MxLines)). AreFiles aliases mailboxes b.0 × AreTables transport mx b.1) same are in
    record {
      aliases = h.0.0 ∙ ap alias_file_of texts.aliases_are;
      mailboxes = h.0.1 ∙ ap mailbox_file_of texts.mailboxes_are;
      transports = h.1.0 ∙ ap transport_table_of texts.transport_is;
      exchanges = h.1.1 ∙ ap mx_table_of texts.mx_is;
    })
    is
