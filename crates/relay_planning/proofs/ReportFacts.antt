-- Lines that are reported one part after another.
use Rattle.std.proofs.Common.{ℕ, Bool, ◌||◌, List, ap, ◌∙◌}
use Rattle.std.specs.Prelude.{Result, Ok, Err, IsOk, OnOk}
use Rattle.std.specs.List.{list_any}
use Rattle.std.specs.Str.{bytes_eq}
use Rattle.std.proofs.Math.Bool.{or_assoc}
use Rattle.relay_text.specs.Bytes.{has_text}
use Rattle.relay_aliasfile.specs.AliasFiles.{alias_file_of}
use Rattle.relay_aliasfile.specs.MailboxFiles.{mailbox_file_of}
use Rattle.relay_aliasfile.specs.declared.fault.LineFault.{LineFault}
use Rattle.relay_routes.specs.Transports.{transport_table_of}
use Rattle.relay_job.specs.declared.job.Job.{Job}
use Rattle.relay_job.specs.declared.job.JobInclude.{JobInclude}
use Rattle.relay_planning.specs.declared.job_file.JobFile.TheVariants.{Aliases, Mailboxes}
use Rattle.relay_planning.specs.declared.parsed.Parsed.{Parsed}
use Rattle.relay_planning.specs.Findings.{ReportsWhere}
use Rattle.relay_planning.specs.Parsed.{AreParsed}
use Rattle.relay_planning.specs.Texts.{file_line, has_include_line, is_file_line, is_name_line, is_route_line, has_fault_line}

pub on_ok_given : {A E P : Type 0} (r : Result A E) → P → OnOk r P
on_ok_given (Ok a) p = p
on_ok_given (Err e) p = tt

pub reports_two : (old middle new : List (List ℕ)) (first second : List ℕ → Bool) → ReportsWhere old middle first → ReportsWhere middle new second → ReportsWhere old new (λ q. first q || second q)
reports_two old middle new first second one two q = two q ∙ ap (λ b. b || second q) (one q) ∙ or_assoc (has_text old q) (first q) (second q)

-- the lines of the alias file and the mailbox file, and then those of the include files, are those of the files of names
pub reports_names : (aliases mailboxes : List LineFault) (includes : List JobInclude) (old middle new : List (List ℕ)) → ReportsWhere old middle (is_file_line aliases mailboxes)
    → ReportsWhere middle new (λ q. list_any (has_include_line q) includes) → ReportsWhere old new (is_name_line aliases mailboxes includes)
reports_names aliases mailboxes includes old middle new one two q =
    reports_two old middle new (is_file_line aliases mailboxes) (λ q. list_any (has_include_line q) includes) one two q
    ∙ ap (λ b. has_text old q || b)
    (or_assoc
    (list_any (λ fault. bytes_eq q (file_line Aliases fault)) aliases)
    (list_any (λ fault. bytes_eq q (file_line Mailboxes fault)) mailboxes)
    (list_any (has_include_line q) includes))

-- the lines of the files of names, and then those of the tables, are all
pub reports_faults : (job : Job) (parsed : Parsed) (old middle new : List (List ℕ)) → AreParsed job parsed → ReportsWhere old middle (is_name_line parsed.aliases.faults parsed.mailboxes.faults job.includes)
    → ReportsWhere middle new (is_route_line parsed.transports.faults parsed.exchanges.faults) → ReportsWhere old new (has_fault_line job)
reports_faults job parsed old middle new is one two q =
    let routes = is_route_line parsed.transports.faults parsed.exchanges.faults q in
    let aliases = (alias_file_of job.aliases).faults in
    let mailboxes = (mailbox_file_of job.mailboxes).faults in
    reports_two old middle new (is_name_line parsed.aliases.faults parsed.mailboxes.faults job.includes) (is_route_line parsed.transports.faults parsed.exchanges.faults) one two q
    ∙ ap (λ a. has_text old q || (is_name_line a.faults parsed.mailboxes.faults job.includes q || routes)) is.aliases
    ∙ ap (λ m. has_text old q || (is_name_line aliases m.faults job.includes q || routes)) is.mailboxes
    ∙ ap (λ t. has_text old q || (is_name_line aliases mailboxes job.includes q || is_route_line t.faults parsed.exchanges.faults q)) is.transports
    ∙ ap (λ m. has_text old q || (is_name_line aliases mailboxes job.includes q || is_route_line (transport_table_of job.transport).faults m.faults q)) is.exchanges

-- what follows from what held of an earlier result, where that had to be there
pub on_ok_both : {A E B F P Q S : Type 0} (r : Result A E) (earlier : Result B F) → OnOk r (IsOk earlier) → OnOk earlier P → OnOk r Q → (P → Q → S) → OnOk r S
on_ok_both (Ok a) (Ok b) there p q both = both p q
on_ok_both (Ok a) (Err e) there p q both = cc
on_ok_both (Err e) earlier there p q both = tt
