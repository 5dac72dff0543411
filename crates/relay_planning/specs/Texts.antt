-- The lines of a job's files and tables that are at fault.
use Rattle.std.specs.Prelude.{ℕ, Bool, ◌||◌, List}
use Rattle.std.specs.List.{list_any}
use Rattle.std.specs.Str.{bytes_eq}
use Rattle.relay_aliasfile.specs.AliasFiles.{alias_file_of}
use Rattle.relay_aliasfile.specs.IncludeFiles.{include_file_of}
use Rattle.relay_aliasfile.specs.MailboxFiles.{mailbox_file_of}
use Rattle.relay_aliasfile.specs.declared.fault.LineFault.{LineFault}
use Rattle.relay_routes.specs.declared.fault.LineFault.{LineFault as TableLineFault}
use Rattle.relay_routes.specs.Transports.{transport_table_of}
use Rattle.relay_routes.specs.Exchanges.{mx_table_of}
use Rattle.relay_wire.specs.declared.finding.Finding.{Finding}
use Rattle.relay_wire.specs.declared.finding.Finding.TheVariants as findings
use Rattle.relay_wire.specs.Findings.{finding_text_of}
use Rattle.relay_job.specs.declared.job.Job.{Job}
use Rattle.relay_job.specs.declared.job.JobInclude.{JobInclude}
use Rattle.relay_planning.specs.declared.job_file.JobFile.{JobFile}
use Rattle.relay_planning.specs.declared.job_file.JobFile.TheVariants.{Aliases, Include, Mailboxes}
use Rattle.relay_planning.specs.declared.table.Table.{Table}
use Rattle.relay_planning.specs.declared.table.Table.TheVariants as tables
use Rattle.relay_planning.specs.Report.{word_of, table_word_of}

abbrev pub file_finding : JobFile → LineFault → Finding
file_finding Aliases fault = findings.Aliases fault.line (word_of fault.kind)
file_finding (Include path) fault = findings.Include path.now fault.line (word_of fault.kind)
file_finding Mailboxes fault = findings.Mailboxes fault.line (word_of fault.kind)

abbrev pub file_line : JobFile → LineFault → List ℕ
file_line job_file fault = finding_text_of (file_finding job_file fault)

abbrev pub table_finding : Table → TableLineFault → Finding
table_finding tables.Transport fault = findings.Transport fault.line (table_word_of fault.kind)
table_finding tables.Mx fault = findings.Mx fault.line (table_word_of fault.kind)

abbrev pub table_line : Table → TableLineFault → List ℕ
table_line table fault = finding_text_of (table_finding table fault)

-- one of an include file's lines at fault
abbrev pub include_line : List ℕ → LineFault → List ℕ
include_line path fault = finding_text_of (findings.Include path fault.line (word_of fault.kind))

abbrev pub has_include_line : List ℕ → JobInclude → Bool
has_include_line q i = list_any (λ fault. bytes_eq q (include_line i.path fault)) (include_file_of i.bytes).faults

-- one of the lines at fault of an alias file, a mailbox file or include files
abbrev pub is_name_line : List LineFault → List LineFault → List JobInclude → List ℕ → Bool
is_name_line aliases mailboxes includes q =
    list_any (λ fault. bytes_eq q (file_line Aliases fault)) aliases
    || (list_any (λ fault. bytes_eq q (file_line Mailboxes fault)) mailboxes
    || list_any (has_include_line q) includes)

-- one of the lines at fault of a transport table or a table of exchangers
abbrev pub is_route_line : List TableLineFault → List TableLineFault → List ℕ → Bool
is_route_line transports exchanges q =
    list_any (λ fault. bytes_eq q (table_line tables.Transport fault)) transports
    || list_any (λ fault. bytes_eq q (table_line tables.Mx fault)) exchanges

-- one of the lines at fault of an alias file or a mailbox file
abbrev pub is_file_line : List LineFault → List LineFault → List ℕ → Bool
is_file_line aliases mailboxes q =
    list_any (λ fault. bytes_eq q (file_line Aliases fault)) aliases
    || list_any (λ fault. bytes_eq q (file_line Mailboxes fault)) mailboxes

-- one of a job's lines at fault
abbrev pub has_fault_line : Job → List ℕ → Bool
has_fault_line job q =
    is_name_line (alias_file_of job.aliases).faults (mailbox_file_of job.mailboxes).faults job.includes q
    || is_route_line (transport_table_of job.transport).faults (mx_table_of job.mx).faults q
