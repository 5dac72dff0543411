use Rattle.std.proofs.Common.{arith, ◌<◌, ◌+◌, ℕ, Err, List, [], Vec, Global, length, refl, sym, ap, ◌∙◌, ◌++◌}
use Rattle.std.proofs.lemmas.List.{append-nil}
use Rattle.std.proofs.lemmas.Result.{err_from_is_err_and}
use Rattle.relay_aliasfile.specs.declared.entry.Entry.{Entry}
use Rattle.relay_tables.specs.declared.include_entry.IncludeEntry.{IncludeEntry}
use Rattle.relay_tables.specs.declared.fault.TableFault.{TableFault}
use Rattle.relay_tables.specs.Numbering.{Numbered, entries_of}
use Rattle.relay_tables.proofs.Assembled.{IsStart, entries_all, roots_all, entries_too_many, step_too_many, last_nodes, rows_made}
use Rattle.relay_tables.proofs.RowSteps.{same_fault, with_all-none}
use Rattle.relay_tables.proofs.building.number_all.Goals as goal
use Rattle.relay_tables.proofs.building.number_all.Goals.{In_ok-numbering}

-- the numbering begins with the entries
start : (c : In_ok-numbering) → IsStart c.args.tables.now c.args.recipients.now c.args.names c.in_ok-numbering.numbering
start c = record {
  nodes_are = ap (λ (m : Numbered). m.nodes) c.in_ok-numbering.ensures.made
      ∙ ap (λ (aliases : List Entry). entries_of (length aliases) (length c.includes.result.now)) c.aliases.ensures.entries
      ∙ ap (λ (includes : List IncludeEntry). entries_of (length c.args.tables.now.aliases) (length includes)) c.includes.ensures.entries;
  limit_is = ap (λ (m : Numbered). m.limit) c.in_ok-numbering.ensures.made;
}

pub returns-in_err-numbering-clause-full : goal.returns-in_err-numbering-clause-full
returns-in_err-numbering-clause-full c =
    let d = c.args.tables.now in
    let p = err_from_is_err_and c.from_residual.result c.from_residual.ensures.1 in
    rw (p.1, p.2)
    (λ e.
    let more = c.in_err-numbering.ensures.full (ap (λ (x : TableFault). Err x) (same_fault _ _ e)) in
    let all : c.args.names < length d.aliases + length d.includes = omega (arith, more, ap length c.aliases.ensures.entries, ap length c.includes.ensures.entries) in
    entries_too_many d c.args.recipients.now c.args.names all)

pub returns-in_err-number_entries-clause-full : goal.returns-in_err-number_entries-clause-full
returns-in_err-number_entries-clause-full c =
    let d = c.args.tables.now in
    let rs = c.args.recipients.now in
    let s = c.in_ok-numbering.numbering in
    let p = err_from_is_err_and c.from_residual-in_err-number_entries.result c.from_residual-in_err-number_entries.ensures.1 in
    rw (p.1, p.2)
    (λ e.
    step_too_many d rs (Unit {0}) c.in_err-number_entries.field-0.0 c.args.names s s c.number_entries.new.names [] (entries_all d) (roots_all d rs)
    (start (goal.at.returns-in_err-number_entries-clause-full c).In_ok-numbering) (sym (with_all-none s)) refl c.in_err-number_entries.ensures.numbers (same_fault _ _ e))

pub returns-in_err-roots-clause-full : goal.returns-in_err-roots-clause-full
returns-in_err-roots-clause-full c =
    let d = c.args.tables.now in
    let rs = c.args.recipients.now in
    let p = err_from_is_err_and c.from_residual-in_err-roots.result c.from_residual-in_err-roots.ensures.1 in
    rw (p.1, p.2)
    (λ e.
    step_too_many d rs (Vec ℕ Global) c.in_err-roots.field-0.0 c.args.names c.in_ok-numbering.numbering c.number_entries.new.names c.number_recipients.new.names (entries_all d) (roots_all d rs) []
    (start (goal.at.returns-in_err-roots-clause-full c).In_ok-numbering) c.in_ok-number_entries.ensures.numbers (sym (append-nil (entries_all d ++ roots_all d rs))) c.in_err-roots.ensures.numbers (same_fault _ _ e))

pub returns-clause-rows : goal.returns-clause-rows
returns-clause-rows c =
    rows_made c.args.tables.now c.args.recipients.now c.args.names c.in_ok-numbering.numbering c.number_entries.new.names c.number_recipients.new.names _ c.in_ok-roots.roots.items _
    (start (goal.at.returns-clause-rows c).In_ok-numbering) c.in_ok-number_entries.ensures.numbers c.in_ok-roots.ensures.numbers c.in_ok-number_entries.ensures.rows c.in_ok-roots.ensures.roots c.into_nodes.ensures.nodes

pub returns-clause-within : goal.returns-clause-within
returns-clause-within c =
    let last = last_nodes c.args.tables.now c.args.recipients.now c.args.names c.in_ok-numbering.numbering c.number_entries.new.names c.number_recipients.new.names
    (start (goal.at.returns-clause-within c).In_ok-numbering) c.in_ok-number_entries.ensures.numbers c.in_ok-roots.ensures.numbers in
    omega (arith, last.1, ap length last.0, c.into_nodes.ensures.within)
