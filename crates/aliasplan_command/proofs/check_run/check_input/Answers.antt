use Rattle.std.proofs.Common.{◌∙◌, List, ℕ, ap}
use Rattle.std.proofs.lemmas.Result.{err_from_is_err_and}
use Rattle.relay_wire.specs.CheckText.{check_text_of}
use Rattle.aliasplan_command.proofs.CheckFaults.{refuses_tables, refuses_scope}
use Rattle.aliasplan_command.proofs.check_run.check_input.Goals as goal

pub returns-in_err-tables-clause-refused : goal.returns-in_err-tables-clause-refused
returns-in_err-tables-clause-refused g c =
    let p = err_from_is_err_and c.from_residual.result c.from_residual.ensures.1 in
    rw (p.1, p.2) (refuses_tables c.args.crew.now.limits c.args.scope c.args.input.now c.requires c.in_err-tables.field-0.0 c.in_err-tables.ensures)

pub returns-in_err-lines-clause-refused : goal.returns-in_err-lines-clause-refused
returns-in_err-lines-clause-refused g c =
    let p = err_from_is_err_and c.from_residual-in_err-lines.result c.from_residual-in_err-lines.ensures.1 in
    rw (p.1, p.2) (refuses_scope c.args.crew.now.limits c.args.input.now c.requires c.in_ok-tables.tables c.in_ok-tables.ensures c.args.scope c.in_err-lines.field-0.0 c.in_err-lines.ensures.refused)

pub returns-clause-checked : goal.returns-clause-checked
returns-clause-checked g c = record {
  size = c.requires;
  tables = c.in_ok-tables.tables;
  read = c.in_ok-tables.ensures;
  lines = c.in_ok-lines.lines;
  checked = c.in_ok-lines.ensures.lines;
  written =
      c.in_ok-text.ensures
      ∙ ap (λ (findings : List (List ℕ)). check_text_of findings c.as_slice-2.result.now) c.as_slice.ensures
      ∙ ap (check_text_of c.in_ok-lines.lines) (c.as_slice-2.ensures ∙ c.in_ok-notes.ensures);
  counted = c.len.ensures;
}
