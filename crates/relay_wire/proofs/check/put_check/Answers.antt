use Rattle.std.proofs.Common.{◌++◌, length, codes}
use Rattle.relay_wire.specs.CheckText.{check_line, check_text_of}
use Rattle.relay_wire.specs.PlanText.{line, lines_of}
use Rattle.relay_wire.proofs.Pieces.{four_pieces}
use Rattle.relay_wire.proofs.ScriptText.{on_written}
use Rattle.relay_wire.proofs.check.put_check.Goals as goal

pub returns : goal.returns
returns c =
    let findings = c.args.findings.now in
    let notes = c.args.notes.now in
    on_written c.extend_from_slice.result c.extend_from_slice.new.self.items c.put_lines-2.new.out.items (line (codes "end")) (c.args.out.now.items ++ check_text_of findings notes)
    c.extend_from_slice.ensures.items
    (rw (c.in_ok-put_lines-2.ensures, c.in_ok-put_lines.ensures, c.in_ok-put_check_line.ensures)
    (four_pieces c.args.out.now.items (line (check_line (length findings) (length notes))) (lines_of findings) (lines_of notes) (line (codes "end"))))
