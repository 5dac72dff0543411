use Rattle.std.proofs.Common.{◌++◌, codes, append_assoc}
use Rattle.relay_wire.specs.PlanText.{line, lines_of}
use Rattle.relay_wire.proofs.ScriptText.{on_written}
use Rattle.relay_wire.proofs.plan.put_last_lines.Goals as goal

pub returns : goal.returns
returns c =
    let findings = lines_of c.args.plan.now.findings in
    on_written c.extend_from_slice.result c.extend_from_slice.new.self.items c.put_each_line.new.out.items (line (codes "end")) (c.args.out.now.items ++ (findings ++ line (codes "end")))
    c.extend_from_slice.ensures.items
    (rw (c.in_ok-put_each_line.ensures, c.as_slice.ensures) (append_assoc c.args.out.now.items findings (line (codes "end"))))
