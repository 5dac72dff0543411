use Rattle.relay_wire.proofs.plan.put_first_line.Goals as goal

pub returns : goal.returns
returns c = rw (c.len.ensures, c.len-2.ensures, c.requires) at c.put_counts.ensures
