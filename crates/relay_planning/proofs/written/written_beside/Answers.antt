use Rattle.relay_planning.proofs.written.written_beside.Goals as goal

pub returns : goal.returns
returns g c = c.join-written.ensures.second
