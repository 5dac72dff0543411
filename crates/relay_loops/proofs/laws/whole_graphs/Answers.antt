use Rattle.relay_loops.proofs.Whole.{whole_part}
use Rattle.relay_loops.proofs.laws.whole_graphs.Goals as goal

pub returns : goal.returns
returns c = whole_part
