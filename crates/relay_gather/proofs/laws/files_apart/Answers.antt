use Rattle.relay_gather.proofs.LogicalLines.{are_apart}
use Rattle.relay_gather.proofs.laws.files_apart.Goals as goal

pub returns : goal.returns
returns c = are_apart
