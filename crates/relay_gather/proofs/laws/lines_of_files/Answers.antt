use Rattle.relay_gather.proofs.LogicalLines.{lines_of_files}
use Rattle.relay_gather.proofs.laws.lines_of_files.Goals as goal

pub returns : goal.returns
returns c = lines_of_files
