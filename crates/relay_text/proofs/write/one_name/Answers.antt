use Rattle.relay_text.proofs.Paths.{short_name_reads_back}
use Rattle.relay_text.proofs.write.one_name.Goals as goal

pub returns : goal.returns
returns c = short_name_reads_back
