use Rattle.relay_text.proofs.Paths.{path_reads_back, same_address}
use Rattle.relay_text.proofs.write.one_spelling.Goals as goal

pub returns-clause-reads_back : goal.returns-clause-reads_back
returns-clause-reads_back c = path_reads_back

pub returns-clause-one_address : goal.returns-clause-one_address
returns-clause-one_address c = same_address
