use Rattle.relay_aliasfile.proofs.FileSizes.{entries_fit, items_fit, names_fit}
use Rattle.relay_aliasfile.proofs.counts.file_counts.Goals as goal

pub returns : goal.returns
returns c = record { entries = entries_fit; items = items_fit; names = names_fit }
