use Rattle.relay_tables.proofs.LocalParts.{address-at_origin}
use Rattle.aliasplan_explain.proofs.asking.at_origin.Goals as goal

pub new-requires : goal.new-requires
new-requires c = rw c.as_bytes.ensures (address-at_origin c.args.name.now c.args.grounds.now.job.now.settings.origin c.requires.name c.requires.made.origin)
