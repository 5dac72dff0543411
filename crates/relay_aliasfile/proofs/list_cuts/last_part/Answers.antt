use Rattle.std.proofs.Common.{◌-◌, length, arith}
use Rattle.relay_aliasfile.proofs.CutLists.{texts_behind}
use Rattle.relay_aliasfile.proofs.list_cuts.last_part.Goals as goal

pub returns-clause-texts : goal.returns-clause-texts
returns-clause-texts c =
    let found = c.in_ok-comma.ensures in
    texts_behind c.args.list.now (length c.args.list.now - c.max.result) c.in_ok-comma.field-0 c.requires (omega arith) found.0.high found.1
