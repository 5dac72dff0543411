use Rattle.std.proofs.Common.{arith}
use Rattle.relay_aliasfile.proofs.FirstByTwins.{none_put, put_more}
use Rattle.relay_aliasfile.proofs.first_places.put_firsts.Goals as goal

pub loop-index-init : goal.loop-index-init
loop-index-init c = none_put c.args.places.now c.args.firsts.now c.args.all.now

pub loop-index-preserved : goal.loop-index-preserved
loop-index-preserved c = put_more c.args.places.now c.args.firsts.now c.loop-index.index c.args.all.now c.loop-index.all c.requires.ascending c.requires.within (omega arith) c.loop-index.invariant
