use Rattle.relay_aliasfile.specs.Twins.{ArePutFirst}
use Rattle.relay_aliasfile.proofs.first_places.put_firsts.Given as goal

abbrev pub invariant-loop-index : goal.invariant-loop-index
invariant-loop-index l = ArePutFirst l.places l.firsts l.index l.fn.all l.all
