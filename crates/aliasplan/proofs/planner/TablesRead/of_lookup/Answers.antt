use Rattle.std.proofs.Common.{arith}
use Rattle.aliasplan.proofs.planner.TablesRead.of_lookup.Goals as goal

pub returns-in-Ok-clause-read : goal.returns-in-Ok-clause-read
returns-in-Ok-clause-read c =
    let both = c.in-Ok.ensures in
    record {
      tables = c.requires.tables;
      router = c.requires.router;
      names = both.names;
      few = omega (arith, both.names, both.within.names, c.requires.limits.names);
      owners = both.owners;
      batches = c.requires.batches;
    }
