use Rattle.aliasplan.proofs.planner.Planner.by_crew.Goals as goal

pub invariant_of-result : goal.invariant_of-result
invariant_of-result g c = record {
  read = c.in-Ok.ensures.read;
  origin = c.parsed_tables.ensures.origin c.requires.tables.0 c.args.tables c.requires.tables.2;
  faults = c.in-Ok.ensures.findings;
}
