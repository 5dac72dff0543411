use Rattle.std.proofs.Common.{◌≡◌, ◌+◌, ◌++◌, take, map}
use Rattle.relay_routes.specs.PatternLines.{orphan_faults}
use Rattle.relay_routes.proofs.pattern_lines.PatternLines.add_orphans.Given as goal

-- the faults of the lines so far were added, and nothing else
abbrev pub invariant-loop-number : goal.invariant-loop-number
invariant-loop-number l = record {
  entries : l.self.entries.items ≡ l.initial.self.entries.items;
  faults : l.self.faults.items ≡ l.initial.self.faults.items ++ orphan_faults (map (λ n. l.passed + n) (take l.number-index l.orphans));
}
