use Rattle.std.proofs.Common.{◌≡◌, ◌+◌, ◌++◌, take, map}
use Rattle.relay_aliasfile.specs.AliasFiles.{orphan_fault}
use Rattle.relay_aliasfile.proofs.alias_table.AliasTable.add_orphans.Given as goal

-- the faults of the lines so far were added, and nothing else
abbrev pub invariant-loop-number : goal.invariant-loop-number
invariant-loop-number l = record {
  entries : l.self.entries ≡ l.initial.self.entries;
  repeats : l.self.repeats ≡ l.initial.self.repeats;
  faults : l.self.faults.items ≡ l.initial.self.faults.items ++ map orphan_fault (map (λ n. l.passed + n) (take l.number-index l.numbers));
}
