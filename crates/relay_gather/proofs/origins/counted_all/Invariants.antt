use Rattle.std.proofs.Common.{◌≡◌, ℕ, List, map, take}
use Rattle.relay_gather.specs.Source.{Tells}
use Rattle.relay_gather.specs.Origins.{counted_in}
use Rattle.relay_gather.proofs.origins.counted_all.Given as goal

-- the files so far are counted
abbrev pub invariant-loop-path : goal.invariant-loop-path
invariant-loop-path g l = record {
  alike : (p : List ℕ) → g.D.Source.answer l.source p ≡ g.D.Source.answer l.fn.source p;
  files : Tells (g.D.Source.answer l.fn.source) → l.files.items ≡ map (counted_in (g.D.Source.answer l.fn.source)) (take l.path-index l.paths);
}
