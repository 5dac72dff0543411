use Rattle.std.proofs.Common.{◌≡◌, ℕ, List, drop}
use Rattle.relay_gather.specs.Source.{Tells, file}
use Rattle.relay_gather.specs.JoinedFiles.{joined_files}
use Rattle.relay_gather.proofs.files.joined_file.Given as goal

-- the files so far are joined
abbrev pub invariant-loop-path : goal.invariant-loop-path
invariant-loop-path g l = record {
  alike : (p : List ℕ) → g.D.Source.answer l.source p ≡ g.D.Source.answer l.fn.source p;
  joins : Tells (g.D.Source.answer l.fn.source) →
      joined_files (g.D.Source.answer l.fn.source) (file l.text.items) (drop l.path-index l.later) ≡ joined_files (g.D.Source.answer l.fn.source) (g.D.Source.answer l.fn.source l.fn.first) l.later;
}
