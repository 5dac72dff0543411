use Rattle.std.proofs.Common.{◌≡◌, drop}
use Rattle.plan_tests.specs.declared.files.File.{File}
use Rattle.plan_tests.specs.FilesInMemory.{answer_among}
use Rattle.plan_tests.proofs.files.FilesSource.fetch.Given as goal

-- the files so far have another path
abbrev pub invariant-loop-file : goal.invariant-loop-file
invariant-loop-file l =
    let among = answer_among {F = File} (λ f. f.path.now) (λ f. f.bytes.now) in
    among l.self.files.now l.path ≡ among (drop l.file-index l.self.files.now) l.path
