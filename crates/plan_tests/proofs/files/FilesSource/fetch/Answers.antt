use Rattle.std.proofs.Common.{◌≡◌, ℕ, ◌+◌, ◌<◌, List, ◌∷◌, true, false, length, get_or, drop, drop-cons, add-one, sym, ap, subst, ◌∙◌}
use Rattle.std.specs.Str.{bytes_eq}
use Rattle.std.proofs.lemmas.Bool.{cond-true, cond-false}
use Rattle.relay_gather.specs.Source.{Answer, GivesFile, file}
use Rattle.plan_tests.specs.declared.files.File.{File}
use Rattle.plan_tests.specs.FilesInMemory.{answer_among}
use Rattle.plan_tests.proofs.files.FilesSource.fetch.Goals as goal

abbrev among : List File → List ℕ → Answer
among = answer_among (λ f. f.path.now) (λ f. f.bytes.now)

-- the first of the files that are left has the path, or the others answer
module _ (files : List File) (i : ℕ) (d : File) (asked : List ℕ) (inside : i < length files) where
  split : among (drop i files) asked ≡ among (get_or files i d ∷ drop (i + 1) files) asked
  split = rw (add-one, drop-cons files i d)

  found : bytes_eq (get_or files i d).path.now asked ≡ true → among (drop i files) asked ≡ file (get_or files i d).bytes.now
  found e = split ∙ cond-true _ _ _ e

  passed : bytes_eq (get_or files i d).path.now asked ≡ false → among (drop i files) asked ≡ among (drop (i + 1) files) asked
  passed e = split ∙ cond-false _ _ _ e

pub returns-then-eq-clause-file : goal.returns-then-eq-clause-file
returns-then-eq-clause-file c =
    let is = c.loop-file.invariant ∙ found c.args.self.now.files.now c.loop-file.file-index _ c.args.path.now c.loop-file-test.true (sym c.eq.ensures ∙ c.if-eq.true) in
    subst (λ (a : Answer). GivesFile a c.in-Ok.bytes.items) (sym is) c.in-Ok.ensures.items

pub loop-file-preserved : goal.loop-file-preserved
loop-file-preserved c =
    c.loop-file.invariant ∙ passed c.args.self.now.files.now c.loop-file.file-index _ c.args.path.now c.loop-file-test.true (sym c.eq.ensures ∙ c.if-eq.false)
