use Rattle.std.proofs.Common.{◌≡◌, ◌⊎◌, ℕ, List, [], ◌∷◌, ◌++◌, Bool, true, false, refl, sym, ap, ◌∙◌, subst, inl, inr}
use Rattle.std.specs.Prelude.{Ok, Err, if◌then◌else◌}
use Rattle.std.specs.Str.{bytes_eq}
use Rattle.std.proofs.lemmas.Result.{err_from_is_err_and}
use Rattle.relay_job.specs.declared.fault.RunFault.{RunFault}
use Rattle.relay_job.specs.declared.fault.RunFault.TheVariants.{Read, TooLong, BadJob, BadSetting, BadEnvelope, TooManyNames, TooManyOwners, TooManyPairs, Write, Memory}
use Rattle.relay_gather.specs.declared.paths.Paths.{Paths}
use Rattle.relay_gather.specs.Source.{Answer, Tells, absent, file, unknown}
use Rattle.relay_gather.specs.Gathering.{IsGathered}
use Rattle.aliasplan.specs.Gathering.{Gathers, IsUngathered}
use Rattle.plan_tests.specs.declared.files.File.{File}
use Rattle.plan_tests.specs.FilesInMemory.{answer_among}
use Rattle.plan_tests.proofs.proved.gathered.Goals as goal

-- ---- files in memory tell each answer
module _ {F : Type 0} (path bytes : F → List ℕ) where
  tells : (files : List F) → Tells (answer_among path bytes files)
  tells [] asked e = cc
  tells (f ∷ files) asked e = at (bytes_eq (path f) asked) (tells files asked) e where
    at : (b : Bool) → (answer_among path bytes files asked ≡ unknown → ⊥) → (if b then file (bytes f) else answer_among path bytes files asked) ≡ unknown → ⊥
    at true later e = cc
    at false later e = later e

-- ---- so what is gathered is judged
module _ (answer : List ℕ → Answer) (paths : Paths) (max : ℕ) (told : Tells answer) where
  judged : (fault : RunFault) → IsUngathered answer paths max fault → IsGathered answer paths max (Err fault) ⊎ ((fault ≡ Memory) ⊎ (fault ≡ Write))
  judged Read h = inl (h told)
  judged TooLong h = inl (h told)
  judged (BadJob line) h = absurd h
  judged (BadSetting line) h = absurd h
  judged (BadEnvelope line) h = absurd h
  judged TooManyNames h = absurd h
  judged TooManyOwners h = absurd h
  judged TooManyPairs h = absurd h
  judged Memory h = inr (inl refl)
  judged Write h = inr (inr refl)

abbrev among : List File → List ℕ → Answer
among = answer_among (λ f. f.path.now) (λ f. f.bytes.now)

pub returns-in_err-gather-clause-refused : goal.returns-in_err-gather-clause-refused
returns-in_err-gather-clause-refused c =
    let told : Tells (among c.args.files.now) = tells (λ (f : File). f.path.now) (λ (f : File). f.bytes.now) c.args.files.now in
    let p = err_from_is_err_and c.from_residual.result c.from_residual.ensures.1 in
    rw (p.1, p.2) (judged (among c.args.files.now) c.args.paths.now c.args.max told c.in_err-gather.field-0.0 c.in_err-gather.ensures.refused)

pub returns-clause-text : goal.returns-clause-text
returns-clause-text c =
    let told : Tells (among c.args.files.now) = tells (λ (f : File). f.path.now) (λ (f : File). f.bytes.now) c.args.files.now in
    let g = c.in_ok-gather.ensures.gathered in
    let is : c.of.result ≡ g.text = c.of.ensures ∙ g.written ∙ ap (λ (l : List ℕ). l ++ g.text) c.blank-writer.ensures.nothing in
    subst (λ (text : List ℕ). IsGathered (among c.args.files.now) c.args.paths.now c.args.max (Ok text)) (sym is) (g.gathered told)
