use Rattle.std.proofs.Common.{◌≡◌, ℕ, ◌<◌, List, [], ◌∷◌, length, refl, ap, subst, ◌∙◌, arith, Err}
use Rattle.std.proofs.lemmas.Result.{err_from_is_err_and}
use Rattle.relay_aliasfile.specs.DistinctTexts.{with_texts}
use Rattle.relay_job.specs.declared.fault.RunFault.{RunFault}
use Rattle.relay_gather.specs.Source.{Answer, Tells}
use Rattle.relay_gather.specs.Sections.{joined}
use Rattle.relay_gather.specs.Gathering.{included_in, names_of}
use Rattle.relay_gather.specs.Gathered.{Adds, Stops}
use Rattle.relay_gather.specs.Including.{AreHalted}
use Rattle.relay_gather.proofs.Joining.{same_answers, Refuses-weaker}
use Rattle.relay_gather.proofs.Following.{texts_grow, IsFollowing-start, IsFollowing-more, IsFollowing-stop, IsFollowing-end}
use Rattle.relay_gather.proofs.includes.put_includes.Goals as goal

pub loop-place-init : goal.loop-place-init
loop-place-init g c = record {
  seen = c.in_ok-add_all.ensures.seen;
  alike = λ p. refl;
  followed = λ tells. IsFollowing-start (g.D.Source.answer c.args.source.now) c.args.first.now c.add_all.new.self.paths.items c.args.gathered.now (c.in_ok-add_all.ensures.paths ∙ ap (λ ts. with_texts ts c.args.first.now) c.new-queue.ensures.none);
  within = omega arith;
}

pub loop-place-preserved : goal.loop-place-preserved
loop-place-preserved g c =
    let answer : List ℕ → Answer = g.D.Source.answer c.args.source.now in
    let path = c.path.result.now in
    let names = c.in_ok-names.names in
    let inside : c.loop-place.place < length c.loop-place.queue.paths.items = omega (arith, c.len.ensures) in
    let alike : g.D.Source.answer c.loop-place.source ≡ answer = same_answers c.loop-place.invariant.alike in
    let paths : List (List ℕ) = c.loop-place.queue.paths.items in
    let next : List (List ℕ) = c.add_all-in-loop-place.new.self.paths.items in
    let same : c.as_slice.result.now ≡ names = c.as_slice.ensures in
    let grown : next ≡ with_texts paths names = subst (λ (ns : List (List ℕ)). next ≡ with_texts paths ns) same c.in_ok-add_all-2.ensures.paths in
    record {
      seen = c.in_ok-add_all-2.ensures.seen;
      alike = λ p. c.in_ok-names.ensures.alike p ∙ c.loop-place.invariant.alike p;
      followed = λ tells.
          IsFollowing-more answer c.args.first.now c.loop-place.place c.loop-place.queue.paths.items path names c.add_all-in-loop-place.new.self.paths.items c.args.gathered.now c.loop-place.gathered c.put_include.new.gathered
          (c.loop-place.invariant.followed tells) inside c.path.ensures
          (subst (λ (f : List ℕ → Answer). Tells f → names ≡ names_of f path) alike c.in_ok-names.ensures.names tells)
          (subst (λ (f : List ℕ → Answer). Tells f → Adds (included_in f path ∷ []) c.loop-place.gathered c.put_include.new.gathered) alike c.in_ok-names.ensures.ok tells)
          grown;
      within = omega (arith, inside, texts_grow paths names next grown);
    }

pub returns-in_err-names-clause-err : goal.returns-in_err-names-clause-err
returns-in_err-names-clause-err g c =
    let answer : List ℕ → Answer = g.D.Source.answer c.args.source.now in
    let path = c.path.result.now in
    let inside : c.loop-place.place < length c.loop-place.queue.paths.items = omega (arith, c.len.ensures) in
    let alike : g.D.Source.answer c.loop-place.source ≡ answer = same_answers c.loop-place.invariant.alike in
    let p = err_from_is_err_and c.from_residual-in_err-names.result c.from_residual-in_err-names.ensures.1 in
    let stops : Stops answer (included_in answer path ∷ []) c.loop-place.gathered c.in_err-names.field-0.0 =
    subst (λ (f : List ℕ → Answer). Stops f (included_in f path ∷ []) c.loop-place.gathered c.in_err-names.field-0.0) alike c.in_err-names.ensures.err in
    rw (p.1, p.2)
    (Refuses-weaker answer (λ (fault : RunFault). joined (included_in answer path ∷ []) c.loop-place.gathered.room ≡ Err fault) (AreHalted answer c.args.first.now c.args.gathered.now)
    (λ tells fault h. IsFollowing-stop answer c.args.first.now c.loop-place.place c.loop-place.queue.paths.items path c.args.gathered.now c.loop-place.gathered fault (c.loop-place.invariant.followed tells) inside c.path.ensures h)
    c.in_err-names.field-0.0 stops)

pub returns-clause-ok : goal.returns-clause-ok
returns-clause-ok g c = λ tells.
    IsFollowing-end (g.D.Source.answer c.args.source.now) c.args.first.now c.loop-place.place c.loop-place.queue.paths.items c.args.gathered.now c.loop-place.gathered (c.loop-place.invariant.followed tells) (omega (arith, c.len.ensures))
