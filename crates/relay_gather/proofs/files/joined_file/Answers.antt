use Rattle.std.proofs.Common.{◌≡◌, ℕ, List, subst, ◌∙◌, arith}
use Rattle.std.proofs.lemmas.Result.{err_from_is_err_and}
use Rattle.relay_job.specs.declared.fault.RunFault.{RunFault}
use Rattle.relay_job.specs.declared.fault.RunFault.TheVariants.{Read}
use Rattle.relay_gather.specs.Source.{Answer, Tells, Refuses, file}
use Rattle.relay_gather.specs.Fetching.{IsNoFile}
use Rattle.relay_gather.specs.JoinedFiles.{joined_files}
use Rattle.relay_gather.proofs.Joining.{same_answers, Refuses-weaker}
use Rattle.relay_gather.proofs.JoinedFiles.{no_file_later, no_file_next, file_next, both_put}
use Rattle.relay_gather.proofs.files.joined_file.Goals as goal

pub returns-in_err-text-clause-err : goal.returns-in_err-text-clause-err
returns-in_err-text-clause-err g c =
    let answer : List ℕ → Answer = g.D.Source.answer c.args.source.now in
    let first = c.args.first.now in
    let later = c.args.later.now in
    let p = err_from_is_err_and c.from_residual.result c.from_residual.ensures.1 in
    let here : Refuses answer (λ (fault : RunFault). (fault ≡ Read) × IsNoFile (answer first)) c.in_err-text.field-0.0 =
    subst (λ (path : List ℕ). Refuses answer (λ (fault : RunFault). (fault ≡ Read) × IsNoFile (answer path)) c.in_err-text.field-0.0) c.as_bytes.ensures c.in_err-text.ensures.err in
    rw (p.1, p.2)
    (Refuses-weaker answer (λ (fault : RunFault). (fault ≡ Read) × IsNoFile (answer first)) (λ (fault : RunFault). (fault ≡ Read) × IsNoFile (joined_files answer (answer first) later))
    (λ tells fault h. (h.0, no_file_later answer (answer first) later h.1)) c.in_err-text.field-0.0 here)

pub returns-in_err-next-clause-err : goal.returns-in_err-next-clause-err
returns-in_err-next-clause-err g c =
    let answer : List ℕ → Answer = g.D.Source.answer c.args.source.now in
    let first = c.args.first.now in
    let later = c.args.later.now in
    let path = c.path-item.result in
    let alike : g.D.Source.answer c.loop-path.source ≡ answer = same_answers c.loop-path.invariant.alike in
    let p = err_from_is_err_and c.from_residual-in_err-next.result c.from_residual-in_err-next.ensures.1 in
    let asked : Refuses (g.D.Source.answer c.loop-path.source) (λ (fault : RunFault). (fault ≡ Read) × IsNoFile (g.D.Source.answer c.loop-path.source path)) c.in_err-next.field-0.0 =
    subst (λ (q : List ℕ). Refuses (g.D.Source.answer c.loop-path.source) (λ (fault : RunFault). (fault ≡ Read) × IsNoFile (g.D.Source.answer c.loop-path.source q)) c.in_err-next.field-0.0) c.as_bytes-in-loop-path.ensures c.in_err-next.ensures.err in
    let here : Refuses answer (λ (fault : RunFault). (fault ≡ Read) × IsNoFile (answer path)) c.in_err-next.field-0.0 =
    subst (λ (f : List ℕ → Answer). Refuses f (λ (fault : RunFault). (fault ≡ Read) × IsNoFile (f path)) c.in_err-next.field-0.0) alike asked in
    rw (p.1, p.2)
    (Refuses-weaker answer (λ (fault : RunFault). (fault ≡ Read) × IsNoFile (answer path)) (λ (fault : RunFault). (fault ≡ Read) × IsNoFile (joined_files answer (answer first) later))
    (λ tells fault h. (h.0, no_file_next answer c.loop-path.text.items later c.loop-path.path-index path (joined_files answer (answer first) later) (omega arith) c.path-item.is (c.loop-path.invariant.joins tells) h.1))
    c.in_err-next.field-0.0 here)

pub loop-path-preserved : goal.loop-path-preserved
loop-path-preserved g c =
    let answer : List ℕ → Answer = g.D.Source.answer c.args.source.now in
    let first = c.args.first.now in
    let later = c.args.later.now in
    let path = c.path-item.result in
    let text = c.loop-path.text.items in
    let next = c.in_ok-next.next.items in
    let alike : g.D.Source.answer c.loop-path.source ≡ answer = same_answers c.loop-path.invariant.alike in
    let told : Tells answer → answer path ≡ file next =
    subst (λ (f : List ℕ → Answer). Tells f → f path ≡ file next) alike
    (subst (λ (q : List ℕ). Tells (g.D.Source.answer c.loop-path.source) → g.D.Source.answer c.loop-path.source q ≡ file next) c.as_bytes-in-loop-path.ensures c.in_ok-next.ensures.file) in
    let put = both_put text next c.put_end.new.text.items c.as_slice.result.now c.put_lines.new.text.items c.in_ok-put_end.ensures c.as_slice.ensures.value c.in_ok-put_lines.ensures in
    record {
      alike = λ p. c.in_ok-next.ensures.alike p ∙ c.loop-path.invariant.alike p;
      joins = λ tells.
          file_next answer text next c.put_lines.new.text.items later c.loop-path.path-index path (joined_files answer (answer first) later) (omega arith) c.path-item.is (c.loop-path.invariant.joins tells) (told tells) put;
    }
