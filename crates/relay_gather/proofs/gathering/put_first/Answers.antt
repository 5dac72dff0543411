use Rattle.std.proofs.Common.{◌≡◌, ℕ, List, ◌++◌, codes, Err, subst, ◌∙◌}
use Rattle.std.proofs.lemmas.Result.{err_from_is_err_and, on_ok_weaker, IfErr-weaker}
use Rattle.relay_job.specs.declared.fault.RunFault.{RunFault}
use Rattle.relay_gather.specs.Source.{Answer, Tells, Refuses}
use Rattle.relay_gather.specs.Sections.{joined}
use Rattle.relay_gather.specs.Gathering.{named_in, joined_in, first_names, IsCutShort}
use Rattle.relay_gather.specs.Gathered.{Stops}
use Rattle.relay_gather.specs.Including.{AreFollowed, AreHalted}
use Rattle.relay_gather.proofs.Joining.{same_answers, Refuses-weaker, Stops-later}
use Rattle.relay_gather.proofs.NamedSections.{joined_adds, joined_stops, begun, cut_short, cut_early}
use Rattle.relay_gather.proofs.gathering.put_first.Goals as goal

pub returns-in_err-names-clause-err : goal.returns-in_err-names-clause-err
returns-in_err-names-clause-err g c =
    let answer : List ℕ → Answer = g.D.Source.answer c.args.source.now in
    let files = c.args.paths.now in
    let settings = named_in answer (codes "%settings") files.settings in
    let aliases = joined_in answer (codes "%aliases") files.aliases in
    let p = err_from_is_err_and c.from_residual-in_err-names.result c.from_residual-in_err-names.ensures.1 in
    let fault : RunFault = c.in_err-names.field-0.0 in
    let stops : Stops answer (settings ++ aliases) c.args.gathered.now fault =
    Stops-later answer settings aliases c.args.gathered.now c.put_named.new.gathered fault c.in_ok-put_named.ensures.ok
    (joined_stops (g.D.Source.answer c.put_named.new.source) answer c.in_ok-put_named.ensures.alike (codes "%aliases") files.aliases c.put_named.new.gathered fault c.in_err-names.ensures.err) in
    rw (p.1, p.2)
    (Refuses-weaker answer (λ (f : RunFault). joined (settings ++ aliases) c.args.gathered.now.room ≡ Err f) (IsCutShort answer files c.args.gathered.now.room)
    (λ tells f h. cut_early answer files c.args.gathered.now.room f h) fault stops)

pub returns-clause-ok : goal.returns-clause-ok
returns-clause-ok g c =
    let answer : List ℕ → Answer = g.D.Source.answer c.args.source.now in
    let files = c.args.paths.now in
    let before : (q : List ℕ) → g.D.Source.answer c.put_named.new.source q ≡ answer q = c.in_ok-put_named.ensures.alike in
    let alike : g.D.Source.answer c.put_aliases.new.source ≡ answer = same_answers (λ q. c.in_ok-names.ensures.alike q ∙ before q) in
    let names : Tells answer → c.in_ok-names.names ≡ first_names answer files.aliases =
    subst (λ (f : List ℕ → Answer). Tells f → c.in_ok-names.names ≡ first_names f files.aliases) (same_answers before) c.in_ok-names.ensures.names in
    on_ok_weaker c.put_includes.result
    (λ h tells.
    begun answer files c.args.gathered.now c.put_named.new.gathered c.put_aliases.new.gathered (c.in_ok-put_named.ensures.ok tells)
    (joined_adds (g.D.Source.answer c.put_named.new.source) answer before (codes "%aliases") files.aliases c.put_named.new.gathered c.put_aliases.new.gathered c.in_ok-names.ensures.ok tells)
    c.as_slice.result.now c.put_includes.new.gathered (c.as_slice.ensures ∙ names tells)
    (subst (λ (f : List ℕ → Answer). Tells f → AreFollowed f c.as_slice.result.now c.put_aliases.new.gathered c.put_includes.new.gathered) alike h tells))
    c.put_includes.ensures.ok

pub returns-clause-err : goal.returns-clause-err
returns-clause-err g c =
    let answer : List ℕ → Answer = g.D.Source.answer c.args.source.now in
    let files = c.args.paths.now in
    let before : (q : List ℕ) → g.D.Source.answer c.put_named.new.source q ≡ answer q = c.in_ok-put_named.ensures.alike in
    let alike : g.D.Source.answer c.put_aliases.new.source ≡ answer = same_answers (λ q. c.in_ok-names.ensures.alike q ∙ before q) in
    let names : Tells answer → c.in_ok-names.names ≡ first_names answer files.aliases =
    subst (λ (f : List ℕ → Answer). Tells f → c.in_ok-names.names ≡ first_names f files.aliases) (same_answers before) c.in_ok-names.ensures.names in
    IfErr-weaker c.put_includes.result _ (Refuses answer (IsCutShort answer files c.args.gathered.now.room))
    (λ fault h.
    Refuses-weaker answer (AreHalted answer c.as_slice.result.now c.put_aliases.new.gathered) (IsCutShort answer files c.args.gathered.now.room)
    (λ tells f k.
    cut_short answer files c.args.gathered.now c.put_named.new.gathered c.put_aliases.new.gathered (c.in_ok-put_named.ensures.ok tells)
    (joined_adds (g.D.Source.answer c.put_named.new.source) answer before (codes "%aliases") files.aliases c.put_named.new.gathered c.put_aliases.new.gathered c.in_ok-names.ensures.ok tells)
    c.as_slice.result.now f (c.as_slice.ensures ∙ names tells) k)
    fault (subst (λ (a : List ℕ → Answer). Refuses a (AreHalted a c.as_slice.result.now c.put_aliases.new.gathered) fault) alike h))
    c.put_includes.ensures.err
