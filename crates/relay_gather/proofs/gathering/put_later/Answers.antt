use Rattle.std.proofs.Common.{◌≡◌, ℕ, List, ◌++◌, codes, Result, ◌∙◌}
use Rattle.std.proofs.lemmas.Result.{err_from_is_err_and, on_ok_weaker, IfErr-weaker}
use Rattle.relay_job.specs.declared.fault.RunFault.{RunFault}
use Rattle.relay_gather.specs.Source.{Answer, Tells}
use Rattle.relay_gather.specs.Gathering.{named_in, joined_in, back_sections}
use Rattle.relay_gather.specs.Gathered.{Adds, Stops}
use Rattle.relay_gather.proofs.Joining.{Adds-more, Stops-first, Stops-later}
use Rattle.relay_gather.proofs.NamedSections.{named_adds, named_stops, joined_adds, joined_stops}
use Rattle.relay_gather.proofs.gathering.put_later.Goals as goal

pub returns-in_err-put_joined-clause-err : goal.returns-in_err-put_joined-clause-err
returns-in_err-put_joined-clause-err g c =
    let answer : List ℕ → Answer = g.D.Source.answer c.args.source.now in
    let files = c.args.paths.now in
    let mailboxes : List (Result (List ℕ) RunFault) = named_in answer (codes "%mailboxes") files.mailboxes in
    let transport : List (Result (List ℕ) RunFault) = joined_in answer (codes "%transport") files.transport in
    let mx : List (Result (List ℕ) RunFault) = named_in answer (codes "%mx") files.mx in
    let envelope : List (Result (List ℕ) RunFault) = named_in answer (codes "%envelope") files.envelope in
    let start = c.args.gathered.now in
    let p = err_from_is_err_and c.from_residual-in_err-put_joined.result c.from_residual-in_err-put_joined.ensures.1 in
    let fault : RunFault = c.in_err-put_joined.field-0.0 in
    let second : (q : List ℕ) → g.D.Source.answer c.put_named.new.source q ≡ answer q = c.in_ok-put_named.ensures.alike in
    let here = joined_stops (g.D.Source.answer c.put_named.new.source) answer second (codes "%transport") files.transport c.put_named.new.gathered fault c.in_err-put_joined.ensures.err in
    rw (p.1, p.2)
    (Stops-first answer (mailboxes ++ transport ++ mx) envelope start fault
    (Stops-first answer (mailboxes ++ transport) mx start fault
    (Stops-later answer mailboxes transport start c.put_named.new.gathered fault c.in_ok-put_named.ensures.ok here)))

pub returns-in_err-put_named-2-clause-err : goal.returns-in_err-put_named-2-clause-err
returns-in_err-put_named-2-clause-err g c =
    let answer : List ℕ → Answer = g.D.Source.answer c.args.source.now in
    let files = c.args.paths.now in
    let mailboxes : List (Result (List ℕ) RunFault) = named_in answer (codes "%mailboxes") files.mailboxes in
    let transport : List (Result (List ℕ) RunFault) = joined_in answer (codes "%transport") files.transport in
    let mx : List (Result (List ℕ) RunFault) = named_in answer (codes "%mx") files.mx in
    let envelope : List (Result (List ℕ) RunFault) = named_in answer (codes "%envelope") files.envelope in
    let start = c.args.gathered.now in
    let p = err_from_is_err_and c.from_residual-in_err-put_named-2.result c.from_residual-in_err-put_named-2.ensures.1 in
    let fault : RunFault = c.in_err-put_named-2.field-0.0 in
    let second : (q : List ℕ) → g.D.Source.answer c.put_named.new.source q ≡ answer q = c.in_ok-put_named.ensures.alike in
    let third : (q : List ℕ) → g.D.Source.answer c.put_joined.new.source q ≡ answer q = λ q. c.in_ok-put_joined.ensures.alike q ∙ second q in
    let first_two : Tells answer → Adds (mailboxes ++ transport) start c.put_joined.new.gathered = λ tells.
    Adds-more mailboxes transport start c.put_named.new.gathered c.put_joined.new.gathered (c.in_ok-put_named.ensures.ok tells)
    (joined_adds (g.D.Source.answer c.put_named.new.source) answer second (codes "%transport") files.transport c.put_named.new.gathered c.put_joined.new.gathered c.in_ok-put_joined.ensures.ok tells) in
    let here = named_stops (g.D.Source.answer c.put_joined.new.source) answer third (codes "%mx") files.mx c.put_joined.new.gathered fault c.in_err-put_named-2.ensures.err in
    rw (p.1, p.2)
    (Stops-first answer (mailboxes ++ transport ++ mx) envelope start fault
    (Stops-later answer (mailboxes ++ transport) mx start c.put_joined.new.gathered fault first_two here))

pub returns-clause-ok : goal.returns-clause-ok
returns-clause-ok g c =
    let answer : List ℕ → Answer = g.D.Source.answer c.args.source.now in
    let files = c.args.paths.now in
    let mailboxes : List (Result (List ℕ) RunFault) = named_in answer (codes "%mailboxes") files.mailboxes in
    let transport : List (Result (List ℕ) RunFault) = joined_in answer (codes "%transport") files.transport in
    let mx : List (Result (List ℕ) RunFault) = named_in answer (codes "%mx") files.mx in
    let envelope : List (Result (List ℕ) RunFault) = named_in answer (codes "%envelope") files.envelope in
    let start = c.args.gathered.now in
    let second : (q : List ℕ) → g.D.Source.answer c.put_named.new.source q ≡ answer q = c.in_ok-put_named.ensures.alike in
    let third : (q : List ℕ) → g.D.Source.answer c.put_joined.new.source q ≡ answer q = λ q. c.in_ok-put_joined.ensures.alike q ∙ second q in
    let fourth : (q : List ℕ) → g.D.Source.answer c.put_named-2.new.source q ≡ answer q = λ q. c.in_ok-put_named-2.ensures.alike q ∙ third q in
    on_ok_weaker c.put_named-3.result
    (λ h tells.
    Adds-more (mailboxes ++ transport ++ mx) envelope start c.put_named-2.new.gathered c.put_named-3.new.gathered
    (Adds-more (mailboxes ++ transport) mx start c.put_joined.new.gathered c.put_named-2.new.gathered
    (Adds-more mailboxes transport start c.put_named.new.gathered c.put_joined.new.gathered (c.in_ok-put_named.ensures.ok tells)
    (joined_adds (g.D.Source.answer c.put_named.new.source) answer second (codes "%transport") files.transport c.put_named.new.gathered c.put_joined.new.gathered c.in_ok-put_joined.ensures.ok tells))
    (named_adds (g.D.Source.answer c.put_joined.new.source) answer third (codes "%mx") files.mx c.put_joined.new.gathered c.put_named-2.new.gathered c.in_ok-put_named-2.ensures.ok tells))
    (named_adds (g.D.Source.answer c.put_named-2.new.source) answer fourth (codes "%envelope") files.envelope c.put_named-2.new.gathered c.put_named-3.new.gathered h tells))
    c.put_named-3.ensures.ok

pub returns-clause-err : goal.returns-clause-err
returns-clause-err g c =
    let answer : List ℕ → Answer = g.D.Source.answer c.args.source.now in
    let files = c.args.paths.now in
    let mailboxes : List (Result (List ℕ) RunFault) = named_in answer (codes "%mailboxes") files.mailboxes in
    let transport : List (Result (List ℕ) RunFault) = joined_in answer (codes "%transport") files.transport in
    let mx : List (Result (List ℕ) RunFault) = named_in answer (codes "%mx") files.mx in
    let envelope : List (Result (List ℕ) RunFault) = named_in answer (codes "%envelope") files.envelope in
    let start = c.args.gathered.now in
    let second : (q : List ℕ) → g.D.Source.answer c.put_named.new.source q ≡ answer q = c.in_ok-put_named.ensures.alike in
    let third : (q : List ℕ) → g.D.Source.answer c.put_joined.new.source q ≡ answer q = λ q. c.in_ok-put_joined.ensures.alike q ∙ second q in
    let fourth : (q : List ℕ) → g.D.Source.answer c.put_named-2.new.source q ≡ answer q = λ q. c.in_ok-put_named-2.ensures.alike q ∙ third q in
    let first_three : Tells answer → Adds (mailboxes ++ transport ++ mx) start c.put_named-2.new.gathered = λ tells.
    Adds-more (mailboxes ++ transport) mx start c.put_joined.new.gathered c.put_named-2.new.gathered
    (Adds-more mailboxes transport start c.put_named.new.gathered c.put_joined.new.gathered (c.in_ok-put_named.ensures.ok tells)
    (joined_adds (g.D.Source.answer c.put_named.new.source) answer second (codes "%transport") files.transport c.put_named.new.gathered c.put_joined.new.gathered c.in_ok-put_joined.ensures.ok tells))
    (named_adds (g.D.Source.answer c.put_joined.new.source) answer third (codes "%mx") files.mx c.put_joined.new.gathered c.put_named-2.new.gathered c.in_ok-put_named-2.ensures.ok tells) in
    IfErr-weaker c.put_named-3.result _ (Stops answer (back_sections answer files) start)
    (λ fault h.
    Stops-later answer (mailboxes ++ transport ++ mx) envelope start c.put_named-2.new.gathered fault first_three
    (named_stops (g.D.Source.answer c.put_named-2.new.source) answer fourth (codes "%envelope") files.envelope c.put_named-2.new.gathered fault h))
    c.put_named-3.ensures.err
