use Rattle.std.proofs.Common.{Err, refl, ap, subst}
use Rattle.std.proofs.lemmas.Result.{err_from_is_err_and}
use Rattle.relay_job.specs.declared.fault.RunFault.TheVariants.{Read, Write}
use Rattle.aliasplan.specs.Outcomes.{IsReadFault}
use Rattle.aliasplan_each.proofs.FaultFacts.{told, untold, never-err, ended-else, refuses-read, refuses-bytes}
use Rattle.aliasplan_each.proofs.running.run_each.Goals as goal

pub returns-in_err-input-clause-refuses : goal.returns-in_err-input-clause-refuses
returns-in_err-input-clause-refuses g c =
    let p = err_from_is_err_and c.from_residual.result c.from_residual.ensures.1 in
    rw (p.1, p.2) (refuses-read c.args.crew.now.limits _ _ c.in_err-input.ensures.only (λ e. c.in_err-input.ensures.too_long (ap Err e)))

pub returns-in_err-input-clause-read : goal.returns-in_err-input-clause-read
returns-in_err-input-clause-read g c =
    let p = err_from_is_err_and c.from_residual.result c.from_residual.ensures.1 in
    rw (p.1, p.2) (told _ _ _ _ refl refl c.in_err-input.ensures.read)

pub returns-in_err-input-clause-write : goal.returns-in_err-input-clause-write
returns-in_err-input-clause-write g c =
    let p = err_from_is_err_and c.from_residual.result c.from_residual.ensures.1 in
    rw (p.1, p.2) (untold _ _ _ refl (λ e. subst IsReadFault e c.in_err-input.ensures.only) c.requires.writer)

pub returns-in_err-input-clause-ended : goal.returns-in_err-input-clause-ended
returns-in_err-input-clause-ended g c =
    let p = err_from_is_err_and c.from_residual.result c.from_residual.ensures.1 in
    rw (p.1, p.2) (ended-else _ _ refl c.in_err-input.ensures.only)

pub returns-in_err-text-clause-refuses : goal.returns-in_err-text-clause-refuses
returns-in_err-text-clause-refuses g c =
    let p = err_from_is_err_and c.from_residual-in_err-text.result c.from_residual-in_err-text.ensures.1 in
    rw (p.1, p.2) (refuses-bytes c.args.crew.now.limits _ _ _ c.in_ok-input.ensures.all (rw c.as_bytes.ensures at c.in_err-text.ensures.refused))

pub returns-in_err-text-clause-read : goal.returns-in_err-text-clause-read
returns-in_err-text-clause-read g c =
    let p = err_from_is_err_and c.from_residual-in_err-text.result c.from_residual-in_err-text.ensures.1 in
    let refused = c.in_err-text.ensures.refused in
    rw (p.1, p.2) (untold _ Read _ refl (λ e. rw e at refused) (c.in_ok-input.ensures.read.1 (never-err _ _ _ refl)))

pub returns-in_err-text-clause-write : goal.returns-in_err-text-clause-write
returns-in_err-text-clause-write g c =
    let p = err_from_is_err_and c.from_residual-in_err-text.result c.from_residual-in_err-text.ensures.1 in
    let refused = c.in_err-text.ensures.refused in
    rw (p.1, p.2) (untold _ Write _ refl (λ e. rw e at refused) c.requires.writer)
