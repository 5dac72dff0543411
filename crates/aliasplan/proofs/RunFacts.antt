-- What becomes of a run, from what its steps say.
use Rattle.std.proofs.Common.{◌≡◌, ◌≢◌, ℕ, ◌≤◌, List, length, Ok, Err, IfOk, OnOk, ap, ◌∙◌}
use Rattle.std.specs.declared.result.Result.{Result}
use Rattle.std.specs.List.{concat}
use Rattle.relay_job.specs.declared.fault.RunFault.{RunFault}
use Rattle.relay_job.specs.declared.job.Job.{Job}
use Rattle.relay_job.specs.JobText.{job_of}
use Rattle.relay_planning.specs.declared.options.Form.{Form}
use Rattle.relay_planning.specs.declared.options.Limits.{Limits}
use Rattle.relay_planning.specs.declared.written.WrittenPlan.{WrittenPlan}
use Rattle.relay_planning.specs.Limits.{IsWithin}
use Rattle.relay_planning.specs.Written.{IsWrittenFor}
use Rattle.aliasplan.specs.Outcomes.{IsAnswer}

-- what holds where a step ends with a fault holds where the run does
pub told : {A B X Y : Type 0} (e f : RunFault) (a : Result A RunFault) (b : Result B RunFault) → a ≡ Err e → b ≡ Err e → (a ≡ Err f → X) × (a ≢ Err f → Y) → (b ≡ Err f → X) × (b ≢ Err f → Y)
told e f a b is was h = (
  λ q. let same : e ≡ f = cc in h.0 (is ∙ ap (λ (x : RunFault). Err x) same),
  λ n. h.1 (λ q. let same : e ≡ f = cc in n (was ∙ ap (λ (x : RunFault). Err x) same)),
)

-- what is written of a job's plan is the answer to the bytes that the job is
pub answer_of : (limits : Limits) (form : Form) (text : List ℕ) (job : Job) (written : Result WrittenPlan RunFault)
    → length text ≤ limits.bytes
    → job_of text ≡ Ok job
    → OnOk written (IsWithin limits job)
    → IfOk written (IsWrittenFor job form)
    → IfOk written (λ w. IsAnswer limits form text (concat w.texts.items) w.summary)
answer_of limits form text job (Ok w) size read within is =
    record { size = size; job = job; read = read; within = within; plan = is.0; planned = is.1; written = is.4.0; summed = is.4.1; sound = is.2; fewest = is.3 }
answer_of limits form text job (Err fault) size read within is = tt
