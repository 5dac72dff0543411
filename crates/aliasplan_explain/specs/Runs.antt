-- What becomes of a job's bytes and a question.
use Rattle.std.specs.Prelude.{◌≡◌, ℕ, ◌≤◌, Bool, List, length, take, Option, Ok}
use Rattle.std.specs.Io.KnownBytes.{Appends}
use Rattle.relay_wire.specs.declared.plan.Plan.{Plan}
use Rattle.relay_job.specs.declared.job.Job.{Job}
use Rattle.relay_job.specs.JobText.{job_of}
use Rattle.relay_job.specs.RecipientLines.{recipient_lines_of}
use Rattle.relay_explain.specs.declared.asked.Asked.{Asked}
use Rattle.relay_explain.specs.Explanations.{Explanation}
use Rattle.relay_explain.specs.ExplanationText.{explanation_text_of}
use Rattle.relay_planning.specs.declared.options.Limits.{Limits}
use Rattle.relay_planning.specs.Limits.{IsWithin}
use Rattle.relay_planning.specs.Plans.{IsPlanOf}
use Rattle.aliasplan_explain.specs.Explanations.{IsExplanationOf, is_in_plan}

-- the text of the explanation, and whether the address is in the plan
pub record IsExplained (limits : Limits) (question : Asked) (input text : List ℕ) (in_plan : Bool) : Type 0 where
  pub size : length input ≤ limits.bytes
  pub job : Job
  pub read : job_of input ≡ Ok job
  pub within : IsWithin limits job
  pub plan : Plan
  pub planned : IsPlanOf job plan
  pub explanation : Explanation
  pub explained : IsExplanationOf job plan (recipient_lines_of input) question explanation
  pub written : text ≡ explanation_text_of explanation
  pub told : in_plan ≡ is_in_plan explanation

-- that text is written
pub record Explains (limits : Limits) (question : Asked) (input : List ℕ) (old new : Option (List ℕ)) (in_plan : Bool) : Type 0 where
  pub text : List ℕ
  pub due : IsExplained limits question input text in_plan
  pub written : Appends old new text

-- A failed write: a front of that text is written behind what was there.
pub record WritesExplanationFront (limits : Limits) (question : Asked) (input : List ℕ) (old new : Option (List ℕ)) : Type 0 where
  pub text : List ℕ
  pub in_plan : Bool
  pub due : IsExplained limits question input text in_plan
  pub count : ℕ
  pub written : Appends old new (take count text)
