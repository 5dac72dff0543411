-- Parts of trails, and the lines of their steps.
use Rattle.std.specs.Prelude.{◌≡◌, ℕ, ◌+◌, ◌<◌, ◌≤◌, List, [], ◌∷◌, map, length, slice_get, slice_index, slice_index_or, Some}
use Rattle.relay_text.specs.AddressParts.{AddressParts}
use Rattle.relay_tables.specs.declared.node.Node.{Node}
use Rattle.relay_tables.specs.GraphParts.{GraphParts}
use Rattle.relay_tables.specs.Targets.{recipient_target}
use Rattle.relay_trails.specs.declared.found.Found.{Found}
use Rattle.relay_trails.specs.Trails.{Trail}
use Rattle.relay_job.specs.declared.job.Job.{Job}
use Rattle.relay_wire.specs.PlanText.{line, lines_of}
use Rattle.relay_explain.specs.declared.given_by.GivenBy.{GivenBy}
use Rattle.relay_explain.specs.declared.step.Mention.TheVariants as mentions
use Rattle.relay_explain.specs.declared.step.Step.{Step}
use Rattle.relay_explain.specs.ExplanationText.{step_line}
use Rattle.relay_explain.specs.PiecedTexts.{text_of}
use Rattle.relay_planning.specs.Delivery.{directory_of}
use Rattle.aliasplan_explain.specs.declared.stretch.Stretch.{Stretch}
use Rattle.aliasplan_explain.specs.Targets.{target_at}
use Rattle.aliasplan_explain.specs.ChainSteps.{AreStepsOf, IsStepTo}

-- parts that follow one another from a place to another
abbrev pub AreStretches : ℕ → List Stretch → ℕ → Type 0
AreStretches from [] to = from ≡ to
AreStretches from (s ∷ stretches) to = (s.start ≡ from) × (s.start ≤ s.end) × AreStretches s.end stretches to

module _ (job : Job) (g : GraphParts) (found : Found) where
  -- the step by the trail's item of a number
  abbrev pub IsStepAt : ℕ → Step → Type 0
  IsStepAt k step = (a b : Node) → slice_get g.nodes (slice_index found.nodes.items k) ≡ Some a → slice_get g.nodes (slice_index found.nodes.items (k + 1)) ≡ Some b → IsStepTo job a (slice_index found.items.items k) b step

  -- those by the items from a number to the one before another
  pub record AreStepsAt (start end : ℕ) (steps : List Step) : Type 0 where
    pub long : start + length steps ≡ end
    pub each : (k : ℕ) (d : Step) → k < length steps → IsStepAt (start + k) (slice_index_or steps k d)

  -- their lines
  abbrev pub IsTextOf : ℕ → ℕ → List ℕ → Type 0
  IsTextOf start end text = (steps : List Step) × AreStepsAt start end steps × (text ≡ lines_of (map step_line steps))

-- the line of the step to a recipient's target
pub record IsFirstLine (job : Job) (lines : List ℕ) (recipient : ℕ) (text : List ℕ) : Type 0 where
  pub step : Step
  pub mention : (line : ℕ) (address : AddressParts) → slice_get lines recipient ≡ Some line → slice_get job.recipients recipient ≡ Some address → step.mention ≡ mentions.Recipient line address
  pub target : (address : AddressParts) → slice_get job.recipients recipient ≡ Some address → target_at (directory_of job) (recipient_target (directory_of job) address) ≡ Some step.target
  pub text_is : text ≡ line (step_line step)

-- the lines of the steps of a trail
pub record AreLinesOf (job : Job) (lines : List ℕ) (t : Trail) (texts : List (List ℕ)) (after : GivenBy) : Type 0 where
  pub steps : List Step
  pub are : AreStepsOf job lines t steps after
  pub texts_are : text_of texts ≡ lines_of (map step_line steps)
