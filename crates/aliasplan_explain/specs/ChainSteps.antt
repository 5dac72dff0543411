-- The chain of steps that a trail is, and where the sender after it comes from (local(8) of Postfix, "owner-aliasname").
use Rattle.std.specs.Prelude.{◌≡◌, ℕ, List, [], ◌∷◌, slice_get, Option, Some, None}
use Rattle.relay_text.specs.AddressParts.{AddressParts}
use Rattle.relay_aliasfile.specs.declared.entry.Entry.{Entry as AliasEntry}
use Rattle.relay_tables.specs.declared.node.Node.{Node}
use Rattle.relay_tables.specs.declared.node.Node.TheVariants as nodes
use Rattle.relay_tables.specs.GraphParts.{GraphParts}
use Rattle.relay_tables.specs.Targets.{targets_of, recipient_target}
use Rattle.relay_tables.specs.Senders.{owner_entry}
use Rattle.relay_trails.specs.Trails.{Trail}
use Rattle.relay_job.specs.declared.job.Job.{Job}
use Rattle.relay_explain.specs.declared.given_by.GivenBy.{GivenBy}
use Rattle.relay_explain.specs.declared.given_by.GivenBy.TheVariants as given
use Rattle.relay_explain.specs.declared.listed.Listed.{Listed}
use Rattle.relay_explain.specs.declared.step.Mention.TheVariants as mentions
use Rattle.relay_explain.specs.declared.step.Step.{Step}
use Rattle.relay_planning.specs.Delivery.{directory_of}
use Rattle.aliasplan_explain.specs.Targets.{target_at}
use Rattle.aliasplan_explain.specs.Rows.{listed_by}

module _ (job : Job) where
  -- who gives the sender of what a node leads to: the owner of an alias that has one, else who gave it before
  abbrev pub given_or : GivenBy → Option AliasEntry → GivenBy
  given_or before None = before
  given_or before (Some owner) = given.Alias owner.name owner.line

  abbrev pub given_past : GivenBy → Node → GivenBy
  given_past before (nodes.Alias number) = given_or before (owner_entry (directory_of job) number)
  given_past before (nodes.Include number) = before
  given_past before (nodes.Mailbox a) = before
  given_past before (nodes.Remote a) = before
  given_past before (nodes.Missing name) = before
  given_past before (nodes.NoInclude path) = before
  given_past before (nodes.Command text) = before
  given_past before (nodes.File path) = before

  -- who gives the sender, by the number of the owner alias that does
  abbrev pub given_at : Option ℕ → GivenBy
  given_at None = given.Envelope
  given_at (Some number) = given_or given.Envelope (slice_get (directory_of job).aliases number)

  -- who gives the sender past some nodes, by their numbers
  abbrev pub IsGivenPast : GraphParts → GivenBy → List ℕ → GivenBy → Type 0
  IsGivenPast g before [] after = after ≡ before
  IsGivenPast g before (n ∷ numbers) after = (node : Node) × (slice_get g.nodes n ≡ Some node) × IsGivenPast g (given_past before node) numbers after

  -- a step from a node by its item of a number
  pub record IsStepTo (from : Node) (item : ℕ) (to : Node) (step : Step) : Type 0 where
    pub leads : slice_get (targets_of (directory_of job) from) item ≡ Some to
    pub listed : Listed
    pub stands : slice_get (listed_by job from) item ≡ Some listed
    pub mention : step.mention ≡ mentions.Item listed
    pub target : target_at (directory_of job) to ≡ Some step.target

  -- The steps from a node by items, and who gave the sender before them and after them.
  abbrev pub AreStepsFrom : Node → GivenBy → List ℕ → List Step → GivenBy → Type 0
  AreStepsFrom from before [] [] after = after ≡ before
  AreStepsFrom from before [] (step ∷ steps) after = ⊥
  AreStepsFrom from before (item ∷ items) [] after = ⊥
  AreStepsFrom from before (item ∷ items) (step ∷ steps) after = (to : Node) × IsStepTo from item to step × AreStepsFrom to (given_past before from) items steps after

  -- The steps of a trail: a recipient on its line, and then item after item. `lines`: the numbers of the recipients' lines.
  pub record AreStepsOf (lines : List ℕ) (t : Trail) (steps : List Step) (after : GivenBy) : Type 0 where
    pub recipient : AddressParts
    pub recipient_is : slice_get job.recipients t.recipient ≡ Some recipient
    pub line : ℕ
    pub line_is : slice_get lines t.recipient ≡ Some line
    pub first : Step
    pub more : List Step
    pub steps_are : steps ≡ first ∷ more
    pub mention : first.mention ≡ mentions.Recipient line recipient
    pub target : target_at (directory_of job) (recipient_target (directory_of job) recipient) ≡ Some first.target
    pub walk : AreStepsFrom (recipient_target (directory_of job) recipient) given.Envelope t.items more after
