-- Why an address is in a plan or isn't.
use Rattle.std.specs.Prelude.{◌≡◌, ℕ, ◌+◌, List, [], map, slice_get, All, Contains, Bool, true, false, Option, Some, None, ◌↔◌, Err}
use Rattle.std.specs.List.{list_any}
use Rattle.relay_text.specs.AddressParts.{AddressParts}
use Rattle.relay_text.specs.TextSets.{IsAscendingBy}
use Rattle.relay_ordering.specs.Keys.{sender_cmp}
use Rattle.relay_routes.specs.declared.unrouted.Unrouted.{Unrouted as Cause}
use Rattle.relay_tables.specs.declared.node.Node.{Node}
use Rattle.relay_tables.specs.Senders.{Sender}
use Rattle.relay_trails.specs.Trails.{Trail}
use Rattle.relay_trails.specs.Chains.{IsBestBy}
use Rattle.relay_wire.specs.declared.plan.Planned.{Planned}
use Rattle.relay_wire.specs.declared.plan.Plan.{Plan}
use Rattle.relay_job.specs.declared.job.Job.{Job}
use Rattle.relay_explain.specs.Explanations.{Answer}
use Rattle.relay_explain.specs.declared.outcome.Outcome.{Outcome}
use Rattle.relay_explain.specs.declared.outcome.Outcome.TheVariants.{Transaction, Unrouted}
use Rattle.relay_explain.specs.declared.asked.Asked.{Asked}
use Rattle.relay_explain.specs.Explanations.{Explanation}
use Rattle.relay_planning.specs.Delivery.{directory_of, final_address, final_route, IsReachedPair}
use Rattle.relay_planning.specs.Report.{reason_of}
use Rattle.aliasplan_explain.specs.Targets.{target_at, stands_for, IsAskedFor}
use Rattle.aliasplan_explain.specs.ChainSteps.{AreStepsOf}
use Rattle.aliasplan_explain.specs.Decisions.{decision_of}
use Rattle.aliasplan_explain.specs.Unreached.{unreached_of}

-- the transaction before this number, counted from 1, has the address under the sender
pub record IsIn (transactions : List Planned) (sender : Sender) (a : AddressParts) (number : ℕ) : Type 0 where
  pub before : ℕ
  pub number_is : number ≡ before + 1
  pub transaction : Planned
  pub at : slice_get transactions before ≡ Some transaction
  pub from : transaction.from ≡ sender
  pub to : Contains transaction.to a

module _ (job : Job) (plan : Plan) where
  -- What becomes of a node under a sender: of an address the transaction of the plan that has it, or why it has no route; nothing of any
  -- other node.
  abbrev pub IsOutcome : Node → Sender → Option Outcome → Type 0
  IsOutcome node sender None = final_address job node ≡ None
  IsOutcome node sender (Some (Transaction number)) = (a : AddressParts) × (final_address job node ≡ Some a) × IsIn plan.transactions sender a number
  IsOutcome node sender (Some (Unrouted reason)) = (cause : Cause) × (final_route job node ≡ Some (Err cause)) × (reason_of cause ≡ Some reason)

  -- `lines`: the numbers of the recipients' lines
  module _ (lines : List ℕ) where
    -- The steps are those of the least of the shortest trails to the node under the answer's sender.
    pub record IsAnswerFor (node : Node) (answer : Answer) : Type 0 where
      pub trail : Trail
      pub best : IsBestBy (directory_of job) job.sender job.recipients (record { sender = answer.from; node = node }) trail
      pub steps : AreStepsOf job lines trail answer.steps answer.given_by
      pub outcome : IsOutcome node answer.from answer.outcome

    -- One for each sender under which the node is reached, in the order of the senders' paths.
    pub record AreAnswersFor (node : Node) (answers : List Answer) : Type 0 where
      pub ascending : IsAscendingBy (sender_cmp (λ (a : Answer). a.from)) answers
      pub senders : (sender : Sender) → Contains (map (λ (a : Answer). a.from) answers) sender ↔ IsReachedPair job (record { sender = sender; node = node })
      pub each : All (IsAnswerFor node) answers

    -- Where there is no answer, and only there, the items that lead to the node are told: no entry or include file that has one of them is
    -- reached.
    pub record IsExplanationOf (question : Asked) (e : Explanation) : Type 0 where
      pub asked : e.asked ≡ question
      pub node : Node
      pub asked_for : IsAskedFor job question node
      pub target : target_at (directory_of job) node ≡ Some e.target
      pub stands : target_at (directory_of job) (stands_for (directory_of job) question) ≡ Some e.stands_for
      pub decision : e.decision ≡ decision_of job node
      pub answers : AreAnswersFor node e.answers
      pub unreached : e.answers ≡ [] → e.unreached ≡ unreached_of job node
      pub reached : (e.answers ≡ [] → ⊥) → e.unreached ≡ []

-- some answer says that a transaction has the address
abbrev pub is_transaction : Option Outcome → Bool
is_transaction None = false
is_transaction (Some (Transaction number)) = true
is_transaction (Some (Unrouted reason)) = false

abbrev pub is_in_plan : Explanation → Bool
is_in_plan e = list_any (λ (a : Answer). is_transaction a.outcome) e.answers
