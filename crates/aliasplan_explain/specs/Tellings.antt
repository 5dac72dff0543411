-- What is told of a job's addresses.
use Rattle.std.specs.Prelude.{ℕ, List, map, All, Bool, Contains, Option, Some, ◌↔◌}
use Rattle.std.specs.List.{list_any}
use Rattle.relay_text.specs.TextSets.{IsAscendingBy}
use Rattle.relay_ordering.specs.Keys.{sender_cmp}
use Rattle.relay_tables.specs.declared.node.Node.{Node}
use Rattle.relay_tables.specs.Senders.{Sender}
use Rattle.relay_wire.specs.declared.plan.Plan.{Plan}
use Rattle.relay_job.specs.declared.job.Job.{Job}
use Rattle.relay_explain.specs.declared.asked.Asked.{Asked}
use Rattle.relay_explain.specs.declared.telling.Telling.{Telling}
use Rattle.relay_explain.specs.declared.told.Told.{Told}
use Rattle.relay_explain.specs.Explanations.{Answer, Explanation}
use Rattle.relay_explain.specs.Tellings.{IsTold, IsToldBy}
use Rattle.relay_planning.specs.Delivery.{IsReachedPair}
use Rattle.aliasplan_explain.specs.Explanations.{is_transaction, IsAnswerFor, IsExplanationOf}

-- the sender of what is told, as it stands among a graph's senders
abbrev pub told_sender : Told → Option Sender
told_sender t = Some t.from

module _ (job : Job) (plan : Plan) (lines : List ℕ) where
  -- an answer for a node is told
  abbrev pub IsToldFor : Node → Told → Type 0
  IsToldFor node t = (a : Answer) × IsAnswerFor job plan lines node a × IsTold a t

  -- one for each sender under which the node is reached, in the order of the senders' paths
  pub record AreToldFor (node : Node) (told : List Told) : Type 0 where
    pub ascending : IsAscendingBy (sender_cmp (λ (t : Told). t.from)) told
    pub senders : (sender : Sender) → Contains (map (λ (t : Told). t.from) told) sender ↔ IsReachedPair job (record { sender = sender; node = node })
    pub each : All (IsToldFor node) told

  -- an explanation is told
  abbrev pub IsTellingOf : Asked → Telling → Type 0
  IsTellingOf question t = (e : Explanation) × IsExplanationOf job plan lines question e × IsToldBy e t

-- some answer says that a transaction has the address
abbrev pub has_transaction : Telling → Bool
has_transaction t = list_any (λ (told : Told). is_transaction told.outcome) t.answers
