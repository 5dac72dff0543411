-- The plan of a job.
use Rattle.std.specs.Prelude.{◌≡◌, ℕ, List, Contains, ◌↔◌}
use Rattle.relay_text.specs.TextSets.{text_cmp, IsAscendingBy}
use Rattle.relay_wire.specs.declared.plan.Planned.{Planned}
use Rattle.relay_wire.specs.declared.plan.Plan.{Plan}
use Rattle.relay_delivery.specs.Groups as groups
use Rattle.relay_job.specs.declared.job.Job.{Job}
use Rattle.relay_job.specs.Settings.{limit_of}
use Rattle.relay_planning.specs.Delivery.{IsPlaced}
use Rattle.relay_planning.specs.Report.{IsFindingLine, IsOwnFindingLine}

module _ (job : Job) where
  -- The transactions of what is placed: its groups by sender, transport and nexthop, each cut into consecutive batches within its
  -- transport's limit, the last perhaps shorter.
  abbrev pub AreTransactionsOf : List Planned → Type 0
  AreTransactionsOf transactions = groups.AreTransactionsOf (limit_of job.settings) (IsPlaced job) transactions

  -- Any list of transactions that delivers what is placed and nothing else, within the limits, in whatever order, however grouped or cut.
  abbrev pub IsSoundFor : List Planned → Type 0
  IsSoundFor transactions = groups.IsSoundFor (limit_of job.settings) (IsPlaced job) transactions

  -- no sound list of transactions is shorter
  abbrev pub IsFewest : List Planned → Type 0
  IsFewest transactions = groups.IsFewest (limit_of job.settings) (IsPlaced job) transactions

  -- The plan: its transactions, and the lines of the findings in byte order, each once.
  pub record IsPlanOf (plan : Plan) : Type 0 where
    pub hostname : plan.hostname ≡ job.settings.hostname
    pub transactions : AreTransactionsOf plan.transactions
    pub findings_ascending : IsAscendingBy text_cmp plan.findings
    pub findings : (line : List ℕ) → Contains plan.findings line ↔ IsFindingLine job line

  -- A plan whose findings are the lines of which `IsLine` holds.
  pub record IsPlanWith (IsLine : List ℕ → Type 0) (plan : Plan) : Type 0 where
    pub hostname : plan.hostname ≡ job.settings.hostname
    pub transactions : AreTransactionsOf plan.transactions
    pub findings_ascending : IsAscendingBy text_cmp plan.findings
    pub findings : (line : List ℕ) → Contains plan.findings line ↔ IsLine line

  -- The plan with the findings of what is reached alone, without the lines of files and tables that are at fault.
  abbrev pub IsOwnPlanOf : Plan → Type 0
  IsOwnPlanOf = IsPlanWith (IsOwnFindingLine job)
