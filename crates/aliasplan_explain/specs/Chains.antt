-- The chains to what is asked for.
use Rattle.std.specs.Prelude.{◌≡◌, ℕ, List, map, All, Option, Some}
use Rattle.relay_tables.specs.declared.node.Node.{Node}
use Rattle.relay_tables.specs.GraphParts.{GraphParts}
use Rattle.relay_tables.specs.Senders.{Sender}
use Rattle.relay_trails.specs.declared.found.Found.{Found}
use Rattle.relay_trails.specs.Trails.{Trail}
use Rattle.relay_trails.specs.Chains.{AreBestBy, IsBestBy, senders_of}
use Rattle.relay_job.specs.declared.job.Job.{Job}
use Rattle.relay_explain.specs.declared.asked.Asked.{Asked}
use Rattle.relay_planning.specs.Delivery.{directory_of, IsReachedPair}
use Rattle.aliasplan_explain.specs.declared.lines.ChainLines.{ChainLines}
use Rattle.aliasplan_explain.specs.declared.chains.Chains.{Chains}
use Rattle.aliasplan_explain.specs.Stretches.{AreLinesOf}
use Rattle.aliasplan_explain.specs.Targets.{IsAskedFor}

-- the sender after a chain, as it stands among a graph's senders
abbrev pub chain_sender : ChainLines → Option Sender
chain_sender c = Some c.from

module _ (job : Job) (lines : List ℕ) (node : Node) where
  -- the lines of a best trail to the node under its sender
  pub record IsChainTo (c : ChainLines) : Type 0 where
    pub trail : Trail
    pub best : IsBestBy (directory_of job) job.sender job.recipients (record { sender = c.from; node = node }) trail
    pub are : AreLinesOf job lines trail c.lines.items c.given_by
    pub reached : IsReachedPair job (record { sender = c.from; node = node })

  -- one for each sender under which the node is reached, and for no other
  pub record AreChainsTo (g : GraphParts) (chains : List ChainLines) : Type 0 where
    pub found : List Found
    pub best : AreBestBy (directory_of job) job.sender job.recipients g node found
    pub senders : map chain_sender chains ≡ senders_of g found
    pub each : All IsChainTo chains

-- those to the node that is asked for
pub record LeadToAsked (job : Job) (g : GraphParts) (lines : List ℕ) (question : Asked) (c : Chains) : Type 0 where
  pub node : IsAskedFor job question c.node
  pub chains : AreChainsTo job lines c.node g c.lines.items
