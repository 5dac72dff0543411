-- What an explanation says. Its telling has the lines of the steps in place of the steps.
use Rattle.std.specs.Prelude.{List, Option}
use Rattle.relay_text.specs.AddressParts.{AddressParts}
use Rattle.relay_explain.specs.declared.asked.Asked.{Asked}
use Rattle.relay_explain.specs.declared.decision.Decision.{Decision}
use Rattle.relay_explain.specs.declared.given_by.GivenBy.{GivenBy}
use Rattle.relay_explain.specs.declared.listed.Listed.{Listed}
use Rattle.relay_explain.specs.declared.outcome.Outcome.{Outcome}
use Rattle.relay_explain.specs.declared.step.Step.{Step}
use Rattle.relay_explain.specs.declared.target.Target.{Target}

-- why something is reached under a sender: the steps from a recipient on, who gives the sender, and what becomes of an address
pub record Answer : Type 0 where
  pub steps : List Step
  pub from : Option AddressParts
  pub given_by : GivenBy
  pub outcome : Option Outcome

-- why what is asked for is reached, or isn't
pub record Explanation : Type 0 where
  pub asked : Asked
  pub target : Target
  pub decision : Option Decision
  pub answers : List Answer
  pub stands_for : Target
  pub unreached : List Listed
