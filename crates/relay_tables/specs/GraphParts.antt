-- What a `Graph` is to its callers: the nodes by their numbers, each one's children in item order, the numbers of the recipients'
-- targets, the senders by their numbers, and for each node the sender that it sets, if it sets one.
use Rattle.std.specs.Prelude.{ℕ, List, Option}
use Rattle.relay_text.specs.AddressParts.{AddressParts}
use Rattle.relay_tables.specs.declared.node.Node.{Node}

pub record GraphParts : Type 0 where
  pub nodes : List Node
  pub children : List (List ℕ)
  pub roots : List ℕ
  pub senders : List (Option AddressParts)
  pub owners : List (Option ℕ)
