-- A whole graph is one of what the envelope reaches.
use Rattle.std.proofs.Common.{List}
use Rattle.relay_text.specs.AddressParts.{AddressParts}
use Rattle.relay_tables.specs.Directory.{Directory}
use Rattle.relay_tables.specs.GraphParts.{GraphParts}
use Rattle.relay_tables.specs.Senders.{Sender}
use Rattle.relay_tables.specs.Graphs.{IsGraphOf, IsGraphFrom}

pub from_whole : (d : Directory) (sender : Sender) (recipients : List AddressParts) (g : GraphParts) → IsGraphOf d sender recipients g → IsGraphFrom d sender recipients g
from_whole d sender recipients g is = record {
  distinct = is.distinct;
  children = is.children;
  roots = is.roots;
  senders_distinct = is.senders_distinct;
  envelope_first = is.envelope_first;
  other_senders = is.other_senders;
  after = is.after;
}
