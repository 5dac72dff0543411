use Rattle.std.proofs.Common.{◌≡◌, length, take}
use Rattle.relay_chains.specs.Buckets.{AreLinked}
use Rattle.relay_chains.specs.Links.{hashes_of, links_of, buckets_of}
use Rattle.relay_chains.proofs.links.relink.Given as goal

abbrev pub invariant-loop-number : goal.invariant-loop-number
invariant-loop-number l = record {
  hashes : hashes_of l.nodes ≡ hashes_of l.fn.nodes;
  linked : AreLinked l.heads (take l.number (links_of l.nodes)) (take l.number (buckets_of (length l.heads) (hashes_of l.nodes)));
}
