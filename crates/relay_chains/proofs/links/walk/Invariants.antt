use Rattle.std.proofs.Common.{◌≡◌, ◌≤◌, length}
use Rattle.relay_chains.specs.Buckets.{last_in}
use Rattle.relay_chains.specs.Links.{hashes_of, bucket_under, buckets_of, last_under}
use Rattle.relay_chains.proofs.links.walk.Given as goal

abbrev pub invariant-loop-word : goal.invariant-loop-word
invariant-loop-word l = record {
  within : l.word ≤ length l.nodes;
  on_chain : last_in (length l.heads) (buckets_of (length l.heads) (hashes_of l.nodes)) (bucket_under (length l.heads) l.hash) l.word ≡ l.word;
  same : last_under (hashes_of l.nodes) l.hash l.word ≡ last_under (hashes_of l.nodes) l.hash l.start;
}

abbrev pub decreases-loop-word : goal.decreases-loop-word
decreases-loop-word l = l.word
