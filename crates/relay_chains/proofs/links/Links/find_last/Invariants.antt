use Rattle.std.proofs.Common.{◌≡◌, ℕ, ◌<◌, ◌≤◌, false, length, get_or}
use Rattle.relay_chains.specs.Links.{last_under}
use Rattle.relay_chains.proofs.links.Links.find_last.Given as goal

abbrev pub invariant-loop-word : goal.invariant-loop-word
invariant-loop-word g l = record {
  within : l.word ≤ length l.self;
  under : last_under l.self l.hash l.word ≡ l.word;
  after : (k : ℕ) → l.word ≤ k → k < length l.self → get_or l.self k 0 ≡ l.hash → goal.F-post g l.is_sought k false;
}

abbrev pub decreases-loop-word : goal.decreases-loop-word
decreases-loop-word g l = l.word
