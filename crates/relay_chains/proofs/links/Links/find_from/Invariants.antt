use Rattle.std.proofs.Common.{◌≡◌, ℕ, ◌<◌, ◌≤◌, true, false, get_or, IfSome}
use Rattle.std.specs.Prelude.{unwrap_or}
use Rattle.relay_chains.specs.Links.{last_under}
use Rattle.relay_chains.proofs.links.Links.find_from.Given as goal

abbrev pub invariant-loop-next : goal.invariant-loop-next
invariant-loop-next g l = record {
  within : l.next ≤ l.word;
  under : last_under l.self l.hash l.next ≡ l.next;
  found : IfSome l.found (λ k. (k < l.word) × (get_or l.self k 0 ≡ l.hash) × goal.F-post g l.is_sought k true);
  before : (k : ℕ) → l.next ≤ k → k < unwrap_or l.found l.word → get_or l.self k 0 ≡ l.hash → goal.F-post g l.is_sought k false;
}

abbrev pub decreases-loop-next : goal.decreases-loop-next
decreases-loop-next g l = l.next
