use Rattle.std.proofs.Common.{◌≡◌, length, get_or}
use Rattle.relay_chains.specs.Chains.{keys_of}
use Rattle.relay_chains.proofs.Linked.{IsPassed}
use Rattle.relay_chains.proofs.chains.search.Given as goal

abbrev pub invariant-loop-word : goal.invariant-loop-word
invariant-loop-word l =
    IsPassed (length l.heads) (keys_of l.nodes) l.bucket (λ k. get_or (keys_of l.nodes) k 0 ≡ l.key → ⊥) l.word

abbrev pub decreases-loop-word : goal.decreases-loop-word
decreases-loop-word l = l.word
