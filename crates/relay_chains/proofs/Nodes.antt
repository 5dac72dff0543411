-- Lemmas on the nodes of a `Chains`.
use Rattle.std.proofs.Common.{◌≡◌, ℕ, ◌+◌, ◌-◌, ◌%◌, ◌^◌, ◌<◌, ◌≤◌, None, List, [], ◌∷◌, ◌++◌, length, get_or, set, replicate, nat_eq, arith}
use Rattle.std.proofs.lemmas.Bool.Decides.{Decides-eqb}
use Rattle.std.proofs.lemmas.List.{get_or-map, length-map, length_push, map_push}
use Rattle.relay_chains.specs.Buckets.{AreLinked}
use Rattle.relay_chains.specs.Chains.{keys_of, links_of, AreChained}
use Rattle.relay_chains.specs.Keys.{number_of}
use Rattle.relay_chains.specs.declared.chains.Node.{Node}
use Rattle.relay_chains.proofs.Linked.{linked-none, linked-push}
use Rattle.relay_chains.proofs.Places.{distinct-push}

pub key_at : (nodes : List Node) (number : ℕ) (other : Node) → number < length nodes → get_or (keys_of nodes) number 0 ≡ (get_or nodes number other).key
key_at nodes number other below = get_or-map (λ (node : Node). node.key) nodes number other 0 below

pub link_at : (nodes : List Node) (number : ℕ) (other : Node) → number < length nodes → get_or (links_of nodes) number 0 ≡ (get_or nodes number other).link
link_at nodes number other below = get_or-map (λ (node : Node). node.link) nodes number other 0 below

-- with no node, nothing is in any bucket
pub chained-none : (heads limit : ℕ) → 1 ≤ heads → limit ≤ 2 ^ 32 - 2 → AreChained (replicate heads 0) [] limit
chained-none heads limit some small = record {
  linked = linked-none heads some;
  distinct = λ i j d before below. absurd (omega arith);
  within = omega arith;
  small = small;
}

-- a node with a new key, put in front of its bucket's chain
pub chained-push : (heads : List ℕ) (nodes : List Node) (limit bucket number : ℕ) (node : Node) → AreChained heads nodes limit → number ≡ length nodes
    → bucket ≡ node.key % length heads → node.link ≡ get_or heads bucket 0
    → number_of nat_eq (keys_of nodes) node.key ≡ None → (number ≡ limit → ⊥)
    → AreChained (set heads bucket (number + 1)) (nodes ++ node ∷ []) limit
chained-push heads nodes limit bucket number node chained count is link new room =
    let some = chained.linked.some_bucket in
    let pushed : AreLinked (set heads bucket (length (keys_of nodes) + 1)) (links_of nodes ++ get_or heads bucket 0 ∷ []) (keys_of nodes ++ node.key ∷ []) =
    linked-push heads (links_of nodes) (keys_of nodes) node.key bucket is (omega arith) chained.linked in
    record {
      linked = rw (map_push (λ (n : Node). n.link) nodes node, map_push (λ (n : Node). n.key) nodes node, link) (rw (length-map nodes (λ (n : Node). n.key), ← count) at pushed);
      distinct = rw (map_push (λ (n : Node). n.key) nodes node) (distinct-push nat_eq Decides-eqb (keys_of nodes) node.key chained.distinct new);
      within = omega (arith, length_push nodes node, chained.within);
      small = chained.small;
    }
