-- Lemmas on the nodes of a `Links`.
use Rattle.std.proofs.Common.{◌≡◌, ℕ, ◌+◌, ◌%◌, ◌^◌, ◌<◌, ◌≤◌, List, [], ◌∷◌, ◌++◌, length, get_or, set, replicate, sym, ap, ◌∙◌, arith, length-set}
use Rattle.std.proofs.Math.Nat.{mod-eq_of_lt}
use Rattle.std.proofs.lemmas.List.{get_or-map, length-map, length-replicate, map_push}
use Rattle.relay_chains.specs.Buckets.{AreLinked}
use Rattle.relay_chains.specs.Links.{hashes_of, links_of, bucket_under, buckets_of, AreHashed}
use Rattle.relay_chains.specs.declared.links.LinkNode.{LinkNode}
use Rattle.relay_chains.proofs.Linked.{linked-none, linked-push}

pub hash_at : (nodes : List LinkNode) (number : ℕ) (other : LinkNode) → number < length nodes → get_or (hashes_of nodes) number 0 ≡ (get_or nodes number other).hash
hash_at nodes number other below = get_or-map (λ (node : LinkNode). node.hash) nodes number other 0 below

pub link_at : (nodes : List LinkNode) (number : ℕ) (other : LinkNode) → number < length nodes → get_or (links_of nodes) number 0 ≡ (get_or nodes number other).link
link_at nodes number other below = get_or-map (λ (node : LinkNode). node.link) nodes number other 0 below

pub length-hashes_of : (nodes : List LinkNode) → length (hashes_of nodes) ≡ length nodes
length-hashes_of nodes = length-map nodes (λ (node : LinkNode). node.hash)

-- with no node, nothing is in any bucket
pub hashed-none : (heads : ℕ) → 0 < heads → heads ≤ 2 ^ 32 → AreHashed (replicate heads 0) []
hashed-none heads some few = record { linked = linked-none heads some; few = rw length-replicate few }

pub length-links_of : (nodes : List LinkNode) → length (links_of nodes) ≡ length nodes
length-links_of nodes = length-map nodes (λ (node : LinkNode). node.link)

-- a node put in front of its bucket's chain
pub hashed-push : (heads : List ℕ) (nodes : List LinkNode) (bucket count : ℕ) (node : LinkNode) → AreHashed heads nodes → count ≡ length nodes + 1
    → bucket ≡ bucket_under (length heads) node.hash → bucket < length heads → node.link ≡ get_or heads bucket 0
    → AreHashed (set heads bucket count) (nodes ++ node ∷ [])
hashed-push heads nodes bucket count node hashed count_is lies inside link =
    let hashes = hashes_of nodes in
    let tags = buckets_of (length heads) hashes in
    let lies_in : bucket ≡ bucket_under (length heads) node.hash % length heads = sym (mod-eq_of_lt inside) ∙ ap (λ (b : ℕ). b % length heads) lies in
    let some : length tags + 1 ≡ count = omega (arith, length-map hashes (bucket_under (length heads)), length-hashes_of nodes) in
    let pushed : AreLinked (set heads bucket (length tags + 1)) (links_of nodes ++ get_or heads bucket 0 ∷ []) (tags ++ bucket_under (length heads) node.hash ∷ []) =
    linked-push heads (links_of nodes) tags (bucket_under (length heads) node.hash) bucket lies_in inside hashed.linked in
    record {
      linked = rw (length-set heads bucket count, map_push (λ (n : LinkNode). n.link) nodes node, map_push (λ (n : LinkNode). n.hash) nodes node, map_push (bucket_under (length heads)) hashes node.hash, link) (rw some at pushed);
      few = rw (length-set heads bucket count) hashed.few;
    }
