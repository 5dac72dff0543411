use Rattle.std.proofs.Common.{◌≡◌, ℕ, ◌+◌, ◌%◌, ◌<◌, List, [], ◌∷◌, ◌++◌, length, take, get_or, set, sym, ap, ◌∙◌, refl, arith, length-set}
use Rattle.std.proofs.lemmas.List.{map-set, set-get_or, get_or-map, take_more, take_more_set, length-take-le, length-map}
use Rattle.std.proofs.Math.Seq.{map-set_same}
use Rattle.std.proofs.Math.Nat.{mod-eq_of_lt}
use Rattle.relay_chains.specs.Buckets.{AreLinked}
use Rattle.relay_chains.specs.Links.{hashes_of, links_of, bucket_under, buckets_of}
use Rattle.relay_chains.specs.declared.links.LinkNode.{LinkNode}
use Rattle.relay_chains.proofs.LinkNodes.{hash_at, length-hashes_of, length-links_of}
use Rattle.relay_chains.proofs.Linked.{linked-none, linked-push}
use Rattle.relay_chains.proofs.links.relink.Goals as goal

pub loop-number-init : goal.loop-number-init
loop-number-init c = record { hashes = refl; linked = rw c.requires.empty (linked-none (length c.args.heads.now) c.requires.some) }

-- a node linked in front of its bucket's chain
linked-more : (heads : List ℕ) (nodes : List LinkNode) (number bucket : ℕ) (node : LinkNode) → number < length nodes
    → AreLinked heads (take number (links_of nodes)) (take number (buckets_of (length heads) (hashes_of nodes)))
    → node.hash ≡ get_or (hashes_of nodes) number 0 → node.link ≡ get_or heads bucket 0
    → bucket ≡ bucket_under (length heads) (get_or (hashes_of nodes) number 0) → bucket < length heads
    → AreLinked (set heads bucket (number + 1)) (take (number + 1) (links_of (set nodes number node)))
    (take (number + 1) (buckets_of (length (set heads bucket (number + 1))) (hashes_of (set nodes number node))))
linked-more heads nodes number bucket node below linked hash link lies inside =
    let hashes = hashes_of nodes in
    let tags = buckets_of (length heads) hashes in
    let tag = get_or tags number 0 in
    let in_hashes : number < length hashes = omega (arith, length-hashes_of nodes) in
    let in_links : number < length (links_of nodes) = omega (arith, length-links_of nodes) in
    let in_tags : number < length tags = omega (arith, length-map hashes (bucket_under (length heads))) in
    let tag_is : bucket ≡ tag = lies ∙ sym (get_or-map (bucket_under (length heads)) hashes number 0 0 in_hashes) in
    let lies_in : bucket ≡ tag % length heads = sym (mod-eq_of_lt inside) ∙ ap (λ (b : ℕ). b % length heads) tag_is in
    let some : length (take number tags) ≡ number = length-take-le number tags (omega arith) in
    let pushed : AreLinked (set heads bucket (length (take number tags) + 1)) (take number (links_of nodes) ++ get_or heads bucket 0 ∷ []) (take number tags ++ tag ∷ []) =
    linked-push heads (take number (links_of nodes)) (take number tags) tag bucket lies_in inside linked in
    let same_hashes : hashes_of (set nodes number node) ≡ hashes = map-set (λ (n : LinkNode). n.hash) nodes number node ∙ ap (set hashes number) hash ∙ set-get_or hashes number 0 in
    let new_links : take (number + 1) (links_of (set nodes number node)) ≡ take number (links_of nodes) ++ get_or heads bucket 0 ∷ [] =
    ap (take (number + 1)) (map-set (λ (n : LinkNode). n.link) nodes number node) ∙ take_more_set (links_of nodes) number node.link in_links
    ∙ ap (λ (l : ℕ). take number (links_of nodes) ++ l ∷ []) link in
    rw (new_links, same_hashes, length-set heads bucket (number + 1), take_more tags number 0 in_tags) (rw some at pushed)

pub loop-number-preserved : goal.loop-number-preserved
loop-number-preserved c =
    let nodes = c.loop-number.nodes in
    let number = c.loop-number.number in
    let below : number < length nodes = omega arith in
    let node : LinkNode = record { hash = (get_or nodes number (record { hash = 0; link = 0 })).hash; link = get_or c.loop-number.heads c.bucket_of-bucket.result 0 } in
    record {
      hashes = map-set_same (λ (n : LinkNode). n.hash) nodes number node (record { hash = 0; link = 0 }) refl ∙ c.loop-number.invariant.hashes;
      linked = linked-more c.loop-number.heads nodes number c.bucket_of-bucket.result node below c.loop-number.invariant.linked
          (sym (hash_at nodes number _ below)) refl (c.bucket_of-bucket.ensures.bucket ∙ ap (bucket_under (length c.loop-number.heads)) (sym (hash_at nodes number _ below))) c.bucket_of-bucket.ensures.below;
    }
