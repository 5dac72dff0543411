use Rattle.std.proofs.Common.{rules, ◌≡◌, ℕ, ◌^◌, ◌<◌, List, length, get_or, ap, ◌∙◌, arith}
use Rattle.std.proofs.lemmas.List.{get_or_read}
use Rattle.relay_chains.specs.Links.{hashes_of, bucket_under, AreHashed}
use Rattle.relay_chains.specs.declared.links.LinkNode.{LinkNode}
use Rattle.relay_chains.proofs.LinkNodes.{length-hashes_of}
use Rattle.relay_chains.proofs.Under.{LeadsOn, leads-head, bucket_under_lt}
use Rattle.relay_chains.proofs.links.Links.newest.Goals as goal

-- the head that is read leads to all numbers under the hash
head_leads : (heads : List ℕ) (nodes : List LinkNode) (hash bucket head : ℕ) → AreHashed heads nodes → hash < 2 ^ 32 → bucket ≡ bucket_under (length heads) hash
    → head ≡ get_or heads bucket head → LeadsOn (length heads) (hashes_of nodes) hash (length nodes) head
head_leads heads nodes hash bucket head hashed small lies read =
    let inside : bucket_under (length heads) hash < length heads = bucket_under_lt (length heads) hash hashed.linked.some_bucket small in
    let head_is : head ≡ get_or heads (bucket_under (length heads) hash) 0 = get_or_read heads bucket head (omega arith) read 0 ∙ ap (λ (b : ℕ). get_or heads b 0) lies in
    rw (head_is, ← length-hashes_of nodes) (leads-head heads _ (hashes_of nodes) hash hashed.linked inside)

pub walk-requires-clause-within : goal.walk-requires-clause-within
walk-requires-clause-within c =
    let lies : c.bucket_of.result ≡ bucket_under (length c.self.inside.heads.items) c.args.hash = search rules in
    let leads = head_leads c.self.inside.heads.items c.self.inside.nodes.items c.args.hash c.bucket_of.result c.index-head.result.now c.self.invariant c.ranges.hash.fits lies c.index-head.ensures in
    rw c.deref-2.ensures.value leads.within

pub walk-requires-clause-on_chain : goal.walk-requires-clause-on_chain
walk-requires-clause-on_chain c =
    let lies : c.bucket_of.result ≡ bucket_under (length c.self.inside.heads.items) c.args.hash = search rules in
    let leads = head_leads c.self.inside.heads.items c.self.inside.nodes.items c.args.hash c.bucket_of.result c.index-head.result.now c.self.invariant c.ranges.hash.fits lies c.index-head.ensures in
    rw (c.deref-2.ensures.value, c.deref.ensures.value) leads.on_chain

pub returns : goal.returns
returns c =
    let lies : c.bucket_of.result ≡ bucket_under (length c.self.inside.heads.items) c.args.hash = search rules in
    let leads = head_leads c.self.inside.heads.items c.self.inside.nodes.items c.args.hash c.bucket_of.result c.index-head.result.now c.self.invariant c.ranges.hash.fits lies c.index-head.ensures in
    rw (← c.self.view_is, length-hashes_of c.self.inside.nodes.items) (rw c.deref-2.ensures.value at c.walk.ensures ∙ leads.same)
