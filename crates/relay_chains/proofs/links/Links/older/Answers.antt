use Rattle.std.proofs.Common.{◌≡◌, ℕ, ◌-◌, ◌^◌, ◌<◌, List, length, get_or, sym, ap, ◌∙◌, arith}
use Rattle.relay_chains.specs.Links.{hashes_of, links_of, AreHashed}
use Rattle.relay_chains.specs.declared.links.LinkNode.{LinkNode}
use Rattle.relay_chains.proofs.LinkNodes.{link_at, length-hashes_of}
use Rattle.relay_chains.proofs.Under.{LeadsOn, leads-link, in_bucket, bucket_under_lt}
use Rattle.relay_chains.proofs.links.Links.older.Goals as goal

-- the link that is read leads to all numbers under the hash before its node
link_leads : (heads : List ℕ) (nodes : List LinkNode) (hash number : ℕ) (node : LinkNode) → AreHashed heads nodes → hash < 2 ^ 32 → number < length nodes
    → get_or (hashes_of nodes) number 0 ≡ hash → node ≡ get_or nodes number node → LeadsOn (length heads) (hashes_of nodes) hash number node.link
link_leads heads nodes hash number node hashed small below here read =
    let inside = bucket_under_lt (length heads) hash hashed.linked.some_bucket small in
    let within : number < length (hashes_of nodes) = omega (arith, length-hashes_of nodes) in
    let link : node.link ≡ get_or (links_of nodes) number 0 = ap (λ (n : LinkNode). n.link) read ∙ sym (link_at nodes number node below) in
    rw link (leads-link heads (links_of nodes) (hashes_of nodes) hash number hashed.linked inside within (in_bucket (length heads) (hashes_of nodes) hash number inside within here))

pub walk-requires-clause-within : goal.walk-requires-clause-within
walk-requires-clause-within c =
    let nodes = c.self.inside.nodes.items in
    let below : c.args.word - 1 < length nodes = omega (arith, c.requires.some, rw (← c.self.view_is, length-hashes_of nodes) at c.requires.within) in
    let leads = link_leads c.self.inside.heads.items nodes c.args.hash (c.args.word - 1) c.index.result.now c.self.invariant c.ranges.hash.fits below (rw (← c.self.view_is) at c.requires.under) c.index.ensures in
    rw c.deref-2.ensures.value (omega (arith, leads.within, below))

pub walk-requires-clause-on_chain : goal.walk-requires-clause-on_chain
walk-requires-clause-on_chain c =
    let nodes = c.self.inside.nodes.items in
    let below : c.args.word - 1 < length nodes = omega (arith, c.requires.some, rw (← c.self.view_is, length-hashes_of nodes) at c.requires.within) in
    let leads = link_leads c.self.inside.heads.items nodes c.args.hash (c.args.word - 1) c.index.result.now c.self.invariant c.ranges.hash.fits below (rw (← c.self.view_is) at c.requires.under) c.index.ensures in
    rw (c.deref-2.ensures.value, c.deref.ensures.value) leads.on_chain

pub returns : goal.returns
returns c =
    let nodes = c.self.inside.nodes.items in
    let below : c.args.word - 1 < length nodes = omega (arith, c.requires.some, rw (← c.self.view_is, length-hashes_of nodes) at c.requires.within) in
    let leads = link_leads c.self.inside.heads.items nodes c.args.hash (c.args.word - 1) c.index.result.now c.self.invariant c.ranges.hash.fits below (rw (← c.self.view_is) at c.requires.under) c.index.ensures in
    rw (← c.self.view_is) (rw c.deref-2.ensures.value at c.walk.ensures ∙ leads.same)
