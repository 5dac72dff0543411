use Rattle.std.proofs.Common.{rules, ◌≡◌, ◌+◌, length}
use Rattle.std.proofs.lemmas.List.{get_or_read}
use Rattle.relay_chains.specs.Links.{bucket_under}
use Rattle.relay_chains.proofs.LinkNodes.{hashed-push}
use Rattle.relay_chains.proofs.links.Links.push.Goals as goal

pub invariant_of-self-2 : goal.invariant_of-self-2
invariant_of-self-2 c =
    let heads = c.self.inside.heads.items in
    let nodes = c.self.inside.nodes.items in
    let lies : c.bucket_of-bucket.result ≡ bucket_under (length heads) c.args.hash = search rules in
    let count : c.len-2.result ≡ length nodes + 1 = grind (rules, c.in_ok-push.ensures.len) in
    rw c.in_ok-push.ensures.items
    (hashed-push heads nodes c.bucket_of-bucket.result c.len-2.result (record { hash = c.args.hash; link = c.index-link.result.now }) c.self.invariant count
    lies (search rules) (get_or_read heads _ _ (search rules) c.index-link.ensures 0))
