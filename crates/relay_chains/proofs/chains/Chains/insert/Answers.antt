use Rattle.std.proofs.Common.{rules, ◌≡◌, ◌%◌, ◌<◌, nat_eq, None, length, get_or}
use Rattle.std.proofs.lemmas.List.{get_or_read}
use Rattle.relay_chains.specs.Chains.{keys_of}
use Rattle.relay_chains.specs.Keys.{number_of}
use Rattle.relay_chains.proofs.Nodes.{chained-push}
use Rattle.relay_chains.proofs.chains.Chains.insert.Goals as goal

pub invariant_of-self-2 : goal.invariant_of-self-2
invariant_of-self-2 c =
    let nodes = c.self.inside.nodes.items in
    let heads = c.self.inside.heads.items in
    let count : c.len-number.result ≡ length nodes = search rules in
    let lies : c.bucket_of-bucket.result ≡ c.args.key % length heads = search rules in
    let below : c.bucket_of-bucket.result < length heads = search rules in
    let link : c.index-link.result.now ≡ get_or heads c.bucket_of-bucket.result 0 = get_or_read heads _ _ below c.index-link.ensures 0 in
    let new : number_of nat_eq (keys_of nodes) c.args.key ≡ None = search rules in
    rw c.in_ok-push.ensures.items
    (chained-push heads nodes c.self.inside.limit c.bucket_of-bucket.result c.len-number.result
    (record { key = c.args.key; link = c.index-link.result.now }) c.self.invariant count lies link new c.if-number-self.false)
