use Rattle.std.proofs.Common.{rules, ◌≡◌, replicate}
use Rattle.relay_chains.proofs.Nodes.{chained-none}
use Rattle.relay_chains.proofs.chains.Chains.new.Goals as goal

pub invariant_of-result : goal.invariant_of-result
invariant_of-result c =
    let made : c.in_ok-vec.field-0.items ≡ replicate c.args.heads 0 = search rules in
    rw (c.new.ensures.items, made) (chained-none c.args.heads c.args.limit c.requires.heads c.requires.limit)
