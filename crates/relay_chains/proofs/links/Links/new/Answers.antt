use Rattle.std.proofs.Common.{rules, ◌≡◌, replicate, arith}
use Rattle.relay_chains.proofs.LinkNodes.{hashed-none}
use Rattle.relay_chains.proofs.links.Links.new.Goals as goal

pub invariant_of-result : goal.invariant_of-result
invariant_of-result c =
    let made : c.in_ok-vec.field-0.items ≡ replicate c.min.result 0 = search rules in
    rw (c.new.ensures.items, made) (hashed-none c.min.result (omega (arith, c.min.ensures)) (omega (arith, c.min.ensures)))
