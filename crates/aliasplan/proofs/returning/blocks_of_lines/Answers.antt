use Rattle.std.proofs.Common.{List, subst}
use Rattle.std.specs.Prelude.{◌↔◌, Contains}
use Rattle.relay_returns.specs.declared.block.Return.{Return}
use Rattle.relay_planning.specs.Delivery.{directory_of}
use Rattle.aliasplan.proofs.BlockFacts.{apart_blocks}
use Rattle.relay_wire.proofs.Results.{if_ok_both}
use Rattle.aliasplan.proofs.ReturnFacts.{place_of, returns_are}
use Rattle.aliasplan.proofs.returning.blocks_of_lines.Goals as goal

pub in_order-requires : goal.in_order-requires
in_order-requires c = rw c.in_ok-blocks.ensures.blocks (apart_blocks c.args.graph.now.senders c.args.lists.items c.requires.graph.senders_distinct)

pub returns : goal.returns
returns c =
    let job = c.args.job.now in
    let g = c.args.graph.now in
    let is = c.requires.graph in
    if_ok_both c.in_order.result c.in_order.ensures.members c.in_order.ensures.ascending
    (λ sorted members up.
    returns_are job g is c.args.lists.items c.requires.lines c.in_ok-blocks.ensures.ascending sorted
    (λ r. subst (λ (bs : List Return). Contains sorted r ↔ Contains bs r) c.in_ok-blocks.ensures.blocks (members r))
    (place_of job g is (λ k recipient root at. c.pairs_by_root.ensures.numbers (directory_of job) job.sender job.recipients g is k recipient root at)) up)
