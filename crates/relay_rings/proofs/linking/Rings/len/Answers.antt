use Rattle.std.proofs.Common.{length, sym, ap, ◌∙◌}
use Rattle.relay_rings.specs.Links.{node_at}
use Rattle.relay_rings.specs.RingLists.{RingLists}
use Rattle.relay_rings.proofs.Steps.{length-items_from}
use Rattle.relay_rings.proofs.RingLemmas.{dest_within, get_or-lists}
use Rattle.relay_rings.proofs.linking.Rings.len.Goals as goal

pub returns : goal.returns
returns c =
    let inside = c.self.inside in
    let nodes = inside.nodes.items in
    let ring = c.index.result.now in
    let within = dest_within c.args.self.now nodes inside.rings.items c.args.dest (ap (λ (v : RingLists). v.lists) c.self.view_is) c.requires in
    rw (← c.self.view_is) (sym (ap length (get_or-lists nodes inside.rings.items c.args.dest ring within c.index.ensures) ∙ length-items_from nodes (node_at nodes ring.newest).link ring.count))
