use Rattle.std.proofs.Common.{◌≡◌, ◌<◌, ℕ, List, length, sym, ap, ◌∙◌, subst, arith}
use Rattle.std.specs.List.{All}
use Rattle.relay_rings.specs.Links.{node_at, items_from, ring_items}
use Rattle.relay_rings.specs.RingLists.{RingLists}
use Rattle.relay_rings.specs.declared.walking.Node.{Node}
use Rattle.relay_rings.proofs.RingLemmas.{dest_within, get_or-lists, newest_within}
use Rattle.relay_rings.proofs.linking.Rings.walk.Goals as goal
use Rattle.relay_rings.proofs.linking.Rings.walk.Goals.{then-ring-eq0, else-ring-eq0}

pub from_node-requires-clause-links : goal.from_node-requires-clause-links
from_node-requires-clause-links c = subst (λ (ns : List Node). All (λ (n : Node). n.link < length ns) ns) (sym c.as_slice-nodes.ensures.value) c.self.invariant.links

pub from_node-requires-clause-next : goal.from_node-requires-clause-next
from_node-requires-clause-next c = λ some.
    let inside = c.self.inside in
    let ring = c.index-ring.result.now in
    let within = dest_within c.args.self.now inside.nodes.items inside.rings.items c.args.dest (ap (λ (v : RingLists). v.lists) c.self.view_is) c.requires in
    let newest = newest_within inside.nodes.items inside.rings.items inside.limit c.self.invariant c.args.dest ring within c.index-ring.ensures some in
    let nodes = c.as_slice-nodes.ensures.value in
    let oldest : (node_at c.as_slice-nodes.result.now ring.newest).link < length c.as_slice-nodes.result.now =
    subst (λ (ns : List Node). (node_at ns ring.newest).link < length ns) (sym nodes) (c.self.invariant.links ring.newest (record { item = 0; link = 0 }) newest) in
    elim c.if-ring-eq0.branch [
      | then-ring-eq0 w ↦ absurd (omega (arith, w.if-ring-eq0.true))
      | else-ring-eq0 w ↦ subst (λ (n : ℕ). n < length c.as_slice-nodes.result.now) (sym w.oldest-is) oldest
    ]

pub returns : goal.returns
returns c =
    let inside = c.self.inside in
    let ring = c.index-ring.result.now in
    let within = dest_within c.args.self.now inside.nodes.items inside.rings.items c.args.dest (ap (λ (v : RingLists). v.lists) c.self.view_is) c.requires in
    let items : items_from c.as_slice-nodes.result.now c.if-ring-eq0.oldest ring.count ≡ ring_items inside.nodes.items ring =
    elim c.if-ring-eq0.branch [
      | then-ring-eq0 w ↦
          ap (items_from c.as_slice-nodes.result.now c.if-ring-eq0.oldest) w.if-ring-eq0.true
          ∙ sym (ap (items_from inside.nodes.items (node_at inside.nodes.items ring.newest).link) w.if-ring-eq0.true)
      | else-ring-eq0 w ↦
          ap (λ n. items_from c.as_slice-nodes.result.now n ring.count) w.oldest-is
          ∙ ap (λ ns. items_from ns (node_at ns ring.newest).link ring.count) c.as_slice-nodes.ensures.value
    ] in
    record { rest = rw (← c.self.view_is) (c.from_node.ensures ∙ items ∙ sym (get_or-lists inside.nodes.items inside.rings.items c.args.dest ring within c.index-ring.ensures)) }
