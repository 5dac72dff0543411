use Rattle.std.proofs.Common.{List, [], ℕ, ap, map, ◌∙◌}
use Rattle.relay_rings.specs.Links.{ring_items}
use Rattle.relay_rings.specs.RingLists.{RingLists}
use Rattle.relay_rings.specs.declared.walking.Node.{Node}
use Rattle.relay_rings.specs.declared.linking.Ring.{Ring}
use Rattle.relay_rings.proofs.RingLemmas.{empty_lists}
use Rattle.relay_rings.proofs.linking.Rings.new.Goals as goal

pub returns : goal.returns
returns c =
    let view : List (List ℕ) → RingLists = λ xs. record { lists = xs; limit = c.args.limit } in
    let nodes = c.new.ensures.items in
    let rings = c.in_ok-rings.ensures.items_if_clones_equal (λ y e. e) in
    ap view
    (ap (λ (ns : List Node). map (ring_items ns) c.in_ok-rings.rings.items) nodes
    ∙ ap (λ (rs : List Ring). map (ring_items []) rs) rings
    ∙ empty_lists c.args.dests)
