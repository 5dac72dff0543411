use Rattle.std.proofs.Common.{◌≡◌, ℕ, List, map, sym, ◌∙◌, ap, subst, arith}
use Rattle.relay_rings.specs.Links.{linked, ring_items, AreRings}
use Rattle.relay_rings.specs.RingLists.{RingLists}
use Rattle.relay_rings.specs.declared.walking.Node.{Node}
use Rattle.relay_rings.proofs.RingLemmas.{append_rings, append_lists, dest_within, held-map, newest_within, count_within, OnOk-not_err, OnErr-is_err}
use Rattle.relay_rings.proofs.linking.Rings.append.Goals as goal

pub returns-then-len-self-clause-full : goal.returns-then-len-self-clause-full
returns-then-len-self-clause-full c =
    let inside = c.self.inside in
    λ _. rw (← c.self.view_is) (omega (arith, held-map inside.nodes.items inside.rings.items, inside.nodes.ok.0))

pub invariant_of-self-2 : goal.invariant_of-self-2
invariant_of-self-2 c =
    let inside = c.self.inside in
    let ring = c.index-ring.result.now in
    let grows : c.link_in.new.nodes.items ≡ linked inside.nodes.items ring c.args.item = OnOk-not_err c.link_in.result (sym c.is_err.ensures.value ∙ c.if-is_err.false) c.link_in.ensures.ok in
    let within = dest_within c.args.self.now inside.nodes.items inside.rings.items c.args.dest (ap (λ (v : RingLists). v.lists) c.self.view_is) c.requires in
    append_rings inside.nodes.items c.link_in.new.nodes.items inside.rings.items inside.limit c.args.dest c.args.item c.len-number.result ring c.self.invariant within c.index-ring.ensures (omega (arith, inside.nodes.ok.0)) grows (omega (arith, inside.nodes.ok.0))

pub returns-clause-ok : goal.returns-clause-ok
returns-clause-ok c =
    let inside = c.self.inside in
    let ring = c.index-ring.result.now in
    let grows : c.link_in.new.nodes.items ≡ linked inside.nodes.items ring c.args.item = OnOk-not_err c.link_in.result (sym c.is_err.ensures.value ∙ c.if-is_err.false) c.link_in.ensures.ok in
    let within = dest_within c.args.self.now inside.nodes.items inside.rings.items c.args.dest (ap (λ (v : RingLists). v.lists) c.self.view_is) c.requires in
    let lists = append_lists inside.nodes.items c.link_in.new.nodes.items inside.rings.items inside.limit c.args.dest c.args.item c.len-number.result ring c.self.invariant within c.index-ring.ensures (omega (arith, inside.nodes.ok.0)) grows in
    let view : List (List ℕ) → RingLists = λ xs. record { lists = xs; limit = inside.limit } in
    rw (← c.self.view_is) (ap view lists)

pub returns-clause-room : goal.returns-clause-room
returns-clause-room c =
    let inside = c.self.inside in
    rw (← c.self.view_is) (omega (arith, held-map inside.nodes.items inside.rings.items, inside.nodes.ok.0))

pub returns-then-is_err-clause-memory : goal.returns-then-is_err-clause-memory
returns-then-is_err-clause-memory c =
    let inside = c.self.inside in
    λ _. rw (← c.self.view_is) (omega (arith, held-map inside.nodes.items inside.rings.items, inside.nodes.ok.0))

pub link_in-requires-clause-newest : goal.link_in-requires-clause-newest
link_in-requires-clause-newest c =
    let inside = c.self.inside in
    let within = dest_within c.args.self.now inside.nodes.items inside.rings.items c.args.dest (ap (λ (v : RingLists). v.lists) c.self.view_is) c.requires in
    newest_within inside.nodes.items inside.rings.items inside.limit c.self.invariant c.args.dest c.index-ring.result.now within c.index-ring.ensures

pub overflow_add-ring : goal.overflow_add-ring
overflow_add-ring c =
    let inside = c.self.inside in
    let within = dest_within c.args.self.now inside.nodes.items inside.rings.items c.args.dest (ap (λ (v : RingLists). v.lists) c.self.view_is) c.requires in
    let small = count_within inside.nodes.items inside.rings.items inside.limit c.self.invariant c.args.dest c.index-ring.result.now within c.index-ring.ensures in
    omega arith

pub invariant_of-self : goal.invariant_of-self
invariant_of-self c =
    let inside = c.self.inside in
    let same : c.link_in.new.nodes.items ≡ inside.nodes.items = OnErr-is_err c.link_in.result (sym c.is_err.ensures.value ∙ c.if-is_err.true) c.link_in.ensures.err in
    subst (λ (ns : List Node). AreRings ns inside.rings.items inside.limit) (sym same) c.self.invariant

pub returns-then-is_err-clause-err : goal.returns-then-is_err-clause-err
returns-then-is_err-clause-err c =
    let inside = c.self.inside in
    let same : c.link_in.new.nodes.items ≡ inside.nodes.items = OnErr-is_err c.link_in.result (sym c.is_err.ensures.value ∙ c.if-is_err.true) c.link_in.ensures.err in
    let view : List Node → RingLists = λ ns. record { lists = map (ring_items ns) inside.rings.items; limit = inside.limit } in
    ap view same ∙ c.self.view_is
