use Rattle.std.proofs.Common.{◌≡◌, ◌⊎◌, ◌+◌, ◌<◌, List, length, get_or, map, take, refl, sym, ap, ◌∙◌, arith, inl, inr}
use Rattle.std.proofs.lemmas.List.{length-map, take_all}
use Rattle.relay_rings.specs.Batches.{items_at}
use Rattle.relay_rings.specs.RingLists.{RingLists, held_count}
use Rattle.relay_rings.specs.declared.batching.Placed.{Placed}
use Rattle.relay_rings.proofs.DestLemmas.{dest_before, dest_within, dest_now, lists_now, held_count-appended, lists_none, held_none, length-keys_of}
use Rattle.relay_rings.proofs.batching.rings_by_key.Goals as goal
use Rattle.relay_rings.proofs.batching.rings_by_key.Goals.{then-keys-dest, else-keys-dest}

pub new-requires-clause-dests : goal.new-requires-clause-dests
new-requires-clause-dests c = omega (arith, ap length c.requires.keys, length-keys_of c.args.placed.now)

pub loop-p-init : goal.loop-p-init
loop-p-init c =
    let keys = c.args.keys.now in
    let empty = c.in_ok-rings.ensures in
    record {
      lists = ap (λ (r : RingLists). r.lists) empty ∙ sym (lists_none keys);
      limit = ap (λ (r : RingLists). r.limit) empty;
      held = ap held_count empty ∙ held_none (length keys);
      place = refl;
    }

pub offset_bounds-keys-dest : goal.offset_bounds-keys-dest
offset_bounds-keys-dest c = omega (arith, c.loop-p.invariant.place, dest_before c.args.placed.now c.loop-p.p-index (record { key = 0; item = 0 }) c.loop-p-test.true c.args.keys.now c.requires.keys, ap length c.requires.keys, length-keys_of c.args.placed.now, c.requires.count)

pub bounds-keys-dest : goal.bounds-keys-dest
bounds-keys-dest c = omega (arith, c.loop-p.invariant.place, dest_before c.args.placed.now c.loop-p.p-index (record { key = 0; item = 0 }) c.loop-p-test.true c.args.keys.now c.requires.keys)

pub overflow_add-dest : goal.overflow_add-dest
overflow_add-dest c = omega (arith, c.loop-p.invariant.place, dest_before c.args.placed.now c.loop-p.p-index (record { key = 0; item = 0 }) c.loop-p-test.true c.args.keys.now c.requires.keys, ap length c.requires.keys, length-keys_of c.args.placed.now, c.requires.count)

pub append-requires : goal.append-requires
append-requires c =
    let l = c.loop-p in
    let keys = c.args.keys.now in
    let placed = c.args.placed.now in
    let now = c.if-keys-dest.dest in
    let key = (get_or placed l.p-index (record { key = 0; item = 0 })).key in
    let cases : ((get_or keys l.dest 0 ≡ key → ⊥) × (now ≡ l.dest + 1)) ⊎ ((get_or keys l.dest 0 ≡ key) × (now ≡ l.dest)) =
    elim c.if-keys-dest.branch [ then-keys-dest w ↦ inl (w.if-keys-dest.true, w.dest-is) | else-keys-dest w ↦ inr (w.if-keys-dest.false, w.dest-is) ] in
    let place = dest_now placed l.p-index (record { key = 0; item = 0 }) c.loop-p-test.true keys c.requires.keys l.dest now l.invariant.place cases in
    omega (arith, place, dest_within placed l.p-index (record { key = 0; item = 0 }) c.loop-p-test.true keys c.requires.keys, ap length l.invariant.lists, length-map keys (items_at (take l.p-index placed)))

pub loop-p-preserved : goal.loop-p-preserved
loop-p-preserved c =
    let l = c.loop-p in
    let keys = c.args.keys.now in
    let placed = c.args.placed.now in
    let now = c.if-keys-dest.dest in
    let key = (get_or placed l.p-index (record { key = 0; item = 0 })).key in
    let item = (get_or placed l.p-index (record { key = 0; item = 0 })).item in
    let cases : ((get_or keys l.dest 0 ≡ key → ⊥) × (now ≡ l.dest + 1)) ⊎ ((get_or keys l.dest 0 ≡ key) × (now ≡ l.dest)) =
    elim c.if-keys-dest.branch [ then-keys-dest w ↦ inl (w.if-keys-dest.true, w.dest-is) | else-keys-dest w ↦ inr (w.if-keys-dest.false, w.dest-is) ] in
    let place = dest_now placed l.p-index (record { key = 0; item = 0 }) c.loop-p-test.true keys c.requires.keys l.dest now l.invariant.place cases in
    let within : now < length l.rings.lists = omega (arith, place, dest_within placed l.p-index (record { key = 0; item = 0 }) c.loop-p-test.true keys c.requires.keys, ap length l.invariant.lists, length-map keys (items_at (take l.p-index placed))) in
    let grows = c.in-Ok.ensures.ok in
    record {
      lists = lists_now placed l.p-index (record { key = 0; item = 0 }) c.loop-p-test.true keys c.requires.keys l.rings.lists c.append.new.self.lists now c.requires.ascending l.invariant.lists place (ap (λ (r : RingLists). r.lists) grows);
      limit = ap (λ (r : RingLists). r.limit) grows ∙ l.invariant.limit;
      held = ap held_count grows ∙ held_count-appended l.rings now item within ∙ ap (λ n. n + 1) l.invariant.held;
      place = place;
    }

pub returns : goal.returns
returns c = c.loop-p.invariant.lists ∙ ap (λ (ps : List Placed). map (items_at ps) c.args.keys.now) (take_all c.loop-p.p-index c.args.placed.now c.loop-p-test.false)

pub unreachable-requires : goal.unreachable-requires
unreachable-requires c =
    let reached = c.append.ensures.full (cc) in
    let invariant = c.loop-p.invariant in
    omega arith
