use Rattle.std.proofs.Common.{◌≡◌, ◌<◌, ◌++◌, ℕ, [], length, get_or, take, sym, ap, ◌∙◌}
use Rattle.std.specs.List.{flat_map}
use Rattle.std.proofs.lemmas.List.{flat_map_more, get_or-map, take_all, take_more}
use Rattle.relay_rings.specs.Batches.{items_at, batches_at, transactions_of}
use Rattle.relay_rings.specs.RingLists.{list_at}
use Rattle.relay_rings.proofs.batching.cut_rings.Goals as goal

pub loop-dest-preserved : goal.loop-dest-preserved
loop-dest-preserved c = λ placed same.
    let keys = c.args.keys.now in
    let limits = c.args.limits.now in
    let rings = c.args.rings.now in
    let dest : ℕ = c.loop-dest.dest in
    let key = get_or keys dest 0 in
    let limit = get_or limits key 0 in
    let before = flat_map (batches_at limits placed) (take dest keys) in
    let within : dest < length keys = c.loop-dest-test.true in
    let ring : list_at rings dest ≡ items_at placed key = ap (λ lists. get_or lists dest []) same ∙ get_or-map (items_at placed) keys dest 0 [] within in
    c.in_ok-cut_ring.ensures
    ∙ ap (λ ts. ts ++ transactions_of key limit (list_at rings dest)) (c.loop-dest.invariant placed same)
    ∙ ap (λ items. before ++ transactions_of key limit items) ring
    ∙ flat_map_more (batches_at limits placed) [] (take dest keys) key
    ∙ sym (ap (flat_map (batches_at limits placed)) (take_more keys dest 0 within))

pub returns : goal.returns
returns c = λ placed same.
    let keys = c.args.keys.now in
    c.loop-dest.invariant placed same ∙ ap (flat_map (batches_at c.args.limits.now placed)) (take_all c.loop-dest.dest keys c.loop-dest-test.false)
