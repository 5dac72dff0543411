use Rattle.std.proofs.Common.{◌≡◌, List, map, sym, ap, ◌∙◌, subst, Vec, Global}
use Rattle.std.specs.Prelude.{All}
use Rattle.std.proofs.lemmas.Result.{IfOk-weaker}
use Rattle.relay_rings.specs.declared.batching.Placed.{Placed}
use Rattle.relay_rings.specs.declared.batching.Transaction.{Transaction}
use Rattle.relay_rings.specs.Batches.{IsAscendingPlaced}
use Rattle.relay_wire.specs.declared.plan.Planned.{Planned}
use Rattle.relay_delivery.specs.declared.group_numbers.GroupNumbers.{GroupNumbers}
use Rattle.relay_delivery.specs.Cuts.{transaction_of, IsWithin}
use Rattle.relay_delivery.specs.Groups.{limit_at, AreTransactionsOf, IsSoundFor, IsFewest}
use Rattle.relay_delivery.specs.Keyed.{AreKeyed}
use Rattle.relay_delivery.specs.Placings.{senders_of, routes_of, IsPlacedBy}
use Rattle.relay_delivery.proofs.Written.{limits_read, placed_rises, cuts_within, all_positive, written_are, written_sound, written_fewest}
use Rattle.relay_delivery.proofs.cutting.cut.Goals as goal

pub batches-requires-clause-ascending : goal.batches-requires-clause-ascending
batches-requires-clause-ascending g c =
    let k = c.in_ok-groups.field-0 in
    let p = c.args.placing.now in
    subst (λ (ps : List Placed). IsAscendingPlaced ps) (sym c.deref-3.ensures.value) (placed_rises p c.requires.order k.groups.items k.placed.items c.in_ok-groups.ensures.keyed c.in_ok-groups.ensures.range)

pub batches-requires-clause-limits : goal.batches-requires-clause-limits
batches-requires-clause-limits g c =
    let k = c.in_ok-groups.field-0 in
    let p = c.args.placing.now in
    let by_key_is = limits_read c.args.limits p.routes.items c.deref.result.now k.groups.items c.deref-2.result.now c.in_ok-by_key.by_key.items c.deref-4.result.now c.deref.ensures.value c.deref-2.ensures.value c.in_ok-by_key.ensures c.deref-4.ensures.value in
    all_positive p c.requires.order k.groups.items k.placed.items c.in_ok-groups.ensures.keyed c.in_ok-groups.ensures.range c.args.limits c.requires.limits c.deref-4.result.now by_key_is

pub transactions_of-requires-after_bounds : goal.transactions_of-requires-after_bounds
transactions_of-requires-after_bounds g c κs within =
    let k = c.in_ok-groups.field-0 in
    let p = c.args.placing.now in
    let placed = c.deref-3.result.now in
    let keyed = subst (λ ps. AreKeyed p.recipients.items p.deliveries.items k.groups.items ps) (sym c.deref-3.ensures.value) c.in_ok-groups.ensures.keyed in
    let inside = cuts_within p c.requires.order k.groups.items placed keyed c.in_ok-groups.ensures.range c.deref-4.result.now c.in_ok-cuts.cuts.items c.in_ok-cuts.ensures.batches c.in_ok-cuts.ensures.sound in
    subst (λ (gs : List GroupNumbers). All (IsWithin p gs) c.deref-6.result.now) (sym c.deref-5.ensures.value)
    (subst (λ (ts : List Transaction). All (IsWithin p k.groups.items) ts) (sym c.deref-6.ensures.value) inside)

pub returns-clause-transactions : goal.returns-clause-transactions
returns-clause-transactions g c =
    let k = c.in_ok-groups.field-0 in
    let p = c.args.placing.now in
    let placed = c.deref-3.result.now in
    let keyed = subst (λ ps. AreKeyed p.recipients.items p.deliveries.items k.groups.items ps) (sym c.deref-3.ensures.value) c.in_ok-groups.ensures.keyed in
    let by_key_is = limits_read c.args.limits p.routes.items c.deref.result.now k.groups.items c.deref-2.result.now c.in_ok-by_key.by_key.items c.deref-4.result.now c.deref.ensures.value c.deref-2.ensures.value c.in_ok-by_key.ensures c.deref-4.ensures.value in
    let limit = limit_at c.args.limits in
    let is_placed = IsPlacedBy (senders_of p.senders.items) (routes_of p.routes.items) p.recipients.items p.deliveries.items in
    let write : List GroupNumbers → List Transaction → List Planned = λ gs ts. map (transaction_of p gs) ts in
    let read = ap (λ gs. write gs c.deref-6.result.now) c.deref-5.ensures.value ∙ ap (write k.groups.items) c.deref-6.ensures.value in
    IfOk-weaker c.transactions_of.result (λ (ts : Vec Planned Global). ts.items ≡ write c.deref-5.result.now c.deref-6.result.now) (λ (ts : Vec Planned Global). AreTransactionsOf limit is_placed ts.items)
    (λ ts written. written_are p c.requires.order k.groups.items placed keyed c.in_ok-groups.ensures.range c.args.limits c.requires.limits c.deref-4.result.now by_key_is ts.items c.in_ok-cuts.cuts.items c.in_ok-cuts.ensures.batches (written ∙ read))
    c.transactions_of.ensures

pub returns-clause-sound : goal.returns-clause-sound
returns-clause-sound g c =
    let k = c.in_ok-groups.field-0 in
    let p = c.args.placing.now in
    let placed = c.deref-3.result.now in
    let keyed = subst (λ ps. AreKeyed p.recipients.items p.deliveries.items k.groups.items ps) (sym c.deref-3.ensures.value) c.in_ok-groups.ensures.keyed in
    let by_key_is = limits_read c.args.limits p.routes.items c.deref.result.now k.groups.items c.deref-2.result.now c.in_ok-by_key.by_key.items c.deref-4.result.now c.deref.ensures.value c.deref-2.ensures.value c.in_ok-by_key.ensures c.deref-4.ensures.value in
    let limit = limit_at c.args.limits in
    let is_placed = IsPlacedBy (senders_of p.senders.items) (routes_of p.routes.items) p.recipients.items p.deliveries.items in
    let write : List GroupNumbers → List Transaction → List Planned = λ gs ts. map (transaction_of p gs) ts in
    let read = ap (λ gs. write gs c.deref-6.result.now) c.deref-5.ensures.value ∙ ap (write k.groups.items) c.deref-6.ensures.value in
    IfOk-weaker c.transactions_of.result (λ (ts : Vec Planned Global). ts.items ≡ write c.deref-5.result.now c.deref-6.result.now) (λ (ts : Vec Planned Global). IsSoundFor limit is_placed ts.items)
    (λ ts written. written_sound p c.requires.order k.groups.items placed keyed c.in_ok-groups.ensures.range c.args.limits c.requires.limits c.deref-4.result.now by_key_is ts.items c.in_ok-cuts.cuts.items c.in_ok-cuts.ensures.batches (written ∙ read))
    c.transactions_of.ensures

pub returns-clause-fewest : goal.returns-clause-fewest
returns-clause-fewest g c =
    let k = c.in_ok-groups.field-0 in
    let p = c.args.placing.now in
    let placed = c.deref-3.result.now in
    let keyed = subst (λ ps. AreKeyed p.recipients.items p.deliveries.items k.groups.items ps) (sym c.deref-3.ensures.value) c.in_ok-groups.ensures.keyed in
    let by_key_is = limits_read c.args.limits p.routes.items c.deref.result.now k.groups.items c.deref-2.result.now c.in_ok-by_key.by_key.items c.deref-4.result.now c.deref.ensures.value c.deref-2.ensures.value c.in_ok-by_key.ensures c.deref-4.ensures.value in
    let limit = limit_at c.args.limits in
    let is_placed = IsPlacedBy (senders_of p.senders.items) (routes_of p.routes.items) p.recipients.items p.deliveries.items in
    let write : List GroupNumbers → List Transaction → List Planned = λ gs ts. map (transaction_of p gs) ts in
    let read = ap (λ gs. write gs c.deref-6.result.now) c.deref-5.ensures.value ∙ ap (write k.groups.items) c.deref-6.ensures.value in
    IfOk-weaker c.transactions_of.result (λ (ts : Vec Planned Global). ts.items ≡ write c.deref-5.result.now c.deref-6.result.now) (λ (ts : Vec Planned Global). IsFewest limit is_placed ts.items)
    (λ ts written. written_fewest p c.requires.order k.groups.items placed keyed c.in_ok-groups.ensures.range c.args.limits c.requires.limits c.deref-4.result.now by_key_is ts.items c.in_ok-cuts.cuts.items c.in_ok-cuts.ensures.batches (written ∙ read) c.in_ok-cuts.ensures.fewest)
    c.transactions_of.ensures
