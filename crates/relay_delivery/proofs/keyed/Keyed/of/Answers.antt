use Rattle.std.proofs.Common.{◌≡◌, ◌+◌, ◌-◌, ◌≤◌, Vec, Global, [], ◌∷◌, ◌++◌, length, get_or, vec_capacity, vec_len, sym, ap, ◌∙◌, arith}
use Rattle.std.specs.List.{slice_get}
use Rattle.std.specs.Prelude.{option_copied}
use Rattle.std.specs.Borrow.{Bor}
use Rattle.std.proofs.lemmas.List.{length-map}
use Rattle.relay_routes.specs.declared.route.Route.{Route}
use Rattle.relay_delivery.specs.declared.group_numbers.GroupNumbers.{GroupNumbers}
use Rattle.relay_delivery.specs.Placings.{senders_of, routes_of}
use Rattle.relay_delivery.proofs.KeyedSteps.{no_delivery}
use Rattle.relay_delivery.proofs.Turns.{turn_same, turn_new, range_same, range_new}
use Rattle.relay_delivery.proofs.keyed.Keyed.of.Goals as goal
use Rattle.relay_delivery.proofs.keyed.Keyed.of.Goals.{then-ne+in_ok-push, else-ne}

pub loop-delivery-preserved : goal.loop-delivery-preserved
loop-delivery-preserved c =
    let p = c.args.placing.now in
    let l = c.loop-delivery in
    let senders = senders_of p.senders.items in
    let routes = routes_of p.routes.items in
    let recipients = p.recipients.items in
    let deliveries = p.deliveries.items in
    let read = c.deref-delivery-items.result.now in
    let read_is = c.deref-delivery-items.ensures.value in
    let after = c.if-ne.groups.items in
    let last = c.copied.ensures ∙ c.last.ensures.value ∙ ap (λ gs. slice_get gs (length gs - 1)) c.deref.ensures.value in
    let len_is : c.len-in-loop-delivery.result ≡ length after = omega (arith, c.len-in-loop-delivery.ensures, c.if-ne.groups.ok.0) in
    let more_is = c.push_reserved.ensures.items ∙ ap (λ n. l.placed.items ++ record { key = n - 1; item = (get_or read l.delivery-index no_delivery).recipient } ∷ []) len_is in
    let senders_are = length-map p.senders.items option_copied in
    let routes_are = length-map p.routes.items (λ (r : Bor Route). r.now) in
    let room : vec_len c.push_reserved.new.self + (length deliveries - (l.delivery-index + 1)) ≤ vec_capacity c.push_reserved.new.self = omega (arith, l.invariant.room, c.loop-delivery-test.true, ap length read_is, c.push_reserved.ensures.len, c.push_reserved.ensures.capacity) in
    elim c.if-ne.branch [
      | then-ne+in_ok-push w ↦
          let is = ap (λ (v : Vec GroupNumbers Global). v.items) w.groups-is ∙ w.in_ok-push.ensures.items in
          record {
            keyed = turn_new senders routes recipients deliveries c.requires.order l.delivery-index l.groups.items l.placed.items l.invariant.keyed read read_is c.loop-delivery-test.true c.index.result.now c.index.ensures after
                c.copied.result last c.push_reserved.new.self.items more_is (sym c.ne.ensures ∙ w.if-ne.true) is;
            range = range_new senders routes recipients deliveries c.requires.order l.delivery-index l.groups.items l.placed.items l.invariant.keyed read read_is c.loop-delivery-test.true c.index.result.now c.index.ensures after
                (length p.senders.items) (length p.routes.items) senders_are routes_are l.invariant.range is;
            room = room;
          }
      | else-ne w ↦
          let is = ap (λ (v : Vec GroupNumbers Global). v.items) w.groups-is in
          record {
            keyed = turn_same senders routes recipients deliveries c.requires.order l.delivery-index l.groups.items l.placed.items l.invariant.keyed read read_is c.loop-delivery-test.true c.index.result.now c.index.ensures after
                c.copied.result last c.push_reserved.new.self.items more_is (sym c.ne.ensures ∙ w.if-ne.false) is;
            range = range_same senders routes recipients deliveries c.requires.order l.delivery-index l.groups.items l.placed.items l.invariant.keyed read read_is c.loop-delivery-test.true c.index.result.now c.index.ensures after
                (length p.senders.items) (length p.routes.items) senders_are routes_are l.invariant.range is;
            room = room;
          }
    ]
