use Rattle.std.proofs.Common.{◌≡◌, ◌<◌, ◌∙◌, length, get_or, map, sym, ap, arith}
use Rattle.std.proofs.lemmas.List.{length-map, get_or-map}
use Rattle.relay_delivery.specs.Orders.{sender_of}
use Rattle.relay_delivery.proofs.PathFacts.{paths_more}
use Rattle.relay_delivery.proofs.recipient_order.recipient_paths.Goals as goal

pub loop-recipient-preserved : goal.loop-recipient-preserved
loop-recipient-preserved c =
    let given = c.args.recipients.now in
    let senders = map sender_of given in
    let i = c.loop-recipient.recipient-index in
    let x = sender_of c.recipient-item.result in
    let before : i < length given = c.loop-recipient-test.true in
    let inside : i < length senders = omega (arith, before, length-map given sender_of) in
    let is : x ≡ get_or senders i x = ap sender_of c.recipient-item.is ∙ sym (get_or-map sender_of given i c.recipient-item.result x before) in
    paths_more senders i x inside is c.loop-recipient.paths.items c.write_path.new.out.items c.loop-recipient.invariant c.in_ok-write_path.ensures.ok
