use Rattle.std.proofs.Common.{◌≡◌, ◌+◌, ◌<◌, ◌++◌, ◌∙◌, length, get_or, map, min, take, refl, sym, ap, arith, length-append}
use Rattle.std.proofs.lemmas.List.{length-map, get_or-map}
use Rattle.relay_text.specs.Addresses.{path_text_of}
use Rattle.relay_delivery.specs.Orders.{sender_of}
use Rattle.relay_delivery.specs.WrittenPaths.{paths_of}
use Rattle.relay_delivery.proofs.PathFacts.{paths_more}
use Rattle.relay_delivery.proofs.recipient_order.paths_len.Goals as goal

pub loop-recipient-preserved : goal.loop-recipient-preserved
loop-recipient-preserved c =
    let given = c.args.recipients.now in
    let senders = map sender_of given in
    let i = c.loop-recipient.recipient-index in
    let x = sender_of c.recipient-item.result in
    let before : i < length given = c.loop-recipient-test.true in
    let inside : i < length senders = omega (arith, before, length-map given sender_of) in
    let is : x ≡ get_or senders i x = ap sender_of c.recipient-item.is ∙ sym (get_or-map sender_of given i c.recipient-item.result x before) in
    let so_far = paths_of (take i senders) in
    let more : so_far ++ path_text_of x ≡ paths_of (take (i + 1) senders) = paths_more senders i x inside is so_far (so_far ++ path_text_of x) refl refl in
    let long : length (paths_of (take (i + 1) senders)) ≡ length so_far + length (path_text_of x) = sym (ap length more) ∙ length-append so_far (path_text_of x) in
    let len : c.path_len.result ≡ length (path_text_of x) = c.path_len.ensures in
    let old : c.loop-recipient.len ≡ min (length so_far) 0xffff_ffff_ffff_ffff = c.loop-recipient.invariant in
    let new : c.saturating_add-len.result ≡ min (c.loop-recipient.len + c.path_len.result) 0xffff_ffff_ffff_ffff = c.saturating_add-len.ensures in
    omega (arith, long, len, old, new)
