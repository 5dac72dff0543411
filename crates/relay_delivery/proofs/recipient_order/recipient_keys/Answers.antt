use Rattle.std.proofs.Common.{◌≡◌, ◌-◌, ◌*◌, ◌∙◌, min, length, map, sym, ap}
use Rattle.std.proofs.lemmas.List.{length-map}
use Rattle.relay_delivery.specs.Orders.{sender_of}
use Rattle.relay_delivery.specs.WrittenPaths.{paths_of}
use Rattle.relay_delivery.proofs.ShareFacts.{share_here}
use Rattle.relay_delivery.proofs.recipient_order.recipient_keys.Goals as goal

pub add_keys-requires-clause-paths : goal.add_keys-requires-clause-paths
add_keys-requires-clause-paths c =
    let given = c.args.recipients.now in
    let senders = map sender_of given in
    let n = c.loop-text.text-index in
    let size = c.args.size in
    let start = c.loop-text.start in
    let long : length senders ≡ length given = length-map given sender_of in
    let reached : start ≡ min (n * size) (length senders) = c.loop-text.invariant.reached ∙ ap (min (n * size)) (sym long) in
    let counted : c.min.result ≡ min size (length senders - start) = c.min.ensures ∙ ap (λ k. min size (k - start)) (sym long) in
    c.deref.ensures.value ∙ ap (λ t. t.items) c.text-item.is ∙ c.requires.paths.each n c.text-item.result c.loop-text-test.true ∙ sym (ap paths_of (share_here senders size n start c.min.result reached counted))
