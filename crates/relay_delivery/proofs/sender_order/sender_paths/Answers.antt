use Rattle.std.proofs.Common.{◌≡◌, ◌<◌, ◌∙◌, length, get_or, sym, ap, arith}
use Rattle.std.specs.Prelude.{option_copied}
use Rattle.std.proofs.lemmas.List.{length-map, get_or-map}
use Rattle.relay_delivery.specs.Placings.{senders_of}
use Rattle.relay_delivery.proofs.PathFacts.{paths_more}
use Rattle.relay_delivery.proofs.sender_order.sender_paths.Goals as goal

pub loop-sender-preserved : goal.loop-sender-preserved
loop-sender-preserved c =
    let given = c.args.senders.now in
    let senders = senders_of given in
    let i = c.loop-sender.sender-index in
    let x = option_copied c.sender-item.result in
    let before : i < length given = c.loop-sender-test.true in
    let inside : i < length senders = omega (arith, before, length-map given option_copied) in
    let is : x ≡ get_or senders i x = ap option_copied c.sender-item.is ∙ sym (get_or-map option_copied given i c.sender-item.result x before) in
    paths_more senders i x inside is c.loop-sender.paths.items c.write_path.new.out.items c.loop-sender.invariant c.in_ok-write_path.ensures.ok
