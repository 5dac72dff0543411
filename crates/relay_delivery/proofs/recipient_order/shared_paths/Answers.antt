use Rattle.std.proofs.Common.{◌≡◌, ◌+◌, ◌/◌, ◌%◌, Ok, Vec, Global, ℕ, min, length, map, arith}
use Rattle.std.proofs.lemmas.Result.{IfOk-weaker}
use Rattle.relay_delivery.specs.Orders.{sender_of}
use Rattle.relay_delivery.specs.WrittenPaths.{AreSharedPaths}
use Rattle.relay_delivery.proofs.ShareFacts.{shared_paths_are}
use Rattle.relay_delivery.proofs.recipient_order.shared_paths.Goals as goal

pub returns : goal.returns
returns g c =
    let recipients = c.args.recipients.now in
    let size = c.args.size in
    let shares = c.in_ok-shares.shares.items in
    let many : length shares ≡ length recipients / size + min 1 (length recipients % size) = omega (arith, c.in_ok-shares.ensures.len, c.in_ok-shares.shares.ok.0) in
    IfOk-weaker c.all_given.result (λ (texts : Vec (Vec ℕ Global) Global). map (λ (text : Vec ℕ Global). Ok text) texts.items ≡ shares) (λ (texts : Vec (Vec ℕ Global) Global). AreSharedPaths (map sender_of recipients) size texts.items)
    (λ texts is. shared_paths_are recipients size shares texts.items c.requires many
    (λ n d inside.
    let at = (c.in_ok-shares.ensures.each n d inside).1 in
    (at.argument.now, at.argument_is.value, at.call)) is)
    c.all_given.ensures
