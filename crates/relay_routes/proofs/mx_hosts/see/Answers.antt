use Rattle.std.proofs.Common.{◌||◌, ap, ◌∙◌}
use Rattle.std.specs.Str.{bytes_eq}
use Rattle.relay_text.specs.Bytes.{has_text}
use Rattle.relay_routes.proofs.FirstHosts.{has_more}
use Rattle.relay_routes.proofs.mx_hosts.see.Goals as goal

pub returns-in_ok-insert-in-Some-clause-ok : goal.returns-in_ok-insert-in-Some-clause-ok
returns-in_ok-insert-in-Some-clause-ok c = λ hosts had.
    has_more c.in-Some.seen c.insert.new.self hosts c.args.host.now
    (λ q. c.in_ok-insert-in-Some.ensures.ok q ∙ ap (λ t. bytes_eq q t || has_text c.in-Some.seen q) c.in_ok-from_slice-in-Some.ensures.items)
    (rw c.in-Some.is at had)
