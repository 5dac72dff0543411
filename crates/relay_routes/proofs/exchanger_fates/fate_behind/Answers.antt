use Rattle.std.proofs.Common.{rules, ◌≡◌, ◌||◌, ap, ◌∙◌}
use Rattle.std.specs.Str.{bytes_eq}
use Rattle.relay_text.specs.Bytes.{has_text}
use Rattle.relay_routes.specs.ExchangerLines.{exchange_key}
use Rattle.relay_routes.proofs.FateFacts.{behind}
use Rattle.relay_routes.proofs.exchanger_fates.fate_behind.Goals as goal

pub returns-clause-fate : goal.returns-clause-fate
returns-clause-fate c =
    let key : c.extend_from_slice.new.self.items ≡ exchange_key c.args.exchange.now = search rules in
    behind c.args.own_names.now c.args.seen.now c.args.limit c.args.exchange.now c.is_null.result c.contains-is_own.result c.is_within-is_before.result c.in_ok-is_new.is_new c.extend_from_slice.new.self.items c.fate_of.result
    c.fate_of.ensures c.is_null.ensures (c.contains-is_own.ensures ∙ ap (has_text c.args.own_names.now) c.as_bytes.ensures)
    c.is_within-is_before.ensures c.in_ok-is_new.ensures.fresh key

pub returns-clause-seen : goal.returns-clause-seen
returns-clause-seen c =
    let key : c.extend_from_slice.new.self.items ≡ exchange_key c.args.exchange.now = search rules in
    λ q. c.in_ok-is_new.ensures.ok q ∙ ap (λ k. bytes_eq q k || has_text c.args.seen.now q) key
