use Rattle.std.proofs.Common.{List, ap, ◌∙◌}
use Rattle.relay_routes.specs.declared.exchanger_fates.Numbered.{Numbered}
use Rattle.relay_routes.specs.Preferences.{least_own}
use Rattle.relay_routes.specs.ExchangerLines.{good_exchanges}
use Rattle.relay_routes.proofs.FateFacts.{one_fated}
use Rattle.relay_routes.proofs.exchanger_fates.with_fates.Goals as goal

pub loop-numbered-preserved : goal.loop-numbered-preserved
loop-numbered-preserved c =
    let limit = c.in_ok-limit.ensures ∙ ap (λ (all : List Numbered). least_own c.args.own_names.now (good_exchanges all)) c.deref.ensures.value in
    one_fated c.args.own_names.now c.args.exchangers.items c.loop-numbered.yielded c.in-Some.numbered c.loop-numbered.lines.items c.push.new.self.items c.loop-numbered.seen c.fate_behind.new.seen
    c.in_ok-limit.limit c.in-Ok.fate c.line_with.result
    c.loop-numbered.invariant c.fate_behind.ensures.fits limit c.in-Ok.ensures.fate c.line_with.ensures c.in_ok-push.ensures.items c.in-Ok.ensures.seen
