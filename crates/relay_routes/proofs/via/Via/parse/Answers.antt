use Rattle.std.proofs.Common.{◌-◌, ◌∙◌, length, take, drop, ap}
use Rattle.relay_routes.specs.Nexthops.{via_setting_of}
use Rattle.relay_routes.proofs.ViaFacts.{via_to, via_refused, via_taken, to}
use Rattle.relay_routes.proofs.via.Via.parse.Goals as goal

pub returns-then-is_none : goal.returns-then-is_none
returns-then-is_none c =
    let left = c.split_at.result.1.now in
    let given = via_to c.args.bytes.now c.split_at.result.0.now left c.place_of.result c.place_of.ensures.place c.split_at.ensures.front c.split_at.ensures.back c.in-len1-up.len_at_least in
    via_refused c.in-Some.transport (take (length left - 1) (drop 1 left)) c.split_at.result.0.now (via_setting_of c.args.bytes.now) c.form_of.result c.is_none.result given c.in-Some.ensures c.form_of.ensures c.is_none.ensures c.if-is_none.true

pub returns : goal.returns
returns c =
    let left = c.split_at.result.1.now in
    let given = via_to c.args.bytes.now c.split_at.result.0.now left c.place_of.result c.place_of.ensures.place c.split_at.ensures.front c.split_at.ensures.back c.in-len1-up.len_at_least in
    ap (to c.in-Some.transport) c.in_ok-nexthop.ensures
    ∙ via_taken c.in-Some.transport (take (length left - 1) (drop 1 left)) c.split_at.result.0.now (via_setting_of c.args.bytes.now) c.form_of.result c.is_none.result given c.in-Some.ensures c.form_of.ensures c.is_none.ensures c.if-is_none.false
