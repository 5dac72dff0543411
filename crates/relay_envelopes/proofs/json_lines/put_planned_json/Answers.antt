use Rattle.std.proofs.Common.{codes, ◌∙◌}
use Rattle.std.proofs.lemmas.Result.{on_ok_weaker}
use Rattle.relay_wire.specs.Json.{json_key, json_string, with_commas}
use Rattle.relay_wire.specs.JsonPlan.{plan_members}
use Rattle.relay_envelopes.proofs.JsonLineFacts.{one_before}
use Rattle.relay_envelopes.proofs.json_lines.put_planned_json.Goals as goal

pub returns : goal.returns
returns c =
    on_ok_weaker c.put_json_end.result
    (λ put. put ∙ rw (c.in_ok-put_json_members.ensures, c.in_ok-push.ensures.items, c.in_ok-put_json_string.ensures, c.in_ok-put_json_key.ensures)
    (one_before c.args.out.now.items (json_key (codes "envelope")) (json_string c.args.id.now) (with_commas (plan_members c.args.plan.now))))
    c.put_json_end.ensures
