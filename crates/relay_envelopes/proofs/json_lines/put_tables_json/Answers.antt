use Rattle.std.proofs.Common.{[], ◌∷◌, codes, length, ◌∙◌}
use Rattle.std.proofs.lemmas.Result.{on_ok_weaker}
use Rattle.relay_wire.specs.Json.{json_key, json_object}
use Rattle.relay_wire.specs.JsonPlan.{findings_member}
use Rattle.relay_envelopes.specs.EachJson.{number_member}
use Rattle.relay_envelopes.proofs.JsonLineFacts.{one_before}
use Rattle.relay_envelopes.proofs.json_lines.put_tables_json.Goals as goal

pub returns : goal.returns
returns c =
    on_ok_weaker c.put_json_end.result
    (λ put. put ∙ rw (c.in_ok-put_json_findings.ensures, c.in_ok-push.ensures.items, c.in_ok-put_findings_count.ensures, c.in_ok-put_json_key.ensures)
    (one_before c.args.out.now.items (json_key (codes "tables")) (json_object (number_member (codes "findings") (length c.args.findings.now) ∷ [])) (findings_member c.args.findings.now)))
    c.put_json_end.ensures
