use Rattle.std.proofs.Common.{codes, ◌∙◌}
use Rattle.std.proofs.lemmas.Result.{on_ok_weaker}
use Rattle.relay_wire.specs.Json.{json_key, json_object}
use Rattle.relay_envelopes.specs.EachJson.{counts_json}
use Rattle.relay_envelopes.proofs.JsonLineFacts.{one_member}
use Rattle.relay_envelopes.proofs.json_lines.put_done_json.Goals as goal

pub returns : goal.returns
returns c =
    on_ok_weaker c.put_json_end.result
    (λ put. put ∙ rw (c.in_ok-put_counts.ensures, c.in_ok-put_json_key.ensures)
    (one_member c.args.out.now.items (json_key (codes "done")) (json_object (counts_json c.args.counts.now))))
    c.put_json_end.ensures
