use Rattle.std.proofs.Common.{codes, decimal, ◌∙◌}
use Rattle.std.proofs.lemmas.Result.{on_ok_weaker}
use Rattle.relay_wire.specs.Json.{json_key}
use Rattle.relay_envelopes.proofs.JsonLineFacts.{line_end_is}
use Rattle.relay_envelopes.proofs.json_lines.put_json_line_end.Goals as goal

pub returns : goal.returns
returns c =
    on_ok_weaker c.put_json_end.result
    (λ put. put ∙ rw (c.in_ok-put_json_number.ensures, c.in_ok-put_json_key.ensures) (line_end_is c.args.out.now.items (json_key (codes "line")) (decimal c.args.number)))
    c.put_json_end.ensures
