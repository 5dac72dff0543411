use Rattle.std.proofs.Common.{◌∙◌}
use Rattle.std.proofs.lemmas.Result.{on_ok_weaker}
use Rattle.relay_wire.specs.Json.{json_key, json_string}
use Rattle.relay_envelopes.proofs.JsonLineFacts.{pair_is}
use Rattle.relay_envelopes.proofs.json_lines.put_json_pair.Goals as goal

pub returns : goal.returns
returns c =
    on_ok_weaker c.put_json_string-2.result
    (λ put. put ∙ rw (c.in_ok-put_json_key-2.ensures, c.in_ok-put_json_string.ensures, c.in_ok-put_json_key.ensures)
    (pair_is c.args.out.now.items (json_key c.args.name.now) (json_string c.args.text.now) (json_key c.args.reason.now) (json_string c.args.words.now)))
    c.put_json_string-2.ensures
