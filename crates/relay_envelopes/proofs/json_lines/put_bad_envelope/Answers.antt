use Rattle.std.proofs.Common.{codes, ◌∙◌}
use Rattle.std.proofs.lemmas.Result.{on_ok_weaker}
use Rattle.relay_envelopes.specs.EachJson.{number_member, string_member}
use Rattle.relay_envelopes.proofs.JsonLineFacts.{last_member}
use Rattle.relay_envelopes.proofs.json_lines.put_bad_envelope.Goals as goal

pub returns : goal.returns
returns c =
    on_ok_weaker c.put_json_line_end.result
    (λ put. put ∙ rw c.in_ok-put_json_pair.ensures (last_member c.args.out.now.items (string_member (codes "envelope") c.args.id.now) (string_member (codes "refused") (codes "bad envelope")) (number_member (codes "line") c.args.number)))
    c.put_json_line_end.ensures
