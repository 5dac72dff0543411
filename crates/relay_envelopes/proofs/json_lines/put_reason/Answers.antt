use Rattle.std.proofs.Common.{[], ◌∷◌, codes, ◌∙◌}
use Rattle.std.proofs.lemmas.Result.{on_ok_weaker}
use Rattle.relay_wire.proofs.JsonPieces.{object_line}
use Rattle.relay_envelopes.specs.EachJson.{string_member}
use Rattle.relay_envelopes.proofs.json_lines.put_reason.Goals as goal

pub returns : goal.returns
returns c =
    on_ok_weaker c.put_json_end.result
    (λ put. put ∙ rw c.in_ok-put_json_pair.ensures (object_line c.args.out.now.items (string_member (codes "envelope") c.args.id.now) (string_member (codes "refused") c.args.words.now ∷ [])))
    c.put_json_end.ensures
