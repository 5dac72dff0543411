use Rattle.std.proofs.Common.{codes, ◌∙◌}
use Rattle.std.proofs.lemmas.Result.{on_ok_weaker}
use Rattle.relay_envelopes.specs.EachJson.{number_member, string_member}
use Rattle.relay_envelopes.proofs.JsonLineFacts.{last_member}
use Rattle.aliasplan_each.proofs.change_json.put_line_reason.Goals as goal

pub returns : goal.returns
returns c =
    on_ok_weaker c.put_json_line_end.result
    (λ put. put ∙ rw c.in_ok-put_json_pair.ensures (last_member c.args.out.now.items (string_member (codes "tables") (codes "refused")) (string_member (codes "reason") c.args.words.now) (number_member (codes "line") c.args.number)))
    c.put_json_line_end.ensures
