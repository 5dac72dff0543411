use Rattle.std.proofs.Common.{[], ◌∷◌, ◌++◌, codes}
use Rattle.relay_planning.specs.declared.options.Form.TheVariants as forms
use Rattle.relay_wire.specs.Json.{json_key, json_string, with_commas}
use Rattle.relay_wire.proofs.ScriptText.{on_written}
use Rattle.relay_envelopes.proofs.JsonLineFacts.{one_before}
use Rattle.relay_returns.specs.Returns.{returned_members}
use Rattle.aliasplan_each.specs.Forms.{returned_block_in}
use Rattle.aliasplan_each.proofs.forms.put_returned_json.Goals as goal

pub returns : goal.returns
returns c =
    let it = c.args.returned.now in
    let out = c.args.out.now.items in
    on_written c.extend_from_slice.result c.extend_from_slice.new.self.items c.put_returned_json_members.new.out.items (125 ∷ 10 ∷ []) (out ++ returned_block_in forms.Json c.args.id.now it.plan it.returns)
    c.extend_from_slice.ensures.items
    (rw (c.in_ok-put_returned_json_members.ensures, c.in_ok-push.ensures.items, c.in_ok-put_json_string.ensures, c.in_ok-put_json_key.ensures, c.as_slice.ensures)
    (one_before out (json_key (codes "envelope")) (json_string c.args.id.now) (with_commas (returned_members it.plan it.returns))))
