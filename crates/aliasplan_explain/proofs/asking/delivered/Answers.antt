use Rattle.std.proofs.Common.{◌≡◌, ap, ◌∙◌}
use Rattle.relay_text.specs.Bytes.{folded}
use Rattle.aliasplan_explain.proofs.AskingFacts.{folded_part}
use Rattle.aliasplan_explain.proofs.asking.delivered.Goals as goal

pub at_origin-requires-clause-name : goal.at_origin-requires-clause-name
at_origin-requires-clause-name c =
    let name : c.as_bytes.result.now ≡ folded c.args.address.now.local = c.as_bytes.ensures ∙ c.in_ok-name.ensures ∙ ap folded c.local.ensures.value in
    rw name (folded_part c.args.address.now c.local.ensures.valid)
