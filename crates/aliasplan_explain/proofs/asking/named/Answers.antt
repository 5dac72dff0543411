use Rattle.std.proofs.Common.{◌≡◌, ◌∙◌}
use Rattle.relay_text.specs.Bytes.{folded}
use Rattle.relay_tables.proofs.LocalParts.{is_local_part-folded}
use Rattle.aliasplan_explain.proofs.AskingFacts.{folded_again}
use Rattle.aliasplan_explain.proofs.asking.named.Goals as goal

pub resolve-requires-clause-name : goal.resolve-requires-clause-name
resolve-requires-clause-name c =
    let name : c.as_bytes.result.now ≡ folded c.args.local.now = c.as_bytes.ensures ∙ c.in_ok-name.ensures in
    rw name (folded_again c.args.local.now)

pub at_origin-requires-clause-name : goal.at_origin-requires-clause-name
at_origin-requires-clause-name c =
    let name : c.as_bytes-in-Mailbox.result.now ≡ folded c.args.local.now = c.as_bytes-in-Mailbox.ensures ∙ c.in_ok-name.ensures in
    rw name (is_local_part-folded c.args.local.now c.requires.local)
