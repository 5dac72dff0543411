use Rattle.std.proofs.Common.{◌≡◌, ◌∙◌}
use Rattle.relay_text.specs.Bytes.{folded}
use Rattle.relay_tables.proofs.LocalParts.{is_local_part-folded}
use Rattle.relay_tables.proofs.leading.number_name.Goals as goal

pub lead_named-requires-2-clause-local : goal.lead_named-requires-2-clause-local
lead_named-requires-2-clause-local c =
    let name : c.deref.result.now ≡ folded c.args.local.now = c.deref.ensures.value ∙ c.in_ok-write_folded.ensures.name in
    rw name (is_local_part-folded c.args.local.now c.requires.local)
