use Rattle.std.proofs.Common.{◌≡◌, true, sym, ◌∙◌}
use Rattle.relay_aliasfile.specs.Items.{is_well_quoted}
use Rattle.relay_aliasfile.proofs.BrokenRules.{found-string, found-plain, well_of}
use Rattle.relay_aliasfile.proofs.reasons.item_reason.Goals as goal

pub returns-in-Ok : goal.returns-in-Ok
returns-in-Ok c =
    let well : is_well_quoted c.args.text.now ≡ true = well_of _ _ (sym c.all_item_bytes.ensures ∙ c.if-not-all_item_bytes.false) (sym c.closes_quotes.ensures ∙ c.if-not-closes_quotes.false) in
    found-string c.args.text.now c.in-Some.content c.as_bytes.result.now c.as_bytes-in-Some.result.now c.in-Ok.fault c.form_reason-reason.result well (sym c.in-Some.is ∙ c.in_ok-content.ensures)
    c.as_bytes.ensures c.as_bytes-in-Some.ensures c.in-Ok.ensures c.form_reason-reason.ensures

pub returns-in_ok-fault-in-None : goal.returns-in_ok-fault-in-None
returns-in_ok-fault-in-None c =
    let well : is_well_quoted c.args.text.now ≡ true = well_of _ _ (sym c.all_item_bytes.ensures ∙ c.if-not-all_item_bytes.false) (sym c.closes_quotes.ensures ∙ c.if-not-closes_quotes.false) in
    found-plain c.args.text.now c.address_in.result.now c.in_ok-fault-in-None.fault c.form_reason.result well (sym c.in-None.is ∙ c.in_ok-content.ensures)
    c.address_in.ensures c.in_ok-fault-in-None.ensures c.form_reason.ensures
