use Rattle.std.proofs.Common.{sym, ◌∙◌}
use Rattle.relay_aliasfile.proofs.ItemForms.{item_of-bad, item_of-string, item_of-plain}
use Rattle.relay_aliasfile.proofs.reading.item_in.Goals as goal

pub returns-then-not-is_well_quoted : goal.returns-then-not-is_well_quoted
returns-then-not-is_well_quoted c = sym (item_of-bad c.args.text.now (sym c.is_well_quoted.ensures ∙ c.if-not-is_well_quoted.true))

pub returns-in-Some : goal.returns-in-Some
returns-in-Some c =
    let well = sym c.is_well_quoted.ensures ∙ c.if-not-is_well_quoted.false in
    rw (item_of-string c.args.text.now c.in-Some.content well (sym c.in-Some.is ∙ c.in_ok-content.ensures)) c.content_item.ensures

pub returns-in-None : goal.returns-in-None
returns-in-None c =
    let well = sym c.is_well_quoted.ensures ∙ c.if-not-is_well_quoted.false in
    rw (item_of-plain c.args.text.now well (sym c.in-None.is ∙ c.in_ok-content.ensures)) c.plain_item.ensures
