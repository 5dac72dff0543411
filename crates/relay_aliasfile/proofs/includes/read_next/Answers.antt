use Rattle.std.proofs.Common.{Some, None, sym, ◌∙◌}
use Rattle.std.proofs.lemmas.List.{append-nil}
use Rattle.relay_aliasfile.specs.IncludeFiles.{items_in, faults_in}
use Rattle.relay_aliasfile.proofs.ItemLists.{one_item, one_fault, line_read}
use Rattle.relay_aliasfile.proofs.includes.read_next.Goals as goal

pub returns-in_ok-push-clause-items : goal.returns-in_ok-push-clause-items
returns-in_ok-push-clause-items c =
    let is = one_item c.in-Some.line.text (Some c.in-Some-2.item) c.in-Some.ensures.open (sym c.in-Some-2.is ∙ c.in_ok-item.ensures.item) in
    line_read items_in _ _ _ _ _ _ c.in-Some.ensures.some is c.in_ok-push.ensures.items

pub returns-in_ok-push-clause-faults : goal.returns-in_ok-push-clause-faults
returns-in_ok-push-clause-faults c =
    line_read faults_in _ _ _ _ _ _ c.in-Some.ensures.some (one_fault c.in-Some.line.number c.in-Some.line.text c.in-Some.ensures.open) c.in_ok-item.ensures.faults

pub returns-in_default-2-clause-items : goal.returns-in_default-2-clause-items
returns-in_default-2-clause-items c =
    let is = one_item c.in-Some.line.text None c.in-Some.ensures.open (sym c.in_default-2.is ∙ c.in_ok-item.ensures.item) in
    line_read items_in _ _ _ _ _ _ c.in-Some.ensures.some is (sym (append-nil c.args.items.now.items))

pub returns-in_default-2-clause-faults : goal.returns-in_default-2-clause-faults
returns-in_default-2-clause-faults c =
    line_read faults_in _ _ _ _ _ _ c.in-Some.ensures.some (one_fault c.in-Some.line.number c.in-Some.line.text c.in-Some.ensures.open) c.in_ok-item.ensures.faults
