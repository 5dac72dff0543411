use Rattle.std.proofs.Common.{◌++◌, ap, sym, ◌∙◌}
use Rattle.relay_aliasfile.specs.IncludeFiles.{bad_item_faults}
use Rattle.relay_aliasfile.specs.Items.{good_items}
use Rattle.relay_aliasfile.proofs.CutLists.{items_cut, faults_cut}
use Rattle.relay_aliasfile.proofs.list_parts.ListPart.read_all_by.Goals as goal

pub returns : goal.returns
returns g c =
    let list = c.args.list.now in
    let front = c.unquoted_front.result.0.now in
    let back = c.unquoted_front.result.1.now in
    record {
      items = c.in_ok-read_line_items.ensures.items ∙ ap (λ items. items ++ good_items back) c.in_ok-part.ensures.items ∙ sym (items_cut list front back c.unquoted_front.ensures.texts);
      faults = c.in_ok-read_line_items.ensures.faults ∙ ap (λ faults. faults ++ bad_item_faults c.args.line back) c.in_ok-part.ensures.faults ∙ sym (faults_cut c.args.line list front back c.unquoted_front.ensures.texts);
    }
