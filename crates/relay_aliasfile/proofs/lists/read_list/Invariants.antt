use Rattle.std.proofs.Common.{◌≡◌, ◌++◌, ◌||◌, not, length}
use Rattle.relay_text.specs.Addresses.{is_empty}
use Rattle.relay_aliasfile.specs.Items.{good_items, item_texts}
use Rattle.relay_aliasfile.specs.IncludeFiles.{bad_item_faults}
use Rattle.relay_aliasfile.specs.ItemTexts.{texts_left}
use Rattle.relay_aliasfile.specs.Lists.{items_of, faults_of}
use Rattle.relay_aliasfile.proofs.lists.read_list.Given as goal

-- what was read so far, with what the texts left give, is what all texts give
abbrev pub invariant-loop-text : goal.invariant-loop-text
invariant-loop-text l = record {
  some : (l.has_items || not (is_empty (texts_left l.texts))) ≡ not (is_empty (item_texts l.list));
  items : l.items ++ items_of (texts_left l.texts) ≡ l.initial.items ++ good_items l.list;
  faults : l.faults.items ++ faults_of l.line (texts_left l.texts) ≡ l.initial.faults.items ++ bad_item_faults l.line l.list;
}

abbrev pub decreases-loop-text : goal.decreases-loop-text
decreases-loop-text l = length (texts_left l.texts)
