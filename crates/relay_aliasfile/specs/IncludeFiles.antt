-- Include files (aliases(5), ":include:/file/name"): each line that isn't ignored is a list by itself.
use Rattle.std.specs.Prelude.{ℕ, List, map, flat_map}
use Rattle.relay_text.specs.Lines.{kept_lines}
use Rattle.relay_text.specs.declared.lines.Line.{Line}
use Rattle.relay_aliasfile.specs.Items.{good_items, bad_items}
use Rattle.relay_aliasfile.specs.MailboxFiles.{fault}
use Rattle.relay_aliasfile.specs.declared.item.Item.{Item}
use Rattle.relay_aliasfile.specs.declared.fault.LineFault.{LineFault}
use Rattle.relay_aliasfile.specs.declared.fault.FaultKind.TheVariants.{BadItem}
use Rattle.relay_aliasfile.specs.declared.includes.IncludeFile.{IncludeFile}

-- one fault at the line's number for each bad item
abbrev pub bad_item_faults : ℕ → List ℕ → List LineFault
bad_item_faults line list = map (λ _. fault line BadItem) (bad_items list)

abbrev pub items_in : Line → List Item
items_in l = good_items l.text

abbrev pub faults_in : Line → List LineFault
faults_in l = bad_item_faults l.number l.text

unfoldable pub include_file_of : List ℕ → IncludeFile
include_file_of text = record { items = flat_map items_in (kept_lines text); faults = flat_map faults_in (kept_lines text) }
