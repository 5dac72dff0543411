-- The faults of the texts of a list's items.
use Rattle.std.specs.Prelude.{ℕ, List, [], ◌∷◌, map, filter, filter_map, if◌then◌else◌}
use Rattle.relay_aliasfile.specs.Items.{item_of, is_bad}
use Rattle.relay_aliasfile.specs.MailboxFiles.{fault}
use Rattle.relay_aliasfile.specs.declared.item.Item.{Item}
use Rattle.relay_aliasfile.specs.declared.fault.LineFault.{LineFault}
use Rattle.relay_aliasfile.specs.declared.fault.FaultKind.TheVariants.{BadItem}

abbrev pub text_faults : ℕ → List ℕ → List LineFault
text_faults line text = if is_bad text then (fault line BadItem ∷ []) else []

-- the items and the faults of the texts that a reader has left
abbrev pub items_of : List (List ℕ) → List Item
items_of texts = filter_map item_of texts

abbrev pub faults_of : ℕ → List (List ℕ) → List LineFault
faults_of line texts = map (λ _. fault line BadItem) (filter is_bad texts)
