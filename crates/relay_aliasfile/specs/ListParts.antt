-- What the parts of a list have.
use Rattle.std.specs.Prelude.{◌≡◌, ℕ, ◌&&◌, List, [], ◌∷◌, ◌++◌, Option, Some, None, if◌then◌else◌}
use Rattle.relay_text.specs.Addresses.{is_empty}
use Rattle.relay_aliasfile.specs.Items.{good_items}
use Rattle.relay_aliasfile.specs.IncludeFiles.{bad_item_faults}
use Rattle.relay_aliasfile.specs.MailboxFiles.{fault}
use Rattle.relay_aliasfile.specs.declared.fault.LineFault.{LineFault}
use Rattle.relay_aliasfile.specs.declared.fault.FaultKind.TheVariants.{Empty}
use Rattle.relay_aliasfile.specs.declared.list_parts.ListPart.{ListPart}

-- These are the good items of a list, and the faults of its bad ones.
pub record IsRead (line : ℕ) (list : List ℕ) (part : ListPart) : Type 0 where
  pub items : part.items.items ≡ good_items list
  pub faults : part.faults.items ≡ bad_item_faults line list

-- The faults of a list of this part alone.
abbrev pub told_faults : ℕ → ListPart → List LineFault
told_faults line part = if is_empty part.items.items && is_empty part.faults.items then (fault line Empty ∷ []) else part.faults.items

-- These are the items and the faults of two parts, which are both there.
abbrev pub AreBoth : Option ListPart → Option ListPart → ListPart → Type 0
AreBoth None there part = ⊥
AreBoth (Some first) None part = ⊥
AreBoth (Some first) (Some second) part = (part.items.items ≡ first.items.items ++ second.items.items) × (part.faults.items ≡ first.faults.items ++ second.faults.items)
