use Rattle.std.proofs.Common.{◌≡◌, ◌++◌, map, filter, length}
use Rattle.relay_aliasfile.specs.Items.{is_bad, bad_items}
use Rattle.relay_aliasfile.specs.ItemTexts.{texts_left}
use Rattle.relay_aliasfile.proofs.lists.bad_items.Given as goal

-- what was found so far, with the bad texts left, is all of them
abbrev pub invariant-loop-text : goal.invariant-loop-text
invariant-loop-text l = map (λ text. text.now) l.bad.items ++ filter is_bad (texts_left l.texts) ≡ bad_items l.list

abbrev pub decreases-loop-text : goal.decreases-loop-text
decreases-loop-text l = length (texts_left l.texts)
