use Rattle.std.proofs.Common.{◌≡◌, length}
use Rattle.relay_aliasfile.specs.ItemTexts.{texts_left}
use Rattle.relay_aliasfile.proofs.item_texts.ItemTexts.next_cut.Given as goal

-- the pieces that were passed are empty
abbrev pub invariant-loop-self : goal.invariant-loop-self
invariant-loop-self l = texts_left l.self ≡ texts_left l.initial.self

abbrev pub decreases-loop-self : goal.decreases-loop-self
decreases-loop-self l = length l.self.rest.now
