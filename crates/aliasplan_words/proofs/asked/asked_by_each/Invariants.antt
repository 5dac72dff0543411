use Rattle.std.proofs.Common.{◌≡◌, map, take, Ok}
use Rattle.relay_explain.specs.AskedTexts.{asked_of}
use Rattle.aliasplan_words.proofs.asked.asked_by_each.Given as goal

abbrev pub invariant-loop-word : goal.invariant-loop-word
invariant-loop-word g l = map (λ word. asked_of word.now) (take l.word-index l.words) ≡ map Ok l.asked.items
