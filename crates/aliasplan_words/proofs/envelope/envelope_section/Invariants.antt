use Rattle.std.proofs.Common.{◌≡◌, map, take}
use Rattle.aliasplan_words.specs.Envelopes.{envelope_section}
use Rattle.aliasplan_words.proofs.envelope.envelope_section.Given as goal

-- the lines of the recipients so far
abbrev pub invariant-loop-word : goal.invariant-loop-word
invariant-loop-word l = l.out.items ≡ envelope_section l.from (map (λ word. word.now) (take l.word-index l.to))
