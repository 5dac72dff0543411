use Rattle.std.proofs.Common.{map, take}
use Rattle.relay_envelopes.specs.Envelopes.{section_in}
use Rattle.aliasplan_each.proofs.BlockFacts.{Grown}
use Rattle.aliasplan_each.proofs.running.add_sections.Given as goal

-- the blocks of the sections so far
abbrev pub invariant-loop-section : goal.invariant-loop-section
invariant-loop-section g l = Grown l.crew.limits l.wording l.planner (map section_in (take l.section-index l.sections)) l.initial.answers.text.items l.answers.text.items l.initial.answers.counts l.answers.counts
