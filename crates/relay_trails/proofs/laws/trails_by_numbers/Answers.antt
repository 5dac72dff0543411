use Rattle.relay_trails.proofs.Named.{to_leads, to_ends, best_by, answers_by}
use Rattle.relay_trails.proofs.laws.trails_by_numbers.Goals as goal

pub returns : goal.returns
returns c = record {
  leads = λ d sender recipients g is t numbers e. to_leads d sender recipients g is t numbers e;
  ends = λ d sender recipients g is t pair e. to_ends d sender recipients g is t pair e;
  best = λ d sender recipients g is pair numbers h t best. best_by d sender recipients g is pair numbers h t best;
  answers = λ d sender recipients g is n node at found all. answers_by d sender recipients g is n node at found all;
}
