use Rattle.std.proofs.Common.{ap, ◌∙◌}
use Rattle.relay_job.specs.declared.job.Job.{Job}
use Rattle.relay_job.specs.Envelopes.{with_envelope}
use Rattle.aliasplan.proofs.planner.Planner.returns.Goals as goal

pub returns-clause-sound : goal.returns-clause-sound
returns-clause-sound g c = rw (c.joined-job.ensures ∙ ap (λ (tables : Job). with_envelope tables c.args.envelope.now) c.self.view_is) at c.returns_envelope.ensures.sound

pub returns-clause-fewest : goal.returns-clause-fewest
returns-clause-fewest g c = rw (c.joined-job.ensures ∙ ap (λ (tables : Job). with_envelope tables c.args.envelope.now) c.self.view_is) at c.returns_envelope.ensures.fewest

pub returns-clause-refused : goal.returns-clause-refused
returns-clause-refused g c = rw (c.joined-job.ensures ∙ ap (λ (tables : Job). with_envelope tables c.args.envelope.now) c.self.view_is) at c.returns_envelope.ensures.refused
