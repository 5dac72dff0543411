use Rattle.std.proofs.Common.{◌≡◌, ℕ, List, None, map, IfErr, ap, ◌∙◌, subst}
use Rattle.relay_job.specs.declared.envelope.Envelope.{Envelope}
use Rattle.relay_job.specs.declared.job.Job.{Job}
use Rattle.relay_job.specs.Envelopes.{with_envelope}
use Rattle.relay_planning.specs.Limits.{IsRefused}
use Rattle.aliasplan_explain.specs.Expansions.{recipient_for, to_asked}
use Rattle.aliasplan_explain.proofs.graphing.expand_graph.Goals as goal

pub returns-clause-refused : goal.returns-clause-refused
returns-clause-refused g c =
    let tables = c.args.tables.now in
    let asked = c.args.asked.now in
    let to : List ℕ → Envelope = λ origin. record { sender = None; recipients = map (recipient_for origin) asked } in
    let same : with_envelope tables c.in_ok-envelope.envelope ≡ to_asked tables asked = ap (with_envelope tables) (c.in_ok-envelope.ensures ∙ ap to c.as_bytes-origin.ensures) in
    subst (λ (job : Job). IfErr c.text_for-text.result (IsRefused c.args.crew.now.limits job)) same c.text_for-text.ensures.refused
