use Rattle.std.proofs.Common.{◌∙◌, List, refl, ap, sym, subst}
use Rattle.relay_wire.specs.declared.plan.Planned.{Planned}
use Rattle.relay_job.specs.declared.settings.Settings.{Settings}
use Rattle.relay_planning.specs.Plans.{AreTransactionsOf, IsSoundFor, IsFewest}
use Rattle.relay_planning.proofs.PlanFacts.{plan_is}
use Rattle.relay_planning.proofs.planning.plan_with.Goals as goal

pub returns : goal.returns
returns c =
    let job = c.args.job.now in
    let same = sym c.of-2.ensures in
    record {
      plan =
          plan_is job _ c.args.findings (c.of.ensures ∙ c.in_ok-hostname.ensures.items ∙ c.as_bytes.ensures ∙ ap (λ (s : Settings). s.hostname) c.settings.ensures.settings) (subst (λ (ts : List Planned). AreTransactionsOf job ts) same c.requires.transactions)
          (λ q. refl) c.requires.ascending;
      sound = subst (λ (ts : List Planned). IsSoundFor job ts) same c.requires.sound;
      fewest = subst (λ (ts : List Planned). IsFewest job ts) same c.requires.fewest;
      findings = refl;
    }
