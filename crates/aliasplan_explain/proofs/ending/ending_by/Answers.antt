use Rattle.std.proofs.Common.{ap, subst, List, Some, Result, ◌∙◌}
use Rattle.relay_routes.specs.declared.route.Route.{Route}
use Rattle.relay_routes.specs.declared.unrouted.Unrouted.{Unrouted as Cause}
use Rattle.relay_routes.specs.Routes.{Answers}
use Rattle.relay_wire.specs.declared.plan.Planned.{Planned}
use Rattle.aliasplan_explain.specs.Endings.{AreIndices}
use Rattle.aliasplan_explain.proofs.ending.ending_by.Goals as goal

pub returns-in-Ok : goal.returns-in-Ok
returns-in-Ok c = λ node address given routed answer.
    let same = subst (λ (found : Result Route Cause). Answers found given) c.in-Ok.is answer in
    record {
      address = c.args.address.now;
      is = address;
      route = c.in-Ok.field-0;
      routed = routed ∙ ap (λ (r : Result Route Cause). Some r) same;
      all = subst (λ (ts : List Planned). AreIndices ts c.args.address.now c.in_ok-indices_of-in-Ok.field-0.items) c.as_slice-transactions.ensures c.in_ok-indices_of-in-Ok.ensures;
    }
