use Rattle.std.proofs.Common.{◌≡◌, ◌∙◌, List, [], ◌∷◌, ◌++◌, length, ap, subst, arith}
use Rattle.std.specs.Prelude.{slice_get}
use Rattle.relay_routes.specs.declared.unrouted.Unrouted.{Unrouted}
use Rattle.relay_destinations.specs.RoutesFound.{RoutesFound}
use Rattle.relay_destinations.specs.Ways.{Keeps}
use Rattle.relay_destinations.specs.Numbering.{Numbering}
use Rattle.relay_destinations.proofs.Meanings.{get_last}
use Rattle.relay_destinations.proofs.Numbered.{with_reason, reason_kept, reason_numbered}
use Rattle.relay_destinations.proofs.numbered_routes.NumberedRoutes.put_reason.Goals as goal

pub invariant_of-self-2 : goal.invariant_of-self-2
invariant_of-self-2 c =
    let i = c.self.inside in
    let found : RoutesFound = record { routing = i.finder; via = i.via.now; routes = i.routes.items; reasons = i.reasons.items } in
    let reasons : c.push.new.self.items ≡ i.reasons.items ++ c.args.reason ∷ [] = c.in_ok-push.ensures.items in
    rw reasons (reason_numbered found i.known c.args.reason c.self.invariant c.in_default.not-Memory)

pub returns : goal.returns
returns c =
    let i = c.self.inside in
    let reason = c.args.reason in
    let number = c.in_ok-number.number in
    let found : RoutesFound = record { routing = i.finder; via = i.via.now; routes = i.routes.items; reasons = i.reasons.items } in
    let count : number ≡ length i.reasons.items = omega (arith, c.in_ok-number.ensures, c.len.ensures) in
    let reasons : c.push.new.self.items ≡ i.reasons.items ++ reason ∷ [] = c.in_ok-push.ensures.items in
    record {
      way = (c.in_default.not-Memory, ap (λ (rs : List Unrouted). slice_get rs number) reasons ∙ ap (slice_get (i.reasons.items ++ reason ∷ [])) count ∙ get_last i.reasons.items reason);
      kept = rw reasons (subst (λ (v : Numbering). Keeps v.found (with_reason found reason)) c.self.view_is (reason_kept found reason));
      known = ap (λ (v : Numbering). v.known) c.self.view_is;
    }
