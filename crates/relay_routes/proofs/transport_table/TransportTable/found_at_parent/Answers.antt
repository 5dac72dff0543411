use Rattle.std.proofs.Common.{◌∙◌, ◌+◌, drop, ap, sym}
use Rattle.std.proofs.lemmas.List.{take_rest}
use Rattle.relay_routes.specs.Transports.{result_at, found_result}
use Rattle.relay_routes.specs.TableSteps.{dot_ends}
use Rattle.relay_routes.proofs.KeyFacts.{found_first, found_next, parents_named, ends_at_dot, ends_elsewhere, ends_done}
use Rattle.relay_routes.proofs.transport_table.TransportTable.found_at_parent.Goals as goal
use Rattle.relay_routes.proofs.transport_table.TransportTable.found_at_parent.Goals.{then-byte-eq46+in_default, else-byte-eq46}

pub loop-place-init : goal.loop-place-init
loop-place-init c = ap (found_result c.args.self.now.entries) (parents_named c.args.domain.now (sym c.is_literal.ensures ∙ c.if-is_literal.false))

pub returns-in-Some : goal.returns-in-Some
returns-in-Some c =
    let es = c.args.self.now.entries in
    let domain = c.args.domain.now in
    let place = c.loop-place.place in
    found_first es (drop place domain) (dot_ends (drop (place + 1) domain)) c.in-Some.result.now (c.in-Some.ensures ∙ ap (result_at es) (take_rest domain place))
    ∙ ap (found_result es) (ends_at_dot domain place c.loop-place-test.true c.if-byte-eq46.true)
    ∙ c.loop-place.invariant

pub loop-place-preserved : goal.loop-place-preserved
loop-place-preserved c =
    let es = c.args.self.now.entries in
    let domain = c.args.domain.now in
    let place = c.loop-place.place in
    elim c.if-byte-eq46.branch [
      | then-byte-eq46+in_default w ↦ found_next es (drop place domain) (dot_ends (drop (place + 1) domain)) (w.in_default.ensures ∙ ap (result_at es) (take_rest domain place))
          ∙ ap (found_result es) (ends_at_dot domain place c.loop-place-test.true w.if-byte-eq46.true)
          ∙ c.loop-place.invariant
      | else-byte-eq46 w ↦ ap (found_result es) (ends_elsewhere domain place c.loop-place-test.true w.if-byte-eq46.false) ∙ c.loop-place.invariant
    ]

pub returns : goal.returns
returns c = ends_done c.args.self.now.entries c.args.domain.now c.loop-place.place c.loop-place-test.false ∙ c.loop-place.invariant
