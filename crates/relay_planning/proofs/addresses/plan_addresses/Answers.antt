use Rattle.std.proofs.Common.{◌⊎◌, ℕ, List, inl, inr}
use Rattle.std.specs.Prelude.{IsTrue, ◌↔◌}
use Rattle.relay_text.specs.Bytes.{has_text}
use Rattle.relay_planning.specs.Report.{routes, IsLineOf}
use Rattle.relay_planning.proofs.PlacedFacts.{in_range, placed_by_numbers}
use Rattle.relay_planning.proofs.ReportFacts.{on_ok_given}
use Rattle.relay_planning.proofs.RouteLines.{route_lines}
use Rattle.relay_planning.proofs.addresses.plan_addresses.Goals as goal

pub transactions_of-requires-clause-apart : goal.transactions_of-requires-clause-apart
transactions_of-requires-clause-apart g c κs lives = rw (c.routes.ensures.routes) (record { senders_apart = c.requires.graph.senders_distinct; routes_apart = c.routes.ensures.apart })

pub transactions_of-requires-clause-range : goal.transactions_of-requires-clause-range
transactions_of-requires-clause-range g c κs lives =
    let outgoing = c.in_ok-outgoing.outgoing in
    let h = c.in_ok-outgoing.ensures in
    rw (c.routes.ensures.routes, c.as_slice.ensures.value)
    (in_range c.args.job.now c.args.graph.now c.args.pairs.now c.requires.pairs c.outgoing_of.new.destinations.routes outgoing.recipients.items outgoing.known.items c.outgoing_of.new.lines outgoing.deliveries.items h.known h.outgoing)

pub transactions_of-requires-clause-placed : goal.transactions_of-requires-clause-placed
transactions_of-requires-clause-placed g c κs lives = λ s r a.
    let outgoing = c.in_ok-outgoing.outgoing in
    let h = c.in_ok-outgoing.ensures in
    rw (c.routes.ensures.routes, c.as_slice.ensures.value)
    (let both = placed_by_numbers c.args.job.now c.args.graph.now c.args.pairs.now c.requires.pairs c.outgoing_of.new.destinations.routes outgoing.recipients.items outgoing.known.items c.outgoing_of.new.lines outgoing.deliveries.items h.known h.outgoing s r a in (both.1, both.0))

pub returns-clause-lines : goal.returns-clause-lines
returns-clause-lines g c =
    let h = c.in_ok-outgoing.ensures in
    let are = route_lines c.args.job.now c.args.graph.now c.args.pairs.now c.requires.pairs in
    let Q : Type 0 = (q : List ℕ) → IsTrue (has_text c.outgoing_of.new.lines q) ↔ (IsTrue (has_text c.args.lines.now q) ⊎ IsLineOf c.args.job.now routes q) in
    on_ok_given {P = Q} c.transactions_of.result
    (λ q. (
      λ has. elim ((h.lines q).0 has) [ inl old ↦ inl old | inr line ↦ inr ((are q).0 line) ],
      λ either. (h.lines q).1 (elim either [ inl old ↦ inl old | inr line ↦ inr ((are q).1 line) ]),
    ))
