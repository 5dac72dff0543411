use Rattle.std.proofs.Common.{◌∙◌, List, ℕ, ap, sym}
use Rattle.std.specs.Prelude.{Some}
use Rattle.relay_destinations.specs.declared.way.Way.{Way}
use Rattle.relay_destinations.specs.KnownWays.{way_in}
use Rattle.relay_destinations.proofs.Pairs.{pair_found, pair_missing}
use Rattle.relay_destinations.proofs.known_ways.KnownWays.recall.Goals as goal

pub returns-in_err-number-clause-found : goal.returns-in_err-number-clause-found
returns-in_err-number-clause-found c =
    let i = c.self.inside in
    let text = c.args.text.now in
    rw c.from_residual.ensures
    (sym (ap (λ (ps : List (List ℕ × Way)). way_in ps text) (sym c.self.view_is) ∙ pair_missing i.texts.keys i.ways.items text (sym c.find.ensures ∙ c.in_err-number.was)))

pub returns-clause-found : goal.returns-clause-found
returns-clause-found c =
    let i = c.self.inside in
    let text = c.args.text.now in
    let found = pair_found i.texts.keys i.ways.items text c.in_ok-number.number c.index.result.now c.self.invariant (sym c.find.ensures ∙ c.in_ok-number.was) in
    ap (λ (t : Way). Some t) c.index.ensures ∙ sym found.1 ∙ ap (λ (ps : List (List ℕ × Way)). way_in ps text) c.self.view_is
