use Rattle.std.proofs.Common.{◌≡◌, ◌++◌, ◌∷◌, [], List, sym, ◌∙◌, subst}
use Rattle.std.proofs.lemmas.List.{append-nil}
use Rattle.relay_loops.specs.declared.pivots.Visit.{Visit}
use Rattle.relay_loops.specs.Naming.{GoesOn}
use Rattle.relay_loops.proofs.Naming.{goes_then}
use Rattle.relay_loops.proofs.pivots.Walk.walk_from.Goals as goal

pub loop-last-preserved : goal.loop-last-preserved
loop-last-preserved c =
    let before : c.loop-last.self.path.items ≡ c.pop.new.self.items ++ c.in-Some.last ∷ [] = c.in-Some.ensures.items in
    let step : GoesOn c.loop-last.self.fresh.items c.loop-last.self.path.items c.loop-last.self.order.items c.go_on.new.self.fresh.items c.go_on.new.self.path.items c.go_on.new.self.order.items =
    subst (λ (p : List Visit). GoesOn c.loop-last.self.fresh.items p c.loop-last.self.order.items c.go_on.new.self.fresh.items c.go_on.new.self.path.items c.go_on.new.self.order.items) (sym before) c.in_ok-go_on.ensures.onward in
    record {
      sized = step.sized ∙ c.loop-last.invariant.sized;
      within = step.within c.loop-last.invariant.within;
      onward = goes_then c.enter.new.self.fresh.items c.enter.new.self.path.items c.enter.new.self.order.items c.loop-last.self.fresh.items c.loop-last.self.path.items c.loop-last.self.order.items c.go_on.new.self.fresh.items c.go_on.new.self.path.items c.go_on.new.self.order.items c.loop-last.invariant.onward step;
    }

pub returns-clause-onward : goal.returns-clause-onward
returns-clause-onward c =
    let at_last : c.loop-last.self.path.items ≡ c.pop.new.self.items = c.in_default.ensures.items ∙ append-nil c.pop.new.self.items in
    subst (λ (p : List Visit). GoesOn c.args.self.now.fresh.items c.args.self.now.path.items c.args.self.now.order.items c.loop-last.self.fresh.items p c.loop-last.self.order.items) at_last
    (goes_then c.args.self.now.fresh.items c.args.self.now.path.items c.args.self.now.order.items c.enter.new.self.fresh.items c.enter.new.self.path.items c.enter.new.self.order.items c.loop-last.self.fresh.items c.loop-last.self.path.items c.loop-last.self.order.items c.in_ok-enter.ensures.onward c.loop-last.invariant.onward)
