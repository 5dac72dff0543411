use Rattle.std.proofs.Common.{◌+◌, ◌++◌, ◌∷◌, [], List, refl, sym, subst}
use Rattle.relay_loops.specs.declared.pivots.Visit.{Visit}
use Rattle.relay_loops.specs.Naming.{GoesOn}
use Rattle.relay_loops.proofs.Naming.{goes_then, turned, left_behind}
use Rattle.relay_loops.proofs.pivots.Walk.go_on.Goals as goal

pub returns-in_ok-enter-in-Some-clause-onward : goal.returns-in_ok-enter-in-Some-clause-onward
returns-in_ok-enter-in-Some-clause-onward c =
    let fresh = c.args.self.now.fresh.items in
    let path = c.args.self.now.path.items in
    let order = c.args.self.now.order.items in
    let again : Visit = record { node = c.args.last.node; looked = c.in-Some.at + 1 } in
    let first : GoesOn fresh (path ++ c.args.last ∷ []) order fresh c.push.new.self.items order =
    subst (λ (p : List Visit). GoesOn fresh (path ++ c.args.last ∷ []) order fresh p order) (sym c.in_ok-push-in-Some.ensures.items) (turned fresh path order c.args.last again refl) in
    goes_then fresh (path ++ c.args.last ∷ []) order fresh c.push.new.self.items order c.enter.new.self.fresh.items c.enter.new.self.path.items c.enter.new.self.order.items first c.in_ok-enter-in-Some.ensures.onward

pub returns-in_ok-push-in-None-clause-onward : goal.returns-in_ok-push-in-None-clause-onward
returns-in_ok-push-in-None-clause-onward c =
    rw c.in_ok-push-in-None.ensures.items (left_behind c.args.self.now.fresh.items c.args.self.now.path.items c.args.self.now.order.items c.args.last)
