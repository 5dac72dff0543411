use Rattle.std.proofs.Common.{◌++◌, List, ℕ, sym, ap, ◌∙◌}
use Rattle.relay_routes.proofs.KeyFacts.{parents_named}
use Rattle.relay_routes.proofs.deciding.add_parents.Goals as goal

pub loop-place-init : goal.loop-place-init
loop-place-init c =
    ap (λ (more : List (List ℕ)). c.args.keys.now.items ++ more) (parents_named c.args.domain.now (sym c.is_literal.ensures ∙ c.if-is_literal.false))
