use Rattle.std.proofs.Common.{◌∙◌}
use Rattle.relay_claims.proofs.round.Round.open.Goals as goal

pub open_of-requires-clause-zeros : goal.open_of-requires-clause-zeros
open_of-requires-clause-zeros c = c.as_slice.ensures.value ∙ c.in_ok-zeros.ensures.items_if_clones_equal (λ y e. e)
