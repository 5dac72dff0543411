use Rattle.std.proofs.Common.{rules, []}
use Rattle.round_tests.proofs.claims.two_seats_cross.Goals as goal

pub join-seat-requires-clause-halves : goal.join-seat-requires-clause-halves
join-seat-requires-clause-halves g c = ([], (search rules, search rules))
