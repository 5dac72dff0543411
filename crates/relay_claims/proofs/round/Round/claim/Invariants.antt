use Rattle.relay_claims.proofs.round.Round.claim.Given as goal

abbrev pub ghosts-settle : goal.ghosts-settle
ghosts-settle a = record { place = a.j }
