-- Claimed places, each with the place that holds its key.
use Rattle.std.specs.Prelude.{ℕ, cond, eqb, List, [], ◌∷◌}
use Rattle.relay_claims.specs.declared.view.Settled.{Settled}

-- the place i holds the key of the place j
abbrev pub settled : ℕ → ℕ → Settled
settled j i = record { place = j; holder = i }

-- the claimed places
abbrev pub places_of : List Settled → List ℕ
places_of [] = []
places_of (p ∷ ps) = p.place ∷ places_of ps

-- the places that were won: each is its own holder
abbrev pub won_of : List Settled → List ℕ
won_of [] = []
won_of (p ∷ ps) = cond (eqb p.place p.holder) (p.place ∷ won_of ps) (won_of ps)
