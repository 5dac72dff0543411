-- Worked examples of the definitions, by computation.
use Rattle.std.proofs.Common.{◌≡◌, ℕ, List, [], ◌∷◌, refl}
use Rattle.relay_rings.specs.Batches.{batches_of}
use Rattle.relay_rings.specs.RingLists.{appended, list_at}
use Rattle.relay_rings.specs.declared.batching.Placed.{Placed}
use Rattle.relay_rings.specs.declared.batching.Transaction.{Transaction}

abbrev pub at : ℕ → ℕ → Placed
at key item = record { key = key; item = item }

abbrev pub of : ℕ → List ℕ → Transaction
of key items = record { key = key; items = items }

three_batches : batches_of (2 ∷ 2 ∷ 2 ∷ []) (at 0 1 ∷ at 0 2 ∷ at 0 3 ∷ at 2 1 ∷ []) ≡ of 0 (1 ∷ 2 ∷ []) ∷ of 0 (3 ∷ []) ∷ of 2 (1 ∷ []) ∷ []
three_batches = refl

three_items : list_at (appended (appended (appended (record { lists = [] ∷ [] ∷ [] ∷ []; limit = 3 }) 2 8) 0 5) 2 6) 2 ≡ 8 ∷ 6 ∷ []
three_items = refl
