-- A list of distinct keys, numbered by their places, which holds at most a limit.
use Rattle.std.specs.Prelude.{◌≡◌, ℕ, Bool, true, false, ◌==◌, List, [], ◌∷◌, ◌++◌, length, Option, Some, None, position, Result, Ok, Err, if◌then◌else◌}
use Rattle.relay_chains.specs.declared.fault.ChainFault.{ChainFault}
use Rattle.relay_chains.specs.declared.fault.ChainFault.TheVariants.{Full, Memory}

-- what a key gets: its number, and whether it's new; or that there is no room for it
pub record Insertion (X : Type 0) : Type 0 where
  pub answer : Result (ℕ × Bool) ChainFault
  pub keys : List X

module _ {X : Type 0} (same : X → X → Bool) where
  -- the number of a key is its place
  abbrev pub number_of : List X → X → Option ℕ
  number_of keys key = position (same key) keys

  abbrev pub insertion_at : Option ℕ → List X → ℕ → X → Insertion X
  insertion_at (Some number) keys limit key = record { answer = Ok (number, false); keys = keys }
  insertion_at None keys limit key =
      if length keys == limit then record { answer = Err Full; keys = keys }
      else record { answer = Ok (length keys, true); keys = keys ++ key ∷ [] }

  -- A key that is there answers its number and false, even when full; a new one goes last. Full only for a new key at the limit.
  abbrev pub insertion : List X → ℕ → X → Insertion X
  insertion keys limit key = insertion_at (number_of keys key) keys limit key

-- what an insert answered and left is what the definition gives, or memory ran out and nothing changed
abbrev pub Inserts : {X : Type 0} → Insertion X → List X → Result (ℕ × Bool) ChainFault → List X → Type 0
Inserts given old (Ok found) new = (given.answer ≡ Ok found) × (new ≡ given.keys)
Inserts given old (Err Memory) new = new ≡ old
Inserts given old (Err Full) new = (given.answer ≡ Err Full) × (new ≡ old)
