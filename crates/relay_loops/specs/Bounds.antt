-- The steps of a search stay below the number of places.
use Rattle.std.proofs.Common.{◌≡◌, ℕ, ◌<◌, zero, suc, true, List, [], ◌∷◌, length, get_or, All, inl, inr, arith}
use Rattle.std.proofs.lemmas.Bool.{cases_Bool}
use Rattle.std.proofs.lemmas.List.Elements.{All-map}
use Rattle.relay_loops.specs.declared.place.Place.{Place}
use Rattle.relay_loops.specs.declared.direction.Direction.{Direction}
use Rattle.relay_loops.specs.declared.direction.Direction.TheVariants.{Onward, Backward}
use Rattle.relay_loops.specs.Places.{place_at, is_open, open_key, open_keys}

pub open-below : (d : Direction) (places : List Place) (n : ℕ) → is_open d (place_at places n) ≡ true → n < length places
open-below Onward [] n h = cc
open-below Backward [] n h = cc
open-below d (x ∷ xs) zero h = omega arith
open-below d (x ∷ xs) (suc n) h = let r = open-below d xs n h in omega arith

open_key-below : (d : Direction) (places : List Place) (key near : ℕ) → key < length places → open_key d places key near < length places
open_key-below d places key near h =
    elim (cases_Bool (is_open d (place_at places near))) [
      | inl open_here ↦ rw open_here (open-below d places near open_here)
      | inr other ↦ rw other h
    ]

pub open_keys-below : (d : Direction) (places : List Place) (key : ℕ) (near : List ℕ) → key < length places → All (λ next. next < length places) (open_keys d places key near)
open_keys-below d places key near h =
    All-map (λ next. next < length places) (open_key d places key) near (λ k e below. open_key-below d places key (get_or near k e) h)
