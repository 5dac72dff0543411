-- What a way means stays as more routes and reasons are found.
use Rattle.std.proofs.Common.{◌≡◌, ℕ, zero, suc, List, [], ◌∷◌, ◌++◌, length, refl, ap, inl, inr}
use Rattle.std.specs.Prelude.{◌≢◌, ◌⊎◌, Some, Result, Ok, Err, slice_get}
use Rattle.relay_routes.specs.declared.route.Route.{Route}
use Rattle.relay_routes.specs.declared.unrouted.Unrouted.{Unrouted}
use Rattle.relay_routes.specs.declared.unrouted.Unrouted.TheVariants as reasons
use Rattle.relay_routes.specs.Routes.{Fails}
use Rattle.relay_destinations.specs.declared.way.Way.{Way}
use Rattle.relay_destinations.specs.declared.way.Way.TheVariants.{To, Nowhere}
use Rattle.relay_destinations.specs.RoutesFound.{RoutesFound}
use Rattle.relay_destinations.specs.Ways.{Means, Keeps}

-- ---- one element more
pub get_kept : {X : Type 0} (xs : List X) (y : X) (n : ℕ) (x : X) → slice_get xs n ≡ Some x → slice_get (xs ++ y ∷ []) n ≡ Some x
get_kept [] y n x h = absurd (let bad : ⊥ = cc in bad)
get_kept (z ∷ xs) y zero x h = h
get_kept (z ∷ xs) y (suc n) x h = get_kept xs y n x h

pub get_last : {X : Type 0} (xs : List X) (y : X) → slice_get (xs ++ y ∷ []) (length xs) ≡ Some y
get_last [] y = refl
get_last (z ∷ xs) y = get_last xs y

pub get_cases : {X : Type 0} (xs : List X) (y : X) (n : ℕ) (x : X) → slice_get (xs ++ y ∷ []) n ≡ Some x → (slice_get xs n ≡ Some x) ⊎ ((n ≡ length xs) × (y ≡ x))
get_cases [] y zero x h = inr (refl, (let is : y ≡ x = cc in is))
get_cases [] y (suc n) x h = absurd (let bad : ⊥ = cc in bad)
get_cases (z ∷ xs) y zero x h = inl h
get_cases (z ∷ xs) y (suc n) x h = elim (get_cases xs y n x h) [ inl before ↦ inl before | inr last ↦ inr (ap suc last.0, last.1) ]

-- ---- what stays
pub means_kept : {old new : RoutesFound} (way : Way) (given : Result Route Unrouted) → Keeps old new → Means old way given → Means new way given
means_kept (To n) (Ok route) kept h = kept.routes n route h
means_kept (To n) (Err reason) kept h = absurd h
means_kept (Nowhere n) (Ok route) kept h = absurd h
means_kept (Nowhere n) (Err reason) kept h = kept.reasons n reason h

-- want of memory aside, what a call failed for is the reason
pub failed : {A : Type 0} (reason : Unrouted) (given : Result A Unrouted) → reason ≢ reasons.Memory → Fails reason given → given ≡ Err reason
failed reasons.Memory given other h = absurd (other refl)
failed reasons.Domain given other h = h
failed reasons.MxSelf given other h = h
failed reasons.Transport given other h = h
failed (reasons.Refused text) given other h = h
failed reasons.NullMx given other h = h
