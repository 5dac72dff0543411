-- What a way says, and what stays as more routes are found.
use Rattle.std.specs.Prelude.{◌≡◌, ℕ, Some, Result, Ok, Err, slice_get}
use Rattle.relay_routes.specs.declared.route.Route.{Route}
use Rattle.relay_routes.specs.declared.unrouted.Unrouted.{Unrouted}
use Rattle.relay_destinations.specs.declared.way.Way.{Way}
use Rattle.relay_destinations.specs.declared.way.Way.TheVariants.{To, Nowhere}
use Rattle.relay_destinations.specs.RoutesFound.{RoutesFound}

-- a way's number is that of this route, or of the reason why there is none
abbrev pub Means : RoutesFound → Way → Result Route Unrouted → Type 0
Means found (To number) (Ok route) = slice_get found.routes number ≡ Some route
Means found (To number) (Err reason) = ⊥
Means found (Nowhere number) (Ok route) = ⊥
Means found (Nowhere number) (Err reason) = slice_get found.reasons number ≡ Some reason

-- the routes go by the same, and those of before stand at their numbers still, as do the reasons
pub record Keeps (old new : RoutesFound) : Type 0 where
  pub routing : new.routing ≡ old.routing
  pub via : new.via ≡ old.via
  pub routes : (number : ℕ) (route : Route) → slice_get old.routes number ≡ Some route → slice_get new.routes number ≡ Some route
  pub reasons : (number : ℕ) (reason : Unrouted) → slice_get old.reasons number ≡ Some reason → slice_get new.reasons number ≡ Some reason
