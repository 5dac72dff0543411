-- What a view says, and what the steps make of it.
use Rattle.std.specs.Prelude.{ℕ, ◌+◌, ◌-◌, ◌*◌, Bool, true, false, cond, eqb, max, min, List, [], ◌∷◌, ◌++◌, length, slice_index}
use Rattle.relay_claims.specs.declared.view.View.{View}
use Rattle.relay_claims.specs.declared.view.Flight.{Flight}
use Rattle.relay_claims.specs.Counting.{span}
use Rattle.relay_claims.specs.Settled.{settled, places_of, won_of}

-- the places that the seat has won, and those that it has claimed
abbrev pub won : View → List ℕ
won v = won_of v.settled

abbrev pub claimed : View → List ℕ
claimed v = places_of v.settled

-- no claim in flight
abbrev pub no_flight : Flight
no_flight = record { busy = false; place = 0; expected = 0; next = 0; scanned = []; stored = false }

-- a seat with nothing drawn
abbrev pub new_view : List ℕ → ℕ → ℕ → List Bool → ℕ → View
new_view keys heads cut position seen =
    record { spent = false; keys = keys; heads = heads; cut = cut; position = position; drawn = []; settled = []; seen = seen; claim_tries = 0; draw_tries = 0; flight = no_flight }

-- a seat that was joined into another
abbrev pub spent_view : View
spent_view = record { spent = true; keys = []; heads = 0; cut = 0; position = []; drawn = []; settled = []; seen = 0; claim_tries = 0; draw_tries = 0; flight = no_flight }

-- the two halves of a seat, and one seat of two
abbrev pub left_view : View → View
left_view v = record v { position = false ∷ v.position }

abbrev pub right_view : View → View
right_view v = new_view v.keys v.heads v.cut (true ∷ v.position) v.seen

abbrev pub back : List Bool → List Bool
back [] = []
back (x ∷ xs) = xs

abbrev pub both_views : View → View → View
both_views v w = record v { position = back v.position; drawn = v.drawn ++ w.drawn; settled = v.settled ++ w.settled; seen = max v.seen w.seen }

-- a claim of the place j that expects the head, and looks at `next` next
abbrev pub flight_at : ℕ → ℕ → ℕ → List ℕ → Flight
flight_at j head next scanned = record { busy = true; place = j; expected = head; next = next; scanned = scanned; stored = false }

-- a claim of the place j begins, and finds the head r
abbrev pub begun : ℕ → ℕ → View → View
begun j r v = record v { claim_tries = 0; flight = record { busy = true; place = j; expected = r; next = r; scanned = []; stored = false } }

-- the place i has another key, and its link names the next place
abbrev pub scan_on : ℕ → ℕ → View → View
scan_on i r v = record v { flight = record v.flight { next = r; scanned = v.flight.scanned ++ i ∷ [] } }

-- the claim of the place j ends: the place i holds the key
abbrev pub settle : ℕ → ℕ → View → View
settle j i v = record v { settled = v.settled ++ settled j i ∷ []; flight = no_flight }

-- the link of the place i was loaded, and r found
abbrev pub looked : ℕ → ℕ → View → View
looked i r v = cond (eqb (slice_index v.keys i) (slice_index v.keys v.flight.place)) (settle v.flight.place i v) (scan_on i r v)

-- the link of the seat's own place was stored
abbrev pub linked : View → View
linked v = record v { flight = record v.flight { stored = true } }

-- one more exchange was tried
abbrev pub tried : View → View
tried v = record v { claim_tries = v.claim_tries + 1 }

-- the exchange of the head was made: the claim is won
abbrev pub put_on : View → View
put_on v = settle v.flight.place v.flight.place (tried v)

-- the exchange found another head r, and the claim begins again there
abbrev pub again : ℕ → View → View
again r v = record v { claim_tries = v.claim_tries + 1; flight = record { busy = true; place = v.flight.place; expected = r; next = r; scanned = []; stored = false } }

-- the places of the piece t
abbrev pub piece : ℕ → ℕ → ℕ → List ℕ
piece n cut t = span (t * cut) (min cut (n - t * cut))

-- the ticket r was loaded; the exchange took the piece of the ticket that was seen; it found another ticket r
abbrev pub saw_ticket : ℕ → View → View
saw_ticket r v = record v { seen = r; draw_tries = 0 }

abbrev pub took : View → View
took v = record v { drawn = v.drawn ++ piece (length v.keys) v.cut v.seen; seen = v.seen + 1; draw_tries = v.draw_tries + 1 }

abbrev pub missed : ℕ → View → View
missed r v = record v { seen = r; draw_tries = v.draw_tries + 1 }
