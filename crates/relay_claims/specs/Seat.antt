-- A seat as contracts see it, between two calls.
use Rattle.std.specs.Prelude.{◌≡◌, ℕ, max, Bool, true, false, List, [], ◌∷◌, ◌++◌}
use Rattle.atomic_table.specs.Seated.{TableId}
use Rattle.atomic_table.specs.Table.{Me}
use Rattle.relay_claims.specs.declared.view.View.{View}
use Rattle.relay_claims.specs.declared.view.Settled.{Settled}
use Rattle.relay_claims.specs.Round.{Terms, ArePlaces}
use Rattle.relay_claims.specs.View.{no_flight, back}

-- whose round it is, and what the seat has done in it
pub record Progress : Type 0 where
  pub round : Terms
  -- the seat's name: its place in the tree of splits, the last split first
  pub position : List Bool
  pub drawn : List ℕ
  pub settled : List Settled
  -- how many pieces were drawn by anyone, as far as the seat saw
  pub seen : ℕ
  -- the exchanges that the last claim and the last draw tried
  pub claim_tries : ℕ
  pub draw_tries : ℕ

-- the seat is one of the round's
abbrev pub IsSeatOf : Terms → Progress → Type 0
IsSeatOf r s = s.round ≡ r

-- a seat with nothing drawn
abbrev pub newcomer : Terms → List Bool → ℕ → Progress
newcomer r position seen =
    record { round = r; position = position; drawn = []; settled = []; seen = seen; claim_tries = 0; draw_tries = 0 }

-- the two halves of a seat
abbrev pub first_half : Progress → Progress
first_half s = record s { position = false ∷ s.position }

abbrev pub second_half : Progress → Progress
second_half s = newcomer s.round (true ∷ s.position) s.seen

-- the two are the halves of a seat at the position p
abbrev pub AreHalves : List Bool → Progress → Progress → Type 0
AreHalves p first second = (first.position ≡ false ∷ p) × (second.position ≡ true ∷ p)

-- one seat with all that two have
abbrev pub joined : Progress → Progress → Progress
joined s t = record s { position = back s.position; drawn = s.drawn ++ t.drawn; settled = s.settled ++ t.settled; seen = max s.seen t.seen }

-- what contracts see of a seat of the table of this name, where its view is v
abbrev pub shown : TableId → View → Progress
shown name v = record {
  round = record { name = name; keys = v.keys; heads = v.heads; cut = v.cut };
  position = v.position;
  drawn = v.drawn;
  settled = v.settled;
  seen = v.seen;
  claim_tries = v.claim_tries;
  draw_tries = v.draw_tries;
}

-- a seat in use, with no claim in flight
pub record IsIdle (me : Me Unit View) : Type 0 where
  pub live : me.0.spent ≡ false
  pub no_claim : me.0.flight ≡ no_flight
  pub no_slot : me.1 ≡ []
  pub places : ArePlaces me.0.keys me.0.drawn

-- a token of the round's table, whose view is v
abbrev pub IsTokenOf : Terms → TableId → View → Type 0
IsTokenOf r name v = (name ≡ r.name) × (v.keys ≡ r.keys) × (v.heads ≡ r.heads) × (v.cut ≡ r.cut)
