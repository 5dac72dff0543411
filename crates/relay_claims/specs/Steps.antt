-- What each step tells.
use Rattle.std.specs.Prelude.{◌≡◌, ◌≢◌, ℕ, ◌+◌, ◌-◌, ◌*◌, ◌<◌, ◌≤◌, length}
use Rattle.atomic_table.specs.Table.{Step, Me}
use Rattle.relay_claims.specs.Counting.{times}
use Rattle.relay_claims.specs.declared.view.View.{View}
use Rattle.relay_claims.specs.Round.{pieces_of}
use Rattle.relay_claims.specs.View.{begun, looked, linked, put_on, again, saw_ticket, took, missed}

-- of the step, the seat before it, the number that it found, and the seat after
abbrev pub Told : Type 1
Told = Step Unit → Me Unit View → ℕ → Me Unit View → Type 0

-- a head was loaded for a claim of the place j: it names a place, or none
abbrev pub saw_head : ℕ → Told
saw_head j s m r n = (n ≡ (begun j r m.0, m.1)) × (r ≤ length m.0.keys)

-- a link was loaded: its place is another than the claim's, and there was one to look at still
abbrev pub saw_link : Told
saw_link s m r n =
    (n ≡ (looked (s.word - (1 + m.0.heads)) r m.0, m.1)) × (r ≤ length m.0.keys) × (length m.0.flight.scanned < length m.0.keys)
    × (m.0.claim_tries ≤ length m.0.keys) × (s.word - (1 + m.0.heads) ≢ m.0.flight.place)

-- the own link was stored
abbrev pub stored_link : Told
stored_link s m r n = n ≡ (linked m.0, m.1)

-- the exchange of a head won, or found another head
abbrev pub tried_head : Told
tried_head s m r n =
    (m.0.claim_tries < length m.0.keys)
    × (r ≡ s.first → n ≡ (put_on m.0, m.1))
    × (r ≢ s.first → (n ≡ (again r m.0, m.1)) × (r ≤ length m.0.keys))

-- the ticket was loaded: it is no lower than the last one seen
abbrev pub found_ticket : Told
found_ticket s m r n = (n ≡ (saw_ticket r m.0, m.1)) × (m.0.seen ≤ r) × (r ≤ pieces_of (length m.0.keys) m.0.cut)

-- the exchange of the ticket drew a piece, of whose places the seat had none, or found a higher ticket
abbrev pub tried_ticket : Told
tried_ticket s m r n =
    (m.0.draw_tries ≤ m.0.seen)
    × (r ≡ s.first → (n ≡ (took m.0, m.1)) × ((x : ℕ) → m.0.seen * m.0.cut ≤ x → times x m.0.drawn ≡ 0))
    × (r ≢ s.first → (n ≡ (missed r m.0, m.1)) × (m.0.seen < r) × (r ≤ pieces_of (length m.0.keys) m.0.cut))
