-- When the words of a round and the views of its seats fit one another.
use Rattle.std.specs.Prelude.{◌≡◌, ◌≢◌, ℕ, ◌+◌, ◌*◌, ◌<◌, ◌≤◌, Bool, true, false, min, List, [], ◌∷◌, ◌++◌, length, slice_index}
use mathlib.Core.Option.{some}
use lib.ListN.{get_elem?}
use Rattle.atomic_table.specs.Table.{State}
use Rattle.relay_claims.specs.Counting.{total, times, IsIn, once_below}
use Rattle.relay_claims.specs.declared.view.View.{View}
use Rattle.relay_claims.specs.declared.view.Settled.{Settled}
use Rattle.relay_claims.specs.Round.{pieces_of, bucket_of, head_word, ticket_of, link_of}
use Rattle.relay_claims.specs.View.{won, claimed}

-- a word names no place, or the place below it
abbrev pub word_of : List ℕ → ℕ
word_of [] = 0
word_of (i ∷ is) = i + 1

-- from the word w the links lead through these places to none
abbrev pub Leads : (ℕ → ℕ) → ℕ → List ℕ → Type 0
Leads link w [] = w ≡ 0
Leads link w (i ∷ is) = (w ≡ i + 1) × Leads link (link i) is

-- q ends with p: the seat of q came from that of p by splits
abbrev pub CameFrom : List Bool → List Bool → Type 0
CameFrom q p = (r : List Bool) × (q ≡ r ++ p)

module _ (keys : List ℕ) (heads cut : ℕ) where
  -- the key that was offered at the place i
  abbrev pub key_of : ℕ → ℕ
  key_of i = slice_index keys i

  module _ (chain : ℕ → List ℕ) where
    -- the place is on the chain of its key's bucket
    abbrev pub IsOn : ℕ → Type 0
    IsOn i = IsIn i (chain (bucket_of keys heads i))

    -- each holder is on a chain and has the key of its place
    abbrev pub AreHeld : List Settled → Type 0
    AreHeld [] = Unit {0}
    AreHeld (p ∷ ps) = (IsOn p.holder × (key_of p.holder ≡ key_of p.place)) × AreHeld ps

    -- places that were looked at, and have another key than j
    abbrev pub AreOther : ℕ → List ℕ → Type 0
    AreOther j [] = Unit {0}
    AreOther j (i ∷ is) = (key_of i ≢ key_of j) × AreOther j is

    -- a claim in flight: below places that were pushed since lie those that it looked at, and the rest
    pub record Flies (link : ℕ → ℕ) (v : View) : Type 0 where
      pub newer : List ℕ
      pub rest : List ℕ
      pub drawn : IsIn v.flight.place v.drawn
      pub fresh : times v.flight.place (claimed v) ≡ 0
      pub below : chain (bucket_of keys heads v.flight.place) ≡ newer ++ (v.flight.scanned ++ rest)
      pub expected : v.flight.expected ≡ word_of (v.flight.scanned ++ rest)
      pub next : v.flight.next ≡ word_of rest
      pub other : AreOther v.flight.place v.flight.scanned
      pub stored : v.flight.stored ≡ true → (link v.flight.place ≡ v.flight.expected) × (rest ≡ [])
      pub tries : v.claim_tries ≤ length (v.flight.scanned ++ rest)

    -- what a seat that is not spent knows is so
    pub record Sound (ticket : ℕ) (link : ℕ → ℕ) (v : View) : Type 0 where
      pub same_keys : v.keys ≡ keys
      pub same_heads : v.heads ≡ heads
      pub same_cut : v.cut ≡ cut
      pub seen : v.seen ≤ ticket
      pub tried : v.draw_tries ≤ v.seen
      pub within : (x : ℕ) → times x (claimed v) ≤ times x v.drawn
      pub held : AreHeld v.settled
      pub flight : v.flight.busy ≡ true → Flies link v

  -- the rule of a round: each bucket has a chain, and these fit the words and what the seats know
  pub record Lawful (s : State Unit View) : Type 0 where
    pub chain : ℕ → List ℕ
    pub some_head : 0 < heads
    pub some_cut : 0 < cut
    pub wide : length s.words ≡ 1 + heads + length keys
    -- the words lead through the chains: places of the bucket, none twice and no two with one key, and just those that were won
    pub leads : (b : ℕ) → b < heads → Leads (link_of heads s.words) (slice_index s.words (head_word b)) (chain b)
    pub inside : (b i : ℕ) → b < heads → IsIn i (chain b) → (i < length keys) × (bucket_of keys heads i ≡ b)
    pub once : (b i : ℕ) → b < heads → times i (chain b) ≤ 1
    pub distinct : (b i k : ℕ) → b < heads → IsIn i (chain b) → IsIn k (chain b) → key_of i ≡ key_of k → i ≡ k
    pub wins : (x : ℕ) → total (λ (v : View). times x (won v)) s.views ≡ times x (chain (bucket_of keys heads x))
    -- the drawn places are those of the pieces below the ticket, each drawn once
    pub draws : (x : ℕ) → total (λ (v : View). times x v.drawn) s.views ≡ once_below x (min (ticket_of s.words * cut) (length keys))
    pub ticket : ticket_of s.words ≤ pieces_of (length keys) cut
    -- each seat in use is sound, a spent one has nothing, and no two in use came from one another
    pub each : (k : ℕ) (v : View) → get_elem? s.views k ≡ some v → v.spent ≡ false → Sound chain (ticket_of s.words) (link_of heads s.words) v
    pub empty : (k : ℕ) (v : View) → get_elem? s.views k ≡ some v → v.spent ≡ true → (v.drawn ≡ []) × (v.settled ≡ [])
    pub apart : (k l : ℕ) (v w : View) → get_elem? s.views k ≡ some v → get_elem? s.views l ≡ some w → v.spent ≡ false → w.spent ≡ false → CameFrom w.position v.position → k ≡ l
