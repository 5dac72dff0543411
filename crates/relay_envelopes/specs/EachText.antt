-- The text that answers many envelopes.
use Rattle.std.specs.Prelude.{ℕ, ◌+◌, List, [], ◌∷◌, ◌++◌, length, codes, decimal}
use Rattle.relay_wire.specs.Findings.{spaced}
use Rattle.relay_wire.specs.PlanText.{line, lines_of}
use Rattle.relay_wire.specs.Lengths.{saturated}
use Rattle.relay_envelopes.specs.declared.refusal.Refusal.{Refusal}
use Rattle.relay_envelopes.specs.declared.refusal.Refusal.TheVariants.{BadEnvelope, TooManyNames, TooManyOwners, TooManyPairs, TooLong}
use Rattle.relay_envelopes.specs.declared.counts.EnvelopeCounts.{EnvelopeCounts}

-- the faults of files and tables, once for all envelopes
abbrev pub tables_line : ℕ → List ℕ
tables_line findings = spaced (codes "tables" ∷ decimal findings ∷ codes "findings" ∷ [])

abbrev pub tables_text_of : List (List ℕ) → List ℕ
tables_text_of findings = line (tables_line (length findings)) ++ lines_of findings

abbrev pub envelope_line : List ℕ → List ℕ
envelope_line id = spaced (codes "envelope" ∷ id ∷ [])

-- the number of a bad line is that in the envelope's section, 0 where the section ends too early
abbrev pub refusal_words : Refusal → List (List ℕ)
refusal_words (BadEnvelope number) = codes "line" ∷ decimal number ∷ codes "bad" ∷ codes "envelope" ∷ []
refusal_words TooManyNames = codes "too" ∷ codes "many" ∷ codes "names" ∷ []
refusal_words TooManyOwners = codes "too" ∷ codes "many" ∷ codes "owners" ∷ []
refusal_words TooManyPairs = codes "too" ∷ codes "many" ∷ codes "pairs" ∷ []
refusal_words TooLong = codes "too" ∷ codes "long" ∷ []

abbrev pub refusal_line : Refusal → List ℕ
refusal_line refusal = spaced (codes "refused" ∷ refusal_words refusal)

abbrev pub done_line : EnvelopeCounts → List ℕ
done_line c = spaced (codes "done" ∷ decimal c.envelopes ∷ codes "envelopes" ∷ decimal c.planned ∷ codes "planned" ∷ decimal c.refused ∷ codes "refused" ∷ decimal c.findings ∷ codes "findings" ∷ [])

-- A count stays at the most that a number of 64 bits can be.
abbrev pub with_planned : EnvelopeCounts → ℕ → EnvelopeCounts
with_planned c findings = record { envelopes = saturated (c.envelopes + 1); planned = saturated (c.planned + 1); refused = c.refused; findings = saturated (c.findings + findings) }

abbrev pub with_refused : EnvelopeCounts → EnvelopeCounts
with_refused c = record { envelopes = saturated (c.envelopes + 1); planned = c.planned; refused = saturated (c.refused + 1); findings = c.findings }
