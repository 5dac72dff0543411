-- The JSON text that answers many envelopes, an object a line.
use Rattle.std.specs.Prelude.{ℕ, List, [], ◌∷◌, ◌++◌, length, codes, decimal}
use Rattle.relay_wire.specs.declared.plan.Plan.{Plan}
use Rattle.relay_wire.specs.Json.{json_member, json_object, json_string, with_commas}
use Rattle.relay_wire.specs.JsonPlan.{findings_member, plan_members}
use Rattle.relay_wire.specs.PlanText.{line}
use Rattle.relay_envelopes.specs.declared.refusal.Refusal.{Refusal}
use Rattle.relay_envelopes.specs.declared.refusal.Refusal.TheVariants.{BadEnvelope, TooManyNames, TooManyOwners, TooManyPairs, TooLong}
use Rattle.relay_envelopes.specs.declared.counts.EnvelopeCounts.{EnvelopeCounts}

abbrev pub json_line : List (List ℕ) → List ℕ
json_line members = line (json_object members)

abbrev pub number_member : List ℕ → ℕ → List ℕ
number_member name number = json_member name (decimal number)

abbrev pub string_member : List ℕ → List ℕ → List ℕ
string_member name text = json_member name (json_string text)

-- the faults of files and tables, once for all envelopes
abbrev pub tables_json : List (List ℕ) → List ℕ
tables_json findings = json_line (
    json_member (codes "tables") (json_object (number_member (codes "findings") (length findings) ∷ []))
    ∷ findings_member findings
    ∷ [])

abbrev pub planned_json : List ℕ → Plan → List ℕ
planned_json id plan = json_line (string_member (codes "envelope") id ∷ plan_members plan)

-- An object of two strings; perhaps of the number of a line at fault too.
abbrev pub string_pair : List ℕ → List ℕ → List ℕ → List ℕ → List (List ℕ)
string_pair name text reason words = string_member name text ∷ string_member reason words ∷ []

abbrev pub pair_json : List ℕ → List ℕ → List ℕ → List ℕ → List ℕ
pair_json name text reason words = json_line (string_pair name text reason words)

abbrev pub fault_json : List ℕ → List ℕ → List ℕ → List ℕ → ℕ → List ℕ
fault_json name text reason words number = json_line (string_pair name text reason words ++ number_member (codes "line") number ∷ [])

-- the beginning of such an object, and its end where it has a line
abbrev pub pair_begun : List ℕ → List ℕ → List ℕ → List ℕ → List ℕ
pair_begun name text reason words = 123 ∷ with_commas (string_pair name text reason words)

abbrev pub line_end : ℕ → List ℕ
line_end number = 44 ∷ number_member (codes "line") number ++ codes "}\n"

-- the number of a bad line is that in the envelope's section, 0 where the section ends too early
abbrev pub refused_json : List ℕ → Refusal → List ℕ
refused_json id (BadEnvelope number) = fault_json (codes "envelope") id (codes "refused") (codes "bad envelope") number
refused_json id TooManyNames = pair_json (codes "envelope") id (codes "refused") (codes "too many names")
refused_json id TooManyOwners = pair_json (codes "envelope") id (codes "refused") (codes "too many owners")
refused_json id TooManyPairs = pair_json (codes "envelope") id (codes "refused") (codes "too many pairs")
refused_json id TooLong = pair_json (codes "envelope") id (codes "refused") (codes "too long")

abbrev pub counts_json : EnvelopeCounts → List (List ℕ)
counts_json c =
    number_member (codes "envelopes") c.envelopes
    ∷ number_member (codes "planned") c.planned
    ∷ number_member (codes "refused") c.refused
    ∷ number_member (codes "findings") c.findings
    ∷ []

abbrev pub done_json : EnvelopeCounts → List ℕ
done_json c = json_line (json_member (codes "done") (json_object (counts_json c)) ∷ [])
