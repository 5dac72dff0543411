-- Tables that are read anew.
use Rattle.std.specs.Prelude.{◌≡◌, ℕ, ◌≤◌, List, [], ◌∷◌, length, codes, decimal, Ok, Err}
use Rattle.hex.specs.Hex.{encode_lower}
use Rattle.sha2.specs.Sha256.{sha256}
use Rattle.relay_wire.specs.Findings.{spaced}
use Rattle.relay_wire.specs.PlanText.{line}
use Rattle.relay_job.specs.declared.job.Job.{Job}
use Rattle.relay_job.specs.declared.fault.RunFault.{RunFault}
use Rattle.relay_job.specs.declared.fault.RunFault.TheVariants.{Read, TooLong, BadJob, BadSetting, BadEnvelope, TooManyNames, TooManyOwners, TooManyPairs, Write, Memory}
use Rattle.relay_job.specs.Tables.{tables_of}
use Rattle.relay_envelopes.specs.EachJson.{fault_json, pair_json}
use Rattle.relay_planning.specs.declared.options.Form.{Form}
use Rattle.relay_planning.specs.declared.options.Form.TheVariants as forms
use Rattle.relay_planning.specs.declared.options.Limits.{Limits}
use Rattle.aliasplan.specs.Outcomes.{AreTableCountsWithin, HasRefusedTables}
use Rattle.aliasplan_each.specs.Given.{Given, GivesText, GivesNone}

-- The answer to new tables that are taken has the SHA-256 of their text.
abbrev pub sum_of : List ℕ → List ℕ
sum_of text = encode_lower (sha256 text)

abbrev pub taken_line : List ℕ → List ℕ
taken_line sum = spaced (codes "tables" ∷ codes "ok" ∷ sum ∷ [])

abbrev pub kept_words : RunFault → List (List ℕ)
kept_words Read = codes "cannot" ∷ codes "read" ∷ []
kept_words TooLong = codes "too" ∷ codes "long" ∷ []
kept_words (BadJob number) = codes "line" ∷ decimal number ∷ codes "bad" ∷ codes "job" ∷ codes "line" ∷ []
kept_words (BadSetting number) = codes "line" ∷ decimal number ∷ codes "bad" ∷ codes "setting" ∷ []
kept_words (BadEnvelope number) = codes "line" ∷ decimal number ∷ codes "bad" ∷ codes "envelope" ∷ []
kept_words TooManyNames = codes "too" ∷ codes "many" ∷ codes "names" ∷ []
kept_words TooManyOwners = codes "too" ∷ codes "many" ∷ codes "owners" ∷ []
kept_words TooManyPairs = codes "too" ∷ codes "many" ∷ codes "pairs" ∷ []
kept_words Write = codes "cannot" ∷ codes "write" ∷ []
kept_words Memory = codes "out" ∷ codes "of" ∷ codes "memory" ∷ []

abbrev pub kept_line : RunFault → List ℕ
kept_line fault = spaced (codes "tables" ∷ codes "refused" ∷ kept_words fault)

-- the same in JSON
abbrev pub taken_json : List ℕ → List ℕ
taken_json sum = pair_json (codes "tables") (codes "ok") (codes "sha256") sum

abbrev pub reason_json : List ℕ → List ℕ
reason_json words = pair_json (codes "tables") (codes "refused") (codes "reason") words

abbrev pub line_json : List ℕ → ℕ → List ℕ
line_json words number = fault_json (codes "tables") (codes "refused") (codes "reason") words number

abbrev pub kept_json : RunFault → List ℕ
kept_json Read = reason_json (codes "cannot read")
kept_json TooLong = reason_json (codes "too long")
kept_json (BadJob number) = line_json (codes "bad job line") number
kept_json (BadSetting number) = line_json (codes "bad setting") number
kept_json (BadEnvelope number) = line_json (codes "bad envelope") number
kept_json TooManyNames = reason_json (codes "too many names")
kept_json TooManyOwners = reason_json (codes "too many owners")
kept_json TooManyPairs = reason_json (codes "too many pairs")
kept_json Write = reason_json (codes "cannot write")
kept_json Memory = reason_json (codes "out of memory")

-- in each form
abbrev pub taken_text_by : Form → List ℕ → List ℕ
taken_text_by forms.Plan sum = line (taken_line sum)
taken_text_by forms.Wire sum = line (taken_line sum)
taken_text_by forms.Json sum = taken_json sum

abbrev pub taken_text_in : Form → List ℕ → List ℕ
taken_text_in form text = taken_text_by form (sum_of text)

abbrev pub kept_text_in : Form → RunFault → List ℕ
kept_text_in forms.Plan fault = line (kept_line fault)
kept_text_in forms.Wire fault = line (kept_line fault)
kept_text_in forms.Json fault = kept_json fault

module _ (limits : Limits) (given : Given) where
  -- the text that is given, and the good tables that it has
  pub record IsTaken (bytes : List ℕ) (tables : Job) : Type 0 where
    pub gives : GivesText given bytes
    pub size : length bytes ≤ limits.bytes
    pub read : tables_of bytes ≡ Ok tables
    pub few : AreTableCountsWithin limits tables

  -- Why the old tables are kept: no text is given, or it has a fault, or its tables are too many. Memory may run out at any moment.
  pub data IsKept (fault : RunFault) : Type 0 where
    unread : GivesNone limits.bytes given fault → IsKept fault
    broken : (bytes : List ℕ) → GivesText given bytes → length bytes ≤ limits.bytes → tables_of bytes ≡ Err fault → IsKept fault
    refused : (bytes : List ℕ) (tables : Job) → GivesText given bytes → length bytes ≤ limits.bytes → tables_of bytes ≡ Ok tables → HasRefusedTables limits tables fault → IsKept fault
    memory : fault ≡ Memory → IsKept fault

module _ (limits : Limits) (form : Form) (given : Given) where
  -- `%tables` is answered, and by which tables envelopes are planned from then on.
  pub data IsChange (tables : Job) (text : List ℕ) (after : Job) : Type 0 where
    taken : (bytes : List ℕ) → IsTaken limits given bytes after → text ≡ taken_text_in form bytes → IsChange tables text after
    kept : (fault : RunFault) → IsKept limits given fault → text ≡ kept_text_in form fault → after ≡ tables → IsChange tables text after
