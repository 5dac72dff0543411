-- Files as a source gives them.
use Rattle.std.specs.Prelude.{◌≡◌, ℕ, Vec, Option, Some, None, ⊤}
use Rattle.relay_gather.specs.Source.{Answer, unknown, absent, failed, file}

-- the file that an answer is, or none where it is absent
abbrev pub IsFetched : {Z : Type 0} → Answer → Option (Vec ℕ Z) → Type 0
IsFetched answer (Some bytes) = answer ≡ file bytes.items
IsFetched answer None = answer ≡ absent

-- there is no file to be had
abbrev pub IsNoFile : Answer → Type 0
IsNoFile absent = ⊤
IsNoFile failed = ⊤
IsNoFile (file bytes) = ⊥
IsNoFile unknown = ⊥
