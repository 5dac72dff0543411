-- A plan as one JSON object.
use Rattle.std.specs.Prelude.{ℕ, List, [], ◌∷◌, ◌++◌, map, length, drop, codes, decimal, if◌then◌else◌, Some}
use Rattle.std.specs.List.{enumerate_from}
use Rattle.relay_text.specs.Addresses.{path_text_of}
use Rattle.relay_text.specs.AddressParts.{AddressParts}
use Rattle.relay_text.specs.Bytes.{begins_with}
use Rattle.relay_routes.specs.Transports.{transport_name}
use Rattle.relay_wire.specs.declared.plan.Planned.{Planned}
use Rattle.relay_wire.specs.declared.plan.Plan.{Plan}
use Rattle.relay_wire.specs.Json.{json_array, json_member, json_object, json_string, json_strings}
use Rattle.relay_wire.specs.PlanText.{line, recipient_count}

-- the numbers of the plan's first line
abbrev pub counts_json : ℕ → ℕ → ℕ → List ℕ
counts_json transactions recipients findings = json_object (
    json_member (codes "transactions") (decimal transactions)
    ∷ json_member (codes "recipients") (decimal recipients)
    ∷ json_member (codes "findings") (decimal findings)
    ∷ [])

abbrev pub path_json : AddressParts → List ℕ
path_json a = json_string (path_text_of (Some a))

abbrev pub transaction_json : ℕ → Planned → List ℕ
transaction_json number t = json_object (
    json_member (codes "transaction") (decimal number)
    ∷ json_member (codes "from") (json_string (path_text_of t.from))
    ∷ json_member (codes "transport") (json_string (transport_name t.transport))
    ∷ json_member (codes "nexthop") (json_string t.nexthop)
    ∷ json_member (codes "hosts") (json_strings t.hosts)
    ∷ json_member (codes "recipients") (json_array (map path_json t.to))
    ∷ [])

abbrev pub transactions_json : List Planned → List ℕ
transactions_json ts = json_array (map (λ t. transaction_json t.0 t.1) (enumerate_from 1 ts))

-- a finding's line without its first word
abbrev pub words_of : List ℕ → List ℕ
words_of finding = if begins_with (codes "finding ") finding then drop 8 finding else finding

abbrev pub finding_json : List ℕ → List ℕ
finding_json finding = json_string (words_of finding)

-- the members that stand before what else is told of a plan, and the last
abbrev pub front_members : Plan → List (List ℕ)
front_members p =
    json_member (codes "plan") (counts_json (length p.transactions) (recipient_count p) (length p.findings))
    ∷ json_member (codes "transactions") (transactions_json p.transactions)
    ∷ []

abbrev pub findings_member : List (List ℕ) → List ℕ
findings_member findings = json_member (codes "findings") (json_array (map finding_json findings))

abbrev pub plan_members : Plan → List (List ℕ)
plan_members p = front_members p ++ findings_member p.findings ∷ []

abbrev pub json_text_of : Plan → List ℕ
json_text_of p = line (json_object (plan_members p))
