-- The text of a plan, and the text in which each transaction stands as its commands.
use Rattle.std.specs.Prelude.{ℕ, List, [], ◌∷◌, ◌++◌, map, flat_map, length, sum_by, codes, decimal, Option, Some}
use Rattle.std.specs.List.{enumerate_from}
use Rattle.relay_text.specs.AddressParts.{AddressParts}
use Rattle.relay_text.specs.Addresses.{path_text_of}
use Rattle.relay_routes.specs.Transports.{transport_name}
use Rattle.relay_wire.specs.declared.plan.Planned.{Planned}
use Rattle.relay_wire.specs.declared.plan.Plan.{Plan}
use Rattle.relay_wire.specs.Findings.{spaced}
use Rattle.relay_wire.specs.Script.{script_of, script_text}

-- All lines end with LF.
abbrev pub line : List ℕ → List ℕ
line text = text ++ 10 ∷ []

abbrev pub lines_of : List (List ℕ) → List ℕ
lines_of texts = flat_map line texts

-- how many recipients the transactions have
abbrev pub recipient_count : Plan → ℕ
recipient_count p = sum_by (λ t. length t.to) p.transactions

abbrev pub counts_line : ℕ → ℕ → ℕ → List ℕ
counts_line transactions recipients findings = spaced (codes "plan" ∷ decimal transactions ∷ codes "transactions" ∷ decimal recipients ∷ codes "recipients" ∷ decimal findings ∷ codes "findings" ∷ [])

abbrev pub first_line : Plan → List ℕ
first_line p = counts_line (length p.transactions) (recipient_count p) (length p.findings)

abbrev pub host_line : List ℕ → List ℕ
host_line host = spaced (codes "host" ∷ host ∷ [])

abbrev pub via_line : Planned → List ℕ
via_line t = spaced (codes "via" ∷ transport_name t.transport ∷ t.nexthop ∷ [])

abbrev pub host_lines : Planned → List (List ℕ)
host_lines t = via_line t ∷ map host_line t.hosts

abbrev pub transaction_line : ℕ → List ℕ
transaction_line number = spaced (codes "transaction" ∷ decimal number ∷ [])

abbrev pub from_line : Option AddressParts → List ℕ
from_line from = spaced (codes "from" ∷ path_text_of from ∷ [])

abbrev pub to_line : AddressParts → List ℕ
to_line a = spaced (codes "to" ∷ path_text_of (Some a) ∷ [])

abbrev pub transaction_text : ℕ → Planned → List ℕ
transaction_text number t = lines_of (
    transaction_line number
    ∷ from_line t.from
    ∷ host_lines t
    ++ map to_line t.to)

abbrev pub script_line : ℕ → List ℕ
script_line octets = spaced (codes "script" ∷ decimal octets ∷ [])

-- A transaction with its script in place of its addresses.
abbrev pub scripted_text : List ℕ → ℕ → Planned → List ℕ
scripted_text hostname number t = let script = script_text (script_of t hostname) in
    lines_of (transaction_line number ∷ host_lines t ++ script_line (length script) ∷ []) ++ script

-- the texts of transactions that stand with their numbers
abbrev pub numbered_texts : (ℕ → Planned → List ℕ) → List (ℕ × Planned) → List ℕ
numbered_texts text ts = flat_map (λ t. text t.0 t.1) ts

-- A plan's text, where the transactions have these texts by their numbers, from 1.
abbrev pub text_by : (ℕ → Planned → List ℕ) → Plan → List ℕ
text_by text p =
    line (first_line p) ++ numbered_texts text (enumerate_from 1 p.transactions) ++ lines_of p.findings ++ line (codes "end")

abbrev pub plan_text_of : Plan → List ℕ
plan_text_of p = text_by transaction_text p

abbrev pub wire_text_of : Plan → List ℕ
wire_text_of p = text_by (scripted_text p.hostname) p
