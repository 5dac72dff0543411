-- The text of what is returned to senders, and where it stands in a plan's text.
use Rattle.std.specs.Prelude.{ℕ, List, [], ◌∷◌, ◌++◌, map, flat_map, codes, decimal, Some}
use Rattle.std.specs.List.{enumerate_from}
use Rattle.std.specs.declared.cmp.Ordering.{Ordering}
use Rattle.relay_text.specs.AddressParts.{AddressParts}
use Rattle.relay_text.specs.Addresses.{path_text_of}
use Rattle.relay_text.specs.TextSets.{text_cmp}
use Rattle.relay_wire.specs.declared.finding.Finding.{Finding}
use Rattle.relay_wire.specs.declared.plan.Planned.{Planned}
use Rattle.relay_wire.specs.declared.plan.Plan.{Plan}
use Rattle.relay_wire.specs.Findings.{spaced, finding_words}
use Rattle.relay_wire.specs.Json.{json_array, json_member, json_object, json_string, json_strings}
use Rattle.relay_wire.specs.JsonPlan.{findings_member, front_members}
use Rattle.relay_wire.specs.PlanText.{line, lines_of, first_line, from_line, numbered_texts, transaction_text, scripted_text}
use Rattle.relay_returns.specs.declared.block.Return.{Return}

-- A finding's words, and for which recipient.
abbrev pub return_text_of : Finding → AddressParts → List ℕ
return_text_of f recipient = spaced (finding_words f ++ codes "for" ∷ path_text_of (Some recipient) ∷ [])

-- Blocks stand by the bytes of their senders' paths, as transactions do.
abbrev pub return_cmp : Return → Return → Ordering
return_cmp r q = text_cmp (path_text_of r.sender) (path_text_of q.sender)

abbrev pub number_line : ℕ → List ℕ
number_line number = spaced (codes "return" ∷ decimal number ∷ [])

-- a block: its number, whom it goes to, and its lines
abbrev pub block_text : ℕ → Return → List ℕ
block_text number r = lines_of (number_line number ∷ from_line r.sender ∷ r.lines)

-- blocks that stand with their numbers
abbrev pub numbered_blocks : List (ℕ × Return) → List ℕ
numbered_blocks rs = flat_map (λ r. block_text r.0 r.1) rs

-- the blocks, numbered from 1
abbrev pub blocks_text : List Return → List ℕ
blocks_text returns = numbered_blocks (enumerate_from 1 returns)

-- A plan's text, where the transactions have these texts, with the blocks between the last transaction and the first finding.
abbrev pub returned_text_by : (ℕ → Planned → List ℕ) → Plan → List Return → List ℕ
returned_text_by text p returns =
    line (first_line p) ++ numbered_texts text (enumerate_from 1 p.transactions) ++ blocks_text returns ++ lines_of p.findings ++ line (codes "end")

abbrev pub returned_plan_text_of : Plan → List Return → List ℕ
returned_plan_text_of p returns = returned_text_by transaction_text p returns

abbrev pub returned_wire_text_of : Plan → List Return → List ℕ
returned_wire_text_of p returns = returned_text_by (scripted_text p.hostname) p returns

-- what stands behind the blocks
abbrev pub tail_text : List (List ℕ) → List ℕ
tail_text findings = lines_of findings ++ line (codes "end")

-- a block as JSON
abbrev pub block_json : ℕ → Return → List ℕ
block_json number r = json_object (
    json_member (codes "return") (decimal number)
    ∷ json_member (codes "from") (json_string (path_text_of r.sender))
    ∷ json_member (codes "lines") (json_strings r.lines)
    ∷ [])

abbrev pub returns_member : List Return → List ℕ
returns_member returns = json_member (codes "returns") (json_array (map (λ r. block_json r.0 r.1) (enumerate_from 1 returns)))

-- the members of a plan's object with the blocks before its findings
abbrev pub returned_members : Plan → List Return → List (List ℕ)
returned_members p returns = front_members p ++ returns_member returns ∷ findings_member p.findings ∷ []

abbrev pub returned_json_text_of : Plan → List Return → List ℕ
returned_json_text_of p returns = line (json_object (returned_members p returns))
