-- A transport table while it is read, line after line, and where its entries stand.
use Rattle.std.specs.Prelude.{◌≡◌, ⊤, ℕ, Bool, true, false, ◌==◌, List, [], ◌∷◌, ◌++◌, map, codes, Option, Some, None, option_map, Result, Err, if◌then◌else◌}
use Rattle.std.specs.List.{list_any}
use Rattle.relay_chains.specs.TextHash.{text_hash}
use Rattle.relay_text.specs.Bytes.{has_text}
use Rattle.relay_text.specs.AddressParts.{AddressParts}
use Rattle.relay_text.specs.Addresses.{name_of, base_of, is_dot}
use Rattle.relay_text.specs.declared.lines.Line.{Line}
use Rattle.relay_text.specs.declared.fault.TextFault.{TextFault}
use Rattle.relay_text.specs.declared.fault.TextFault.TheVariants.{BadDomain}
use Rattle.relay_routes.specs.declared.fault.FaultKind.TheVariants.{BadLine, Duplicate}
use Rattle.relay_routes.specs.declared.transport_line.TransportLine.{TransportLine}
use Rattle.relay_routes.specs.Transports.{line_of, fault, base_keys, parent_keys, is_result, pattern_of}
use Rattle.relay_routes.specs.TransportLines.{TransportLines}

-- whether a text is no name because a domain follows its local part
abbrev pub is_domain_fault : Result (List ℕ) TextFault → Bool
is_domain_fault (Err BadDomain) = true
is_domain_fault other = false

abbrev pub names_domain : List ℕ → Bool
names_domain text = is_domain_fault (name_of text)

-- the line of a pattern's field and the text of a result
abbrev pub line_with : List ℕ → List ℕ → Option TransportLine
line_with field text = if is_result text then option_map (λ pattern. record { pattern = pattern; result = text }) (pattern_of field) else None

-- whether an entry has this pattern
abbrev pub has_entry : List TransportLine → List ℕ → Bool
has_entry entries pattern = has_text (map (λ e. e.pattern) entries) pattern

-- the hash of an entry's pattern
abbrev pub pattern_hash : ℕ → TransportLine → ℕ
pattern_hash key entry = text_hash key entry.pattern

-- No entry has the pattern of one before it, nor of these, which stand before them all.
abbrev pub AreNew : List TransportLine → List TransportLine → Type 0
AreNew earlier [] = ⊤
AreNew earlier (e ∷ entries) = (has_entry earlier e.pattern ≡ false) × AreNew (earlier ++ e ∷ []) entries

-- whether a pattern has an `@`, as that of an address has
abbrev pub has_at : List ℕ → Bool
has_at text = list_any (λ b. b == 64) text

abbrev pub has_address : List TransportLine → Bool
has_address entries = list_any (λ e. has_at e.pattern) entries

-- a table with one more line, which has this number
abbrev pub with_line : TransportLines → ℕ → Option TransportLine → TransportLines
with_line table number None = record { entries = table.entries; faults = table.faults ++ fault number BadLine ∷ [] }
with_line table number (Some e) =
    if has_entry table.entries e.pattern then record { entries = table.entries; faults = table.faults ++ fault number Duplicate ∷ [] }
    else record { entries = table.entries ++ e ∷ []; faults = table.faults }

abbrev pub with_lines : TransportLines → List Line → TransportLines
with_lines table [] = table
with_lines table (l ∷ lines) = with_lines (with_line table l.number (line_of l.text)) lines

-- a domain and what stands for it: its parents, and `*`
abbrev pub domain_keys : List ℕ → List (List ℕ)
domain_keys domain = domain ∷ parent_keys domain ++ codes "*" ∷ []

-- the key without an extension, and those of the domain
abbrev pub later_keys : AddressParts → Option ℕ → List (List ℕ)
later_keys a delimiter = base_keys a (base_of a.local delimiter) ++ domain_keys a.domain

-- the ends of a text that begin at its dots, the longest first
abbrev pub dot_ends : List ℕ → List (List ℕ)
dot_ends [] = []
dot_ends (b ∷ bs) = if is_dot b then ((b ∷ bs) ∷ dot_ends bs) else dot_ends bs
