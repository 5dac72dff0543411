-- The transport table (transport(5) of Postfix: "TABLE SEARCH ORDER", "RESULT FORMAT").
use Rattle.std.specs.Prelude.{ℕ, Bool, not, ◌&&◌, ◌||◌, ◌==◌, List, [], ◌∷◌, ◌++◌, map, filter, filter_map, length, drop, codes, Option, Some, None, option_map, Result, Ok, Err, if◌then◌else◌, take_while}
use Rattle.std.specs.List.{enumerate_from, list_all, list_any, before_first, after_first}
use Rattle.std.specs.Int.{is_in_range}
use Rattle.std.specs.Str.{bytes_eq}
use Rattle.relay_text.specs.Bytes.{is_white, trimmed, folded, begins_with, has_text, each_after, first_of}
use Rattle.relay_text.specs.Lines.{logical_lines_of}
use Rattle.relay_text.specs.AddressParts.{AddressParts}
use Rattle.relay_text.specs.Addresses.{Spelled, spelling_of, local_text_of, is_domain, is_domain_name, is_literal, is_dot, base_of, is_empty}
use Rattle.relay_text.specs.declared.lines.Line.{Line}
use Rattle.relay_text.specs.declared.fault.TextFault.{TextFault}
use Rattle.relay_routes.specs.declared.transport.Transport.{Transport}
use Rattle.relay_routes.specs.declared.transport.Transport.TheVariants.{Smtp, Relay, Lmtp}
use Rattle.relay_routes.specs.declared.choice.Choice.{Choice}
use Rattle.relay_routes.specs.declared.choice.Choice.TheVariants.{Absent, Via, Refused, Unknown}
use Rattle.relay_routes.specs.declared.fault.LineFault.{LineFault}
use Rattle.relay_routes.specs.declared.fault.FaultKind.{FaultKind}
use Rattle.relay_routes.specs.declared.fault.FaultKind.TheVariants.{BadLine, Duplicate}
use Rattle.relay_routes.specs.declared.transport_line.TransportLine.{TransportLine}
use Rattle.relay_routes.specs.TransportLines.{TransportLines}

-- An address as a key or a pattern: folded, in its canonical spelling.
abbrev pub address_key : List ℕ → List ℕ → List ℕ
address_key local domain = local_text_of (folded local) ++ codes "@" ++ folded domain

abbrev pub address_pattern : Result Spelled TextFault → Option (List ℕ)
address_pattern (Err fault) = None
address_pattern (Ok s) = option_map (address_key s.local) s.domain

-- A pattern is `*`, an address with a domain, `.` and a domain name, or a domain.
abbrev pub pattern_of : List ℕ → Option (List ℕ)
pattern_of text =
    if bytes_eq text (codes "*") then Some text
    else (if begins_with (codes ".") text && is_domain_name (drop 1 text) then Some (folded text)
    else (if is_domain text then Some (folded text) else address_pattern (spelling_of text)))

-- A line is a pattern without white space, and a result: the rest, trimmed.
abbrev pub pattern_text : List ℕ → List ℕ
pattern_text line = take_while (λ b. not (is_white b)) line

abbrev pub result_text : List ℕ → List ℕ
result_text line = trimmed (drop (length (pattern_text line)) line)

-- No white space stands in a result, unless it begins with `error:`.
abbrev pub is_result_byte : ℕ → Bool
is_result_byte b = (b == 9) || is_in_range 32 126 b

abbrev pub is_result : List ℕ → Bool
is_result text = not (is_empty text) && list_all is_result_byte text && (begins_with (codes "error:") text || not (list_any is_white text))

abbrev pub line_of : List ℕ → Option TransportLine
line_of line = if is_result (result_text line) then option_map (λ pattern. record { pattern = pattern; result = result_text line }) (pattern_of (pattern_text line)) else None

abbrev pub has_pattern : List Line → List ℕ → Bool
has_pattern lines pattern = has_text (filter_map (λ l. option_map (λ e. e.pattern) (line_of l.text)) lines) pattern

abbrev pub fault : ℕ → FaultKind → LineFault
fault line kind = record { line = line; kind = kind }

-- The first line of a pattern holds; a later good one is a duplicate.
abbrev pub entry_in : List Line → Option TransportLine → List TransportLine
entry_in earlier None = []
entry_in earlier (Some e) = if has_pattern earlier e.pattern then [] else (e ∷ [])

abbrev pub faults_in : List Line → ℕ → Option TransportLine → List LineFault
faults_in earlier number None = fault number BadLine ∷ []
faults_in earlier number (Some e) = if has_pattern earlier e.pattern then (fault number Duplicate ∷ []) else []

unfoldable pub transport_table_of : List ℕ → TransportLines
transport_table_of text = let cut = logical_lines_of text in
    record {
      entries = each_after (λ earlier l. entry_in earlier (line_of l.text)) [] cut.lines;
      faults = map (λ number. fault number BadLine) cut.orphans ++ each_after (λ earlier l. faults_in earlier l.number (line_of l.text)) [] cut.lines;
    }

-- `.parent` for each parent domain, the longest first. An address literal has none.
abbrev pub parent_keys : List ℕ → List (List ℕ)
parent_keys domain = if is_literal domain then [] else map (λ p. drop p.0 domain) (filter (λ p. is_dot p.1) (enumerate_from 0 domain))

-- the address without its extension, where its local part is split
abbrev pub base_keys : AddressParts → Option (List ℕ) → List (List ℕ)
base_keys a None = []
base_keys a (Some base) = address_key base a.domain ∷ []

-- The keys of an address in the order in which they are tried.
abbrev pub keys_of : AddressParts → Option ℕ → List (List ℕ)
keys_of a delimiter =
    address_key a.local a.domain ∷ base_keys a (base_of a.local delimiter) ++ a.domain ∷ parent_keys a.domain ++ codes "*" ∷ []

abbrev pub result_at : List TransportLine → List ℕ → Option (List ℕ)
result_at entries key = first_of (map (λ e. if bytes_eq e.pattern key then Some e.result else None) entries)

-- the result at the first key that the table has
abbrev pub found_result : List TransportLine → List (List ℕ) → Option (List ℕ)
found_result entries keys = first_of (map (result_at entries) keys)

abbrev pub transport_named : List ℕ → Option Transport
transport_named name =
    if bytes_eq name (codes "smtp") then Some Smtp
    else (if bytes_eq name (codes "relay") then Some Relay
    else (if bytes_eq name (codes "lmtp") then Some Lmtp else None))

abbrev pub transport_name : Transport → List ℕ
transport_name Smtp = codes "smtp"
transport_name Relay = codes "relay"
transport_name Lmtp = codes "lmtp"

-- a text, where it has a byte
abbrev pub some_text : List ℕ → Option (List ℕ)
some_text text = if is_empty text then None else Some text

abbrev pub is_colon : ℕ → Bool
is_colon b = b == 58

abbrev pub via_or_unknown : Option Transport → Option (List ℕ) → Choice
via_or_unknown None nexthop = Unknown
via_or_unknown (Some transport) nexthop = Via (Some transport) nexthop

abbrev pub nexthop_alone : Option (List ℕ) → Choice
nexthop_alone None = Absent
nexthop_alone (Some nexthop) = Via None (Some nexthop)

-- A result is cut at its first `:` into a transport and a nexthop, either of which may be empty. `error:text` refuses.
abbrev pub choice_of : Option (List ℕ) → Choice
choice_of None = Absent
choice_of (Some text) =
    if begins_with (codes "error:") text then Refused (trimmed (drop 6 text))
    else (if is_empty (before_first is_colon text) then nexthop_alone (some_text (after_first is_colon text))
    else via_or_unknown (transport_named (before_first is_colon text)) (some_text (after_first is_colon text)))

abbrev pub choice_for : List TransportLine → Option ℕ → AddressParts → Choice
choice_for entries delimiter a = choice_of (found_result entries (keys_of a delimiter))
