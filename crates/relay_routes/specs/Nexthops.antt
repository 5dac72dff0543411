-- Nexthops (transport(5) of Postfix; smtp(8), "SMTP DESTINATION SYNTAX"; lmtp(8), "LMTP DESTINATION SYNTAX").
use Rattle.std.specs.Prelude.{ℕ, ◌+◌, Bool, true, false, ◌&&◌, ◌||◌, ◌==◌, List, [], ◌∷◌, ◌++◌, length, drop, codes, Option, Some, None, is_some, option_map, option_and_then, if◌then◌else◌}
use Rattle.std.specs.List.{before_first, after_first, list_any}
use Rattle.std.specs.Char.{is_ascii_alphanumeric, is_ascii_graphic}
use Rattle.std.specs.Str.{bytes_eq}
use Rattle.relay_text.specs.Bytes.{folded, begins_with, begins_with_word, first_of}
use Rattle.relay_text.specs.Addresses.{is_domain_name, is_literal_content, is_run_of, is_empty}
use Rattle.relay_routes.specs.declared.transport.Transport.{Transport}
use Rattle.relay_routes.specs.declared.transport.Transport.TheVariants.{Smtp, Relay, Lmtp}
use Rattle.relay_routes.specs.declared.via.Via.{Via}
use Rattle.relay_routes.specs.Transports.{transport_named, is_colon}

-- A nexthop as the plan writes it, the host that it names, the `:port` that follows each host, and whether the host's mail
-- exchangers are looked up.
pub record Nexthop : Type 0 where
  pub text : List ℕ
  pub host : List ℕ
  pub port : List ℕ
  pub looks_up : Bool

-- nothing, or `:` and a nonempty run of letters, digits and hyphens
abbrev pub is_port : List ℕ → Bool
is_port text = is_empty text || (begins_with (codes ":") text && is_run_of (λ b. is_ascii_alphanumeric b || (b == 45)) (drop 1 text))

-- `host` or `host:port`
abbrev pub named_host : List ℕ → Option Nexthop
named_host text = let host = before_first is_colon text in let port = drop (length host) text in
    if is_domain_name host && is_port port then Some (record { text = folded text; host = folded host; port = folded port; looks_up = true }) else None

-- `[host]` or `[host]:port`, where the host is what may stand in an address literal
abbrev pub bracketed_host : List ℕ → Option Nexthop
bracketed_host text = let host = before_first (λ b. b == 93) (drop 1 text) in let port = drop (length host + 2) text in
    if bytes_eq text (codes "[" ++ host ++ codes "]" ++ port) && is_literal_content host && is_port port
    then Some (record { text = folded text; host = folded host; port = folded port; looks_up = false }) else None

abbrev pub host_form : List ℕ → Option Nexthop
host_form text = first_of (named_host text ∷ bracketed_host text ∷ [])

-- `unix:path`, whose path keeps its case
abbrev pub unix_form : List ℕ → Option Nexthop
unix_form text = let path = codes "unix:" ++ drop 5 text in
    if begins_with_word (codes "unix:") text && is_run_of is_ascii_graphic (drop 5 text)
    then Some (record { text = path; host = path; port = []; looks_up = false }) else None

-- `inet:` and a host, which the plan writes whole
abbrev pub written_as : List ℕ → Nexthop → Nexthop
written_as text n = record n { text = text }

abbrev pub inet_form : List ℕ → Option Nexthop
inet_form text = if begins_with_word (codes "inet:") text then option_map (written_as (folded text)) (host_form (drop 5 text)) else None

-- Over LMTP no mail exchanger is looked up, and the last two forms are tried first.
abbrev pub without_lookup : Nexthop → Nexthop
without_lookup n = record n { looks_up = false }

abbrev pub nexthop_of : Transport → List ℕ → Option Nexthop
nexthop_of Smtp text = host_form text
nexthop_of Relay text = host_form text
nexthop_of Lmtp text = option_map without_lookup (first_of (unix_form text ∷ inet_form text ∷ host_form text ∷ []))

-- A setting is a transport, or a transport, `:` and a nexthop of its forms.
abbrev pub with_nexthop : List ℕ → Transport → Option Via
with_nexthop nexthop transport = if is_some (nexthop_of transport nexthop) then Some (record { transport = transport; nexthop = Some nexthop }) else None

abbrev pub via_setting_of : List ℕ → Option Via
via_setting_of text =
    if list_any is_colon text then option_and_then (with_nexthop (after_first is_colon text)) (transport_named (before_first is_colon text))
    else option_map (λ transport. record { transport = transport; nexthop = None }) (transport_named text)
