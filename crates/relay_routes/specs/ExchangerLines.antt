-- The lines of a domain's mail exchangers, and what becomes of each (RFC 5321 section 5.1; RFC 7505).
use Rattle.std.specs.Prelude.{◌≡◌, ◌++◌, ℕ, Bool, true, false, not, ◌&&◌, ◌==◌, List, [], ◌∷◌, map, filter, filter_map, slice_get, Option, Some, None, option_map, option_and_then, Result, Err, if◌then◌else◌}
use Rattle.std.specs.List.{list_all, list_any}
use Rattle.std.specs.Str.{bytes_eq}
use Rattle.std.specs.Int.{to_be_bytes, w16}
use Rattle.relay_text.specs.Bytes.{has_text, each_after, first_of}
use Rattle.relay_text.specs.Lines.{kept_lines}
use Rattle.relay_text.specs.declared.lines.Line.{Line}
use Rattle.relay_routes.specs.declared.exchange.Exchange.{Exchange}
use Rattle.relay_routes.specs.declared.fate.Fate.{Fate}
use Rattle.relay_routes.specs.declared.fate.Fate.TheVariants.{Host, Repeated, Own, Discarded, Null}
use Rattle.relay_routes.specs.declared.mx_record.MxRecord.{MxRecord}
use Rattle.relay_routes.specs.declared.exchanger_fates.Numbered.{Numbered}
use Rattle.relay_routes.specs.declared.exchanger_fates.ExchangerLine.{ExchangerLine}
use Rattle.relay_routes.specs.declared.unrouted.Unrouted.{Unrouted}
use Rattle.relay_routes.specs.declared.unrouted.Unrouted.TheVariants.{Domain, NullMx}
use Rattle.relay_routes.specs.Preferences.{is_within}
use Rattle.relay_routes.specs.Exchanges.{record_in, exchange_in, address_in, is_null, is_before_relay, in_preference_order, some_hosts}

abbrev pub numbered : ℕ → Exchange → Numbered
numbered number e = record { line = number; exchange = e }

-- the exchanger that a record is, under the number of its line, and the number of a line that says that the domain has an address
abbrev pub exchanger_in : ℕ → MxRecord → Option Numbered
exchanger_in number r = option_map (numbered number) (exchange_in r)

abbrev pub is_of : List ℕ → Numbered → Bool
is_of domain n = bytes_eq n.exchange.domain domain

abbrev pub number_if : List ℕ → ℕ → List ℕ → Option ℕ
number_if domain number name = if bytes_eq name domain then Some number else None

abbrev pub address_line_in : List ℕ → ℕ → MxRecord → Option ℕ
address_line_in domain number r = option_and_then (number_if domain number) (address_in r)

abbrev pub exchanger_on : Line → Option Numbered
exchanger_on l = option_and_then (exchanger_in l.number) (record_in l)

abbrev pub address_on : List ℕ → Line → Option ℕ
address_on domain l = option_and_then (address_line_in domain l.number) (record_in l)

-- the exchangers of a domain on these lines, and the first of the lines that says that it has an address
abbrev pub exchangers_on : List ℕ → List Line → List Numbered
exchangers_on domain lines = filter (is_of domain) (filter_map exchanger_on lines)

abbrev pub first_address : List ℕ → List Line → Option ℕ
first_address domain lines = slice_get (filter_map (address_on domain) lines) 0

-- A domain without exchangers that has an address is its own, with preference 0, on that line.
abbrev pub exchangers_or : List Numbered → Option ℕ → List ℕ → List Numbered
exchangers_or (e ∷ es) line domain = e ∷ es
exchangers_or [] None domain = []
exchangers_or [] (Some line) domain = numbered line (record { domain = domain; preference = 0; host = domain }) ∷ []

abbrev pub exchangers_of_domain : List ℕ → List ℕ → List Numbered
exchangers_of_domain text domain = exchangers_or (exchangers_on domain (kept_lines text)) (first_address domain (kept_lines text)) domain

abbrev pub good_exchanges : List Numbered → List Exchange
good_exchanges es = filter (λ e. not (is_null e)) (map (λ n. n.exchange) es)

-- an earlier one has the same preference and host
abbrev pub is_same : Exchange → Numbered → Bool
is_same e n = (n.exchange.preference == e.preference) && bytes_eq n.exchange.host e.host

-- the preference's two bytes, and the host
abbrev pub exchange_key : Exchange → List ℕ
exchange_key e = to_be_bytes w16 e.preference ++ e.host

-- What becomes of one, after those before it: the first of these that holds.
abbrev pub fate_by : Bool → Bool → Bool → Bool → Fate
fate_by is_null is_own is_before is_new =
    if is_null then Null
    else (if is_own then Own
    else (if not is_before then Discarded
    else (if is_new then Host else Repeated)))

abbrev pub fate_of : List (List ℕ) → List Numbered → List Numbered → Exchange → Fate
fate_of own_names es earlier e = fate_by (is_null e) (has_text own_names e.host) (is_before_relay own_names (good_exchanges es) e) (not (list_any (is_same e) earlier))

-- the same by the least preference of the relay's own exchangers, and the keys of the earlier ones
abbrev pub fate_behind : List (List ℕ) → Option ℕ → List (List ℕ) → Exchange → Fate
fate_behind own_names limit seen e = fate_by (is_null e) (has_text own_names e.host) (is_within limit e.preference) (not (has_text seen (exchange_key e)))

abbrev pub line_with : Fate → Numbered → ExchangerLine
line_with fate n = record { line = n.line; preference = n.exchange.preference; host = n.exchange.host; fate = fate }

abbrev pub with_fates : List (List ℕ) → List Numbered → List ExchangerLine
with_fates own_names es = each_after (λ earlier n. line_with (fate_of own_names es earlier n.exchange) n ∷ []) [] es

unfoldable pub exchanger_lines_of : List ℕ → List ℕ → List (List ℕ) → List ExchangerLine
exchanger_lines_of text domain own_names = with_fates own_names (exchangers_of_domain text domain)

-- The hosts that such lines give: those of fate `host` in the order of trying.
abbrev pub is_host : ExchangerLine → Bool
is_host l = is_host_fate l.fate where
  is_host_fate : Fate → Bool
  is_host_fate Host = true
  is_host_fate Repeated = false
  is_host_fate Own = false
  is_host_fate Discarded = false
  is_host_fate Null = false

abbrev pub is_null_line : ExchangerLine → Bool
is_null_line l = is_null_fate l.fate where
  is_null_fate : Fate → Bool
  is_null_fate Host = false
  is_null_fate Repeated = false
  is_null_fate Own = false
  is_null_fate Discarded = false
  is_null_fate Null = true

abbrev pub exchange_by : List ℕ → ExchangerLine → Exchange
exchange_by domain l = record { domain = domain; preference = l.preference; host = l.host }

abbrev pub hosts_by : List ℕ → ℕ → List ExchangerLine → Result (List (List ℕ)) Unrouted
hosts_by domain seed [] = Err Domain
hosts_by domain seed (l ∷ ls) = if list_all is_null_line (l ∷ ls) then Err NullMx else some_hosts (in_preference_order seed (map (exchange_by domain) (filter is_host (l ∷ ls))))

-- what a reader knows of a domain before some lines, and what is left
pub record HasRead (domain : List ℕ) (lines rest : List Line) (exchangers : List Numbered) (address : Option ℕ) : Type 0 where
  pub exchangers_are : exchangers ++ exchangers_on domain rest ≡ exchangers_on domain lines
  pub address_is : first_of (address ∷ first_address domain rest ∷ []) ≡ first_address domain lines
