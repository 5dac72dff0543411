-- Mail exchangers (RFC 5321 section 5.1: MX records in the order of their preference, the relay's own names, the implicit MX;
-- RFC 7505: the null MX).
use Rattle.std.specs.Prelude.{ℕ, ◌%◌, Bool, true, false, not, ◌&&◌, ◌||◌, ◌==◌, nat_lt, List, [], ◌∷◌, ◌++◌, map, filter, filter_map, flat_map, length, take, drop, codes, Option, Some, None, is_none, Result, Ok, Err, if◌then◌else◌}
use Rattle.std.specs.List.{slice_split, list_all}
use Rattle.std.specs.Str.{bytes_eq}
use Rattle.relay_text.specs.Bytes.{is_white, is_word, folded, has_text, firsts}
use Rattle.relay_text.specs.Lines.{kept_lines}
use Rattle.relay_text.specs.Numbers.{number_within}
use Rattle.relay_text.specs.Addresses.{is_domain_name, is_empty}
use Rattle.relay_text.specs.declared.lines.Line.{Line}
use Rattle.relay_routes.specs.declared.exchange.Exchange.{Exchange}
use Rattle.relay_routes.specs.declared.mx_record.MxRecord.{MxRecord}
use Rattle.relay_routes.specs.declared.mx_record.MxRecord.TheVariants.{Mx, Address}
use Rattle.relay_routes.specs.declared.fault.LineFault.{LineFault}
use Rattle.relay_routes.specs.declared.fault.FaultKind.TheVariants.{BadLine}
use Rattle.relay_routes.specs.declared.unrouted.Unrouted.{Unrouted}
use Rattle.relay_routes.specs.declared.unrouted.Unrouted.TheVariants.{Domain, MxSelf, NullMx}
use Rattle.relay_routes.specs.MxLines.{MxLines}

-- the fields of a line: its pieces without white space
abbrev pub fields_of : List ℕ → List (List ℕ)
fields_of line = filter (λ piece. not (is_empty piece)) (slice_split is_white line)

-- The host `.` with preference 0 is the null MX.
abbrev pub null_host : List ℕ
null_host = codes "."

abbrev pub is_exchange_host : ℕ → List ℕ → Bool
is_exchange_host preference host = is_domain_name host || (bytes_eq host null_host && (preference == 0))

abbrev pub exchange_of : List ℕ → List ℕ → Option ℕ → Option MxRecord
exchange_of domain host None = None
exchange_of domain host (Some preference) =
    if is_domain_name domain && is_exchange_host preference host
    then Some (Mx (record { domain = folded domain; preference = preference; host = folded host })) else None

-- `domain MX number host`, with a number of 16 bits, or `domain A`
abbrev pub record_of : List (List ℕ) → Option MxRecord
record_of (domain ∷ word ∷ []) = if is_word (codes "a") word && is_domain_name domain then Some (Address (folded domain)) else None
record_of (domain ∷ word ∷ number ∷ host ∷ []) = if is_word (codes "mx") word then exchange_of domain host (number_within 0 65535 number) else None
record_of fields = None

-- the exchanger, the domain of the address, and the domain of a record
abbrev pub exchange_in : MxRecord → Option Exchange
exchange_in (Mx e) = Some e
exchange_in (Address domain) = None

abbrev pub address_in : MxRecord → Option (List ℕ)
address_in (Mx e) = None
address_in (Address domain) = Some domain

abbrev pub domain_of : MxRecord → List ℕ
domain_of (Mx e) = e.domain
domain_of (Address domain) = domain

-- Each line that isn't ignored is a record or a fault.
abbrev pub record_in : Line → Option MxRecord
record_in l = record_of (fields_of l.text)

abbrev pub fault : ℕ → LineFault
fault line = record { line = line; kind = BadLine }

abbrev pub faults_in : Line → List LineFault
faults_in l = if is_none (record_in l) then (fault l.number ∷ []) else []

unfoldable pub mx_table_of : List ℕ → MxLines
mx_table_of text = let records = filter_map record_in (kept_lines text) in
    record {
      exchanges = filter_map exchange_in records;
      addresses = filter_map address_in records;
      faults = flat_map faults_in (kept_lines text);
    }

abbrev pub is_null : Exchange → Bool
is_null e = bytes_eq e.host null_host

-- The exchangers of a domain without null ones. A domain without exchangers that has an address is its own, with preference 0.
-- One that has neither has no route, and one whose exchangers are all null takes no mail.
abbrev pub exchangers : List Exchange → Bool → List ℕ → Result (List Exchange) Unrouted
exchangers [] true domain = Ok (record { domain = domain; preference = 0; host = domain } ∷ [])
exchangers [] false domain = Err Domain
exchangers (e ∷ es) has_address domain = if list_all is_null (e ∷ es) then Err NullMx else Ok (filter (λ x. not (is_null x)) (e ∷ es))

-- The relay's own preferences: where there is one, only exchangers of lower preference than each of them are tried.
abbrev pub is_before_relay : List (List ℕ) → List Exchange → Exchange → Bool
is_before_relay own_names es e = list_all (λ own. nat_lt e.preference own.preference) (filter (λ x. has_text own_names x.host) es)

-- the distinct numbers of a list, ascending
abbrev pub with_number : ℕ → List ℕ → List ℕ
with_number n [] = n ∷ []
with_number n (m ∷ ms) = if n == m then m ∷ ms else (if nat_lt n m then n ∷ m ∷ ms else m ∷ with_number n ms)

abbrev pub ascending_numbers : List ℕ → List ℕ
ascending_numbers [] = []
ascending_numbers (n ∷ ns) = with_number n (ascending_numbers ns)

-- a list with its first `seed mod n` of n elements behind the others
abbrev pub rotated : {X : Type 0} → ℕ → List X → List X
rotated seed xs = drop (seed % length xs) xs ++ take (seed % length xs) xs

-- the distinct hosts of one preference, in table order, rotated
abbrev pub hosts_at : ℕ → List Exchange → ℕ → List (List ℕ)
hosts_at seed es preference = rotated seed (firsts bytes_eq (map (λ e. e.host) (filter (λ e. e.preference == preference) es)))

-- Exchangers are tried in rising preference.
abbrev pub in_preference_order : ℕ → List Exchange → List (List ℕ)
in_preference_order seed es = flat_map (hosts_at seed es) (ascending_numbers (map (λ e. e.preference) es))

abbrev pub some_hosts : List (List ℕ) → Result (List (List ℕ)) Unrouted
some_hosts [] = Err MxSelf
some_hosts (host ∷ hosts) = Ok (host ∷ hosts)

abbrev pub hosts_before_relay : Result (List Exchange) Unrouted → List (List ℕ) → ℕ → Result (List (List ℕ)) Unrouted
hosts_before_relay (Err reason) own_names seed = Err reason
hosts_before_relay (Ok es) own_names seed = some_hosts (in_preference_order seed (filter (is_before_relay own_names es) es))

unfoldable pub hosts_of : MxLines → List ℕ → List (List ℕ) → ℕ → Result (List (List ℕ)) Unrouted
hosts_of table domain own_names seed =
    hosts_before_relay (exchangers (filter (λ e. bytes_eq e.domain domain) table.exchanges) (has_text table.addresses domain) domain) own_names seed
