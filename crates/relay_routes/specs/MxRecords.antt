-- The records of an MX table, which are found by the hashes of their domains.
use Rattle.std.specs.Prelude.{◌≡◌, ℕ, Bool, false, List, map, Option, Some, None, if◌then◌else◌}
use Rattle.std.specs.Str.{bytes_eq}
use Rattle.relay_chains.specs.TextHash.{text_hash}
use Rattle.relay_routes.specs.declared.exchange.Exchange.{Exchange}
use Rattle.relay_routes.specs.declared.mx_record.MxRecord.{MxRecord}
use Rattle.relay_routes.specs.declared.mx_record.MxRecord.TheVariants.{Mx, Address}
use Rattle.relay_routes.specs.Exchanges.{domain_of}

abbrev pub domain_hash : ℕ → MxRecord → ℕ
domain_hash key r = text_hash key (domain_of r)

-- These are the hashes of the records' domains.
abbrev pub AreHashed : ℕ → List MxRecord → List ℕ → Type 0
AreHashed key records hashes = hashes ≡ map (domain_hash key) records

-- the mail exchanger that a record is, where it's this domain's, and whether it says that this domain has an address
abbrev pub own_exchange : List ℕ → MxRecord → Option Exchange
own_exchange domain (Mx e) = if bytes_eq e.domain domain then Some e else None
own_exchange domain (Address a) = None

abbrev pub is_own_address : List ℕ → MxRecord → Bool
is_own_address domain (Mx e) = false
is_own_address domain (Address a) = bytes_eq a domain
