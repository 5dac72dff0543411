-- What an address's domain is.
use Rattle.std.specs.Prelude.{◌≡◌, true, false}
use Rattle.relay_text.specs.AddressParts.{AddressParts}
use Rattle.relay_tables.specs.declared.local.Local.{Local}
use Rattle.relay_tables.specs.declared.domain_kind.DomainKind.{DomainKind}
use Rattle.relay_tables.specs.declared.domain_kind.DomainKind.TheVariants as kind
use Rattle.relay_tables.specs.Targets.{is_local_address}

abbrev pub IsOfKind : Local → AddressParts → DomainKind → Type 0
IsOfKind local a kind.Origin = (a.domain ≡ local.origin) × (is_local_address local a ≡ true)
IsOfKind local a kind.Local = is_local_address local a ≡ true
IsOfKind local a kind.Remote = is_local_address local a ≡ false
