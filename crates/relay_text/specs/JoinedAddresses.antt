-- Addresses in one row of bytes.
use Rattle.std.specs.Prelude.{ℕ, ◌+◌, List, ◌∷◌, ◌++◌, take, drop}
use Rattle.relay_text.specs.AddressParts.{AddressParts}
use Rattle.relay_text.specs.Addresses.{local_text_of}

-- the local part, `@` and the domain
abbrev pub joined_text_of : AddressParts → List ℕ
joined_text_of a = a.local ++ 64 ∷ a.domain

-- the parts of such a row whose local part has so many bytes
abbrev pub parts_at : ℕ → List ℕ → AddressParts
parts_at local_len text = record { local = take local_len text; domain = drop (local_len + 1) text }

-- what stands between the brackets of its path
abbrev pub address_text_of : AddressParts → List ℕ
address_text_of a = local_text_of a.local ++ 64 ∷ a.domain
