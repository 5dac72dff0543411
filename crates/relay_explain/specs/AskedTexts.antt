-- What a text asks for.
use Rattle.std.specs.Prelude.{ℕ, ◌-◌, Bool, ◌&&◌, ◌==◌, nat_lt, List, codes, length, slice_index, slice_range, Option, Some, None, Result, if◌then◌else◌}
use Rattle.relay_text.specs.Addresses.{Spelled, spelling_of, result_map}
use Rattle.relay_text.specs.declared.fault.TextFault.{TextFault}
use Rattle.relay_explain.specs.declared.asked.Asked.{Asked}
use Rattle.relay_explain.specs.declared.asked.Asked.TheVariants as asked

-- what stands in angle brackets, where these are the text's first and last byte, else the text
abbrev pub is_bracketed : List ℕ → Bool
is_bracketed text = nat_lt 1 (length text) && ((slice_index text 0 == 60) && (slice_index text (length text - 1) == 62))

abbrev pub inner_text : List ℕ → List ℕ
inner_text text = if is_bracketed text then slice_range text 1 (length text - 1) else text

-- Without a domain it is a name.
abbrev pub no_domain : List ℕ
no_domain = codes "localhost"

abbrev pub asked_with : List ℕ → Option (List ℕ) → Asked
asked_with local None = asked.Name (record { local = local; domain = no_domain })
asked_with local (Some domain) = asked.Address (record { local = local; domain = domain })

abbrev pub asked_as : Spelled → Asked
asked_as s = asked_with s.local s.domain

unfoldable pub asked_of : List ℕ → Result Asked TextFault
asked_of text = result_map asked_as (spelling_of (inner_text text))
