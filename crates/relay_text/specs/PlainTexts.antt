-- Addresses and names that are written without quotes: a local part of atext and dots, and where an `@` follows it, a domain name.
use Rattle.std.specs.Prelude.{◌≡◌, ℕ, Bool, true, not, ◌&&◌, ◌||◌, ◌==◌, List, [], ◌∷◌, ◌++◌, take, drop, Option, Some, None, Err, if◌then◌else◌}
use Rattle.std.specs.List.{list_all}
use Rattle.relay_text.specs.Addresses.{is_empty, name_of, address_of}
use Rattle.relay_text.specs.Runs.{run_byte, run_len, run_in, is_joined}
use Rattle.relay_text.specs.declared.fault.TextFault.{TextFault}
use Rattle.relay_text.specs.declared.run.Part.TheVariants.{Local, Domain}

-- what may follow the local part
abbrev pub is_plain_rest : List ℕ → Bool
is_plain_rest [] = true
is_plain_rest (b ∷ bs) = (b == 64) && is_joined Domain bs

-- whether a text is so written, where its local part has so many bytes
abbrev pub is_plain_text : ℕ → List ℕ → Bool
is_plain_text local_len text = not (is_empty (take local_len text)) && list_all (run_byte Local) (take local_len text) && is_plain_rest (drop local_len text)

-- the longest such text at the front of some bytes: none where no local part stands there, or where no domain name follows its `@`
abbrev pub front_behind : List ℕ → List ℕ → Option (List ℕ)
front_behind local [] = Some local
front_behind local (b ∷ bs) = if b == 64 then (if is_joined Domain (run_in Domain bs) then Some (local ++ 64 ∷ run_in Domain bs) else None) else Some local

abbrev pub plain_front : List ℕ → Option (List ℕ)
plain_front bytes = if is_empty (run_in Local bytes) then None else front_behind (run_in Local bytes) (drop (run_len Local bytes) bytes)

-- that a text has this fault, read as a name and as an address, whatever the origin
abbrev pub HasFault : TextFault → List ℕ → Type 0
HasFault fault text = (name_of text ≡ Err fault) × ((origin : List ℕ) → address_of origin text ≡ Err fault)

-- at least one byte, each of which may stand in a local part without quotes, or is `@`
abbrev pub is_open_byte : ℕ → Bool
is_open_byte b = run_byte Local b || (b == 64)

abbrev pub is_open_text : List ℕ → Bool
is_open_text text = not (is_empty text) && list_all is_open_byte text
