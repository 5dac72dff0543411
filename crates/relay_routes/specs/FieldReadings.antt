-- One reading of a line's first field, byte after byte.
use Rattle.std.specs.Prelude.{ℕ, ◌+◌, Bool, true, false, not, ◌&&◌, ◌||◌, ◌==◌, List, [], ◌∷◌, if◌then◌else◌}
use Rattle.std.specs.Char.{is_ascii_alphanumeric, is_ascii_uppercase}
use Rattle.relay_text.specs.Bytes.{is_white}
use Rattle.relay_text.specs.Addresses.{is_dot}

-- which bytes may stand in a label, and which of them folding keeps
abbrev pub is_label_byte : ℕ → Bool
is_label_byte b = is_ascii_alphanumeric b || (b == 45) || (b == 95)

abbrev pub is_small : ℕ → Bool
is_small b = is_label_byte b && not (is_ascii_uppercase b)

-- how many bytes stand before the first white space
abbrev pub front_len : List ℕ → ℕ
front_len [] = 0
front_len (b ∷ bs) = if is_small b then 1 + front_len bs else (if is_white b then 0 else 1 + front_len bs)

-- whether what is left of a field goes on as a domain name, past bytes that were joined well or not, of which the last stands in a
-- label or not
abbrev pub labels_from : Bool → Bool → List ℕ → Bool
labels_from joined fresh [] = joined && not fresh
labels_from joined fresh (b ∷ bs) =
    if is_small b then labels_from joined false bs
    else (if is_white b then joined && not fresh
    else (if is_ascii_uppercase b then labels_from joined false bs else labels_from (joined && is_dot b && not fresh) true bs))

-- whether a capital was seen, or is left in the field
abbrev pub capital_from : Bool → List ℕ → Bool
capital_from seen [] = seen
capital_from seen (b ∷ bs) =
    if is_small b then capital_from seen bs
    else (if is_white b then seen
    else (if is_ascii_uppercase b then capital_from true bs else capital_from seen bs))
