-- JSON texts (RFC 8259) of bytes, in ASCII and without white space between tokens: a string has each byte as the character of its number.
use Rattle.std.specs.Prelude.{ℕ, ◌/◌, ◌%◌, ◌==◌, ◌||◌, nat_lt, nat_le, List, [], ◌∷◌, ◌++◌, map, flat_map, codes, if◌then◌else◌, Option, Some, None}
use Rattle.std.specs.Char.{digit_char}
use Rattle.std.specs.List.{join_with_byte}

-- the letter of a byte's short escape (RFC 8259 section 7), where it has one
abbrev pub escape_letter : ℕ → Option ℕ
escape_letter b =
    if (b == 34) || (b == 92) then Some b
    else if b == 8 then Some 98
    else if b == 9 then Some 116
    else if b == 10 then Some 110
    else if b == 12 then Some 102
    else if b == 13 then Some 114
    else None

-- the escape of any byte: its number in four hexadecimal digits
abbrev pub number_escape : ℕ → List ℕ
number_escape b = codes "\\u00" ++ digit_char (b / 16) ∷ digit_char (b % 16) ∷ []

abbrev pub escape_by : Option ℕ → ℕ → List ℕ
escape_by (Some letter) b = 92 ∷ letter ∷ []
escape_by None b = if nat_lt b 32 || nat_le 128 b then number_escape b else (b ∷ [])

-- what stands in a string for a byte
unfoldable pub json_byte : ℕ → List ℕ
json_byte b = escape_by (escape_letter b) b

unfoldable pub json_string : List ℕ → List ℕ
json_string text = 34 ∷ flat_map json_byte text ++ 34 ∷ []

abbrev pub json_key : List ℕ → List ℕ
json_key name = json_string name ++ 58 ∷ []

-- a member of an object, and an object's and an array's text from those of what it has
abbrev pub json_member : List ℕ → List ℕ → List ℕ
json_member name value = json_key name ++ value

abbrev pub with_commas : List (List ℕ) → List ℕ
with_commas values = join_with_byte 44 values

abbrev pub json_object : List (List ℕ) → List ℕ
json_object members = 123 ∷ with_commas members ++ 125 ∷ []

abbrev pub json_array : List (List ℕ) → List ℕ
json_array values = 91 ∷ with_commas values ++ 93 ∷ []

abbrev pub json_strings : List (List ℕ) → List ℕ
json_strings texts = json_array (map json_string texts)

-- the comma before the value at an index
abbrev pub comma_at : ℕ → List ℕ
comma_at index = if index == 0 then [] else (44 ∷ [])
