-- The heading of an envelope among many: the word `%envelope`, white space, and an ID of bytes that can be seen. The heading `%end` ends it.
use Rattle.std.specs.Prelude.{ℕ, Bool, not, ◌&&◌, nat_le, List, take, drop, codes, Option, Some, None, if◌then◌else◌}
use Rattle.std.specs.List.{list_all}
use Rattle.std.specs.Str.{bytes_eq}
use Rattle.relay_text.specs.Bytes.{is_white, trimmed, trimmed_end, begins_with}
use Rattle.relay_text.specs.Addresses.{is_empty}

-- the word alone, or white space behind it
abbrev pub is_envelope_word : List ℕ → Bool
is_envelope_word text = begins_with (codes "%envelope") text && list_all is_white (take 1 (drop 9 text))

abbrev pub is_id_byte : ℕ → Bool
is_id_byte b = nat_le 33 b && nat_le b 126

-- white space round an ID is dropped
abbrev pub id_text : List ℕ → List ℕ
id_text text = trimmed (drop 9 text)

abbrev pub is_id : List ℕ → Bool
is_id id = not (is_empty id) && list_all is_id_byte id

-- the ID of the envelope that a line without its end is the heading of
abbrev pub id_of : List ℕ → Option (List ℕ)
id_of text = if is_envelope_word text && is_id (id_text text) then Some (id_text text) else None

-- the heading that ends an envelope: white space at its end is dropped
abbrev pub is_end : List ℕ → Bool
is_end text = bytes_eq (trimmed_end text) (codes "%end")

-- the heading that asks for the tables to be read anew, likewise
abbrev pub is_tables : List ℕ → Bool
is_tables text = bytes_eq (trimmed_end text) (codes "%tables")
