-- Texts that are wholly one quoted string (RFC 5321 section 4.1.2, Quoted-string).
use Rattle.std.specs.Prelude.{ℕ, Bool, ◌&&◌, List, Option, Some, None, if◌then◌else◌}
use Rattle.relay_text.specs.Addresses.{LocalCut, local_cut, local_of, is_empty}

-- whether a local part at the front of a text is quoted, closed, and all there is
abbrev pub is_whole_string : LocalCut → Bool
is_whole_string cut = cut.quoted && cut.closed && is_empty cut.rest

-- the content of a quoted string, with `\x` read as `x`
abbrev pub string_content : List ℕ → Option (List ℕ)
string_content text = if is_whole_string (local_cut text) then Some (local_of (local_cut text)) else None
