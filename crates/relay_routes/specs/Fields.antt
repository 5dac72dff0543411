-- The first field of a line.
use Rattle.std.specs.Prelude.{ℕ, Bool, ◌&&◌, List, drop, codes}
use Rattle.std.specs.List.{before_first}
use Rattle.relay_text.specs.Bytes.{is_white, begins_with}
use Rattle.relay_text.specs.Addresses.{is_domain_name}

-- the bytes before the first white space
abbrev pub front_field : List ℕ → List ℕ
front_field text = before_first is_white text

-- `.` and a domain name
abbrev pub is_parent : List ℕ → Bool
is_parent text = begins_with (codes ".") text && is_domain_name (drop 1 text)
