-- Runs of bytes joined by dots, as a local part without quotes and a domain name have them.
use Rattle.std.specs.Prelude.{ℕ, Bool, ◌||◌, ◌==◌, List, take}
use Rattle.std.specs.List.{prefix_len, list_all, slice_split}
use Rattle.std.specs.Char.{is_ascii_alphanumeric}
use Rattle.relay_text.specs.Addresses.{is_atext, is_dot, is_run_of}
use Rattle.relay_text.specs.declared.run.Part.{Part}
use Rattle.relay_text.specs.declared.run.Part.TheVariants.{Local, Domain}

-- which bytes may stand in a part beside the dots
abbrev pub part_byte : Part → ℕ → Bool
part_byte Local = is_atext
part_byte Domain = λ b. is_ascii_alphanumeric b || (b == 45) || (b == 95)

abbrev pub run_byte : Part → ℕ → Bool
run_byte part b = part_byte part b || is_dot b

-- such bytes at the front of a text
abbrev pub run_len : Part → List ℕ → ℕ
run_len part text = prefix_len (run_byte part) text

abbrev pub run_in : Part → List ℕ → List ℕ
run_in part text = take (run_len part text) text

-- whether single dots join runs that aren't empty
abbrev pub is_joined : Part → List ℕ → Bool
is_joined part text = list_all (is_run_of (part_byte part)) (slice_split is_dot text)
