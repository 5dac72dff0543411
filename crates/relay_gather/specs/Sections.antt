-- The sections of a job's text, and how they are joined.
use Rattle.std.specs.Prelude.{ℕ, ◌-◌, nat_lt, List, [], ◌∷◌, ◌++◌, length, flat_map, codes, Result, Ok, Err, if◌then◌else◌}
use Rattle.relay_text.specs.Bytes.{begins_with, ends_with}
use Rattle.relay_text.specs.Lines.{raw_lines}
use Rattle.relay_text.specs.Addresses.{is_empty, result_map}
use Rattle.relay_job.specs.declared.fault.RunFault.{RunFault}
use Rattle.relay_job.specs.declared.fault.RunFault.TheVariants.{Read, TooLong}
use Rattle.relay_gather.specs.Source.{Answer, unknown, absent, failed, file}

-- Each line that begins with `%` gets one more; a nonempty text whose last byte isn't LF gets one.
abbrev pub escaped_line : List ℕ → List ℕ
escaped_line raw = if begins_with (codes "%") raw then (37 ∷ raw) else raw

abbrev pub with_end : List ℕ → List ℕ
with_end text = if is_empty text then [] else (if ends_with (10 ∷ []) text then text else text ++ 10 ∷ [])

abbrev pub section_body : List ℕ → List ℕ
section_body text = with_end (flat_map escaped_line (raw_lines text))

abbrev pub section_text : List ℕ → List ℕ → List ℕ
section_text heading text = heading ++ 10 ∷ section_body text

-- A named file that is absent or failed can't be read, nor can an include file that failed. An absent include file is left out.
abbrev pub named_section : List ℕ → Answer → Result (List ℕ) RunFault
named_section heading (file text) = Ok (section_text heading text)
named_section heading absent = Err Read
named_section heading failed = Err Read
named_section heading unknown = Err Read

abbrev pub include_section : List ℕ → Answer → Result (List ℕ) RunFault
include_section path (file text) = Ok (section_text (codes "%include " ++ path) text)
include_section path absent = Ok []
include_section path failed = Err Read
include_section path unknown = Err Read

-- The sections in their order; the first that can't be read, or that makes the text longer than `max`, decides.
abbrev pub joined : List (Result (List ℕ) RunFault) → ℕ → Result (List ℕ) RunFault
joined [] max = Ok []
joined (Err fault ∷ sections) max = Err fault
joined (Ok text ∷ sections) max = if nat_lt max (length text) then Err TooLong else result_map (λ rest. text ++ rest) (joined sections (max - length text))
