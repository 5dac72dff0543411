-- What a line is where envelopes come one after another, whatever stands before it.
use Rattle.std.specs.Prelude.{ℕ, Bool, nat_lt, length, if◌then◌else◌}
use Rattle.std.specs.List.{list_all}
use Rattle.relay_text.specs.Bytes.{is_white}
use Rattle.relay_job.specs.JobText.{JobLine, text_of}
use Rattle.relay_envelopes.specs.declared.kind.LineKind.{LineKind}
use Rattle.relay_envelopes.specs.declared.kind.LineKind.TheVariants.{Tables, Envelope, End, Blank, Other}
use Rattle.relay_envelopes.specs.Headings.{is_envelope_word, is_end, is_tables}

-- of lines of more bytes than these none is a heading
abbrev pub is_long : ℕ → JobLine → Bool
is_long max l = nat_lt max (length l.raw)

abbrev pub kind_of : ℕ → JobLine → LineKind
kind_of max l =
    if is_long max l then Other
    else (if is_tables (text_of l) then Tables
    else (if is_envelope_word (text_of l) then Envelope
    else (if is_end (text_of l) then End
    else (if list_all is_white (text_of l) then Blank else Other))))
