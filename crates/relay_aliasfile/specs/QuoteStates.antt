-- Where a reader of a text stands: a byte is outside quotes where an even number of unescaped `"` stands before it.
use Rattle.std.specs.Prelude.{ℕ, true, false, not, ◌&&◌, ◌==◌, if◌then◌else◌}
use Rattle.relay_aliasfile.specs.declared.quotes.QuoteState.{QuoteState}

abbrev pub at_start : QuoteState
at_start = record { escaped = false; outside = true }

-- where it stands past one more byte
abbrev pub past : QuoteState → ℕ → QuoteState
past s b = record { escaped = not s.escaped && (b == 92); outside = if (b == 34) && not s.escaped then not s.outside else s.outside }
