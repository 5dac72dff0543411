-- Where a list may be cut.
use Rattle.std.specs.Prelude.{◌≡◌, ℕ, Bool, false, ◌==◌, ◌||◌, List, All}

-- A byte that may change whether those behind it stand outside quotes.
abbrev pub is_quote_byte : ℕ → Bool
is_quote_byte b = (b == 34) || (b == 92)

-- Each byte stands outside quotes, and so does the one behind them.
abbrev pub HasNoQuotes : List ℕ → Type 0
HasNoQuotes list = All (λ b. is_quote_byte b ≡ false) list
