-- How lines are read of which some ask for something.
use Rattle.std.specs.Prelude.{◌≡◌, ◌≤◌, ℕ, ◌+◌, ◌-◌, ◌*◌, ◌^◌, Bool, true, false, List, [], ◌∷◌, ◌++◌, length, take, map, Option, Some, None, option_map, ⊤}
use Rattle.relay_text.specs.Lines.{raw_lines}
use Rattle.relay_job.specs.Places.{numbered_from}
use Rattle.relay_envelopes.specs.Sections.{Section}
use Rattle.aliasplan_each.specs.Asks.{Ask, planned, asks_from}
use Rattle.aliasplan_each.specs.Asks.Ask.{plan, change}

-- What is kept of a section: of one with more than so many bytes, one byte more.
abbrev pub kept : ℕ → Section → Section
kept max s = record { line = s.line; id = s.id; bytes = take (max + 1) s.bytes }

abbrev pub kept_some : ℕ → Option Section → Option Section
kept_some max begun = option_map (kept max) begun

abbrev pub kept_ask : ℕ → Ask → Ask
kept_ask max (plan s) = plan (kept max s)
kept_ask max change = change

-- the same, but for what isn't kept
abbrev pub AreAlike : ℕ → List Ask → List Ask → Type 0
AreAlike max asks others = map (kept_ask max) asks ≡ map (kept_ask max) others

-- where `%tables` has come, and wasn't passed yet
abbrev pub turned : Bool → List Ask
turned true = change ∷ []
turned false = []

-- what is to come of bytes behind so many lines
abbrev pub to_come : ℕ → ℕ → Bool → Option Section → List ℕ → List Ask
to_come max number asked begun bytes = turned asked ++ asks_from max begun (numbered_from (number + 1) (raw_lines bytes))

-- Some of what is to come is given, and this is left of it, and of so many lines and bytes.
pub record Leads (max : ℕ) (coming given left : List Ask) (all rest : ℕ) : Type 0 where
  pub asks : AreAlike max coming (given ++ left)
  pub fewer : rest ≤ all

-- of bytes that may be known
abbrev pub LeadsKnown : ℕ → ℕ → Bool → Option Section → Option (List ℕ) → List Ask → ℕ → Bool → Option Section → Option (List ℕ) → Type 0
LeadsKnown max number asked begun None given next turns goes_on left = ⊤
LeadsKnown max number asked begun (Some bytes) given next turns goes_on None = ⊥
LeadsKnown max number asked begun (Some bytes) given next turns goes_on (Some left) = Leads max (to_come max number asked begun bytes) given (to_come max next turns goes_on left) (number + length bytes) (next + length left)

-- how much more may be asked, at most: each line has a number
abbrev pub room : ℕ → Bool → Option Section → ℕ
room number asked begun = 2 * (2 ^ 64 - number) + length (turned asked) + length (planned begun)
