-- Lines that begin with `%`.
use Rattle.std.specs.Prelude.{ℕ, suc, ◌-◌, Bool, ◌&&◌, ◌||◌, ◌==◌, List, [], ◌∷◌, codes, slice_index, if◌then◌else◌}
use Rattle.relay_text.specs.Bytes.{begins_with}
use Rattle.relay_job.specs.JobText.{JobLine}

-- whether a byte of a text stands at a line's start
abbrev pub begins_line : List ℕ → ℕ → Bool
begins_line text place = (place == 0) || (slice_index text (place - 1) == 10)

-- how many bytes stand before the first `%` at a line's start, where the first byte stands at one or not
abbrev pub percent_place : Bool → List ℕ → ℕ
percent_place starts [] = 0
percent_place starts (b ∷ bs) = if starts && (b == 37) then 0 else suc (percent_place (b == 10) bs)

-- the lines from the first on that begins with `%`
abbrev pub from_percent_line : List JobLine → List JobLine
from_percent_line [] = []
from_percent_line (l ∷ ls) = if begins_with (codes "%") l.raw then (l ∷ ls) else from_percent_line ls
