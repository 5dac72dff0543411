-- About how many items a text has.
use Rattle.std.specs.Prelude.{ℕ, ◌+◌, ◌/◌, ◌||◌, ◌==◌, min, List, length}
use Rattle.std.specs.List.{count_by}

-- how many commas and line feeds a text has
abbrev pub separators_of : List ℕ → ℕ
separators_of text = count_by (λ b. (b == 44) || (b == 10)) text

-- One more than the text has commas and line feeds, but at most one for each sixteen bytes, and one.
abbrev pub about_items : List ℕ → ℕ
about_items text = min (separators_of text) (length text / 16) + 1
