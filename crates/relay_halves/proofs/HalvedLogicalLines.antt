-- The logical lines of a text that is cut between two of them, and their numbers.
use Rattle.std.proofs.Common.{◌≡◌, ◌≢◌, ℕ, ◌+◌, ◌≤◌, Bool, true, false, not, cond, eqb, suc, List, [], ◌∷◌, ◌++◌, length, map, All, refl, sym, ap, ◌∙◌, arith, inl, inr}
use Rattle.std.specs.List.{filter, flat_map, enumerate_from, position_or_len, before_first}
use Rattle.std.proofs.lemmas.Bool.Decides.{eqb_tells}
use Rattle.std.proofs.lemmas.List.Elements.{All-cons}
use Rattle.std.proofs.lemmas.List.Folds.{flat_map-map}
use Rattle.relay_text.specs.Lines.{Cut, raw_lines, physical_lines, line_text, without_cr, is_ignored, kept_lines, cut_before, begins_logical_line, joined, logical_lines_of}
use Rattle.relay_text.specs.LogicalLines.{lines_in}
use Rattle.relay_text.specs.declared.lines.Line.{Line}
use Rattle.relay_halves.specs.Halves.{AreUpTo, EndsWithLine, BeginsLine, BeginsLogicalLine, moved, kept_behind}
use Rattle.relay_halves.proofs.HalvedLines.{kept_lines-append, up_to-kept_lines}

-- ---- kept lines before the first logical line, and in the logical lines
abbrev before_lines : List Line → List Line
before_lines kept = (cut_before begins_logical_line kept).before

abbrev texts_of : List Line → List ℕ
texts_of ls = flat_map (λ (l : Line). l.text) ls

-- Lines that are cut before one that begins a logical line.
module _ (l : Line) (begins : begins_logical_line l ≡ true) where
  pub none_before : (ls : List Line) → before_lines (l ∷ ls) ≡ []
  none_before ls = rw (begins, before_lines) refl

  pub before-append : (xs ls : List Line) → before_lines (xs ++ l ∷ ls) ≡ before_lines xs
  before-append [] ls = none_before ls
  before-append (x ∷ xs) ls = at (begins_logical_line x) (before-append xs ls) where
    rest : List Line → Cut Line
    rest kept = cut_before begins_logical_line kept

    at : (t : Bool) → before_lines (xs ++ l ∷ ls) ≡ before_lines xs
        → (cond {A = Cut Line} t (record { before = []; pieces = (x ∷ (rest (xs ++ l ∷ ls)).before) ∷ (rest (xs ++ l ∷ ls)).pieces }) (record { before = x ∷ (rest (xs ++ l ∷ ls)).before; pieces = (rest (xs ++ l ∷ ls)).pieces })).before
        ≡ (cond {A = Cut Line} t (record { before = []; pieces = (x ∷ (rest xs).before) ∷ (rest xs).pieces }) (record { before = x ∷ (rest xs).before; pieces = (rest xs).pieces })).before
    at true later = refl
    at false later = ap (λ (lines : List Line). x ∷ lines) later

  pub lines-append : (xs ls : List Line) → lines_in (xs ++ l ∷ ls) ≡ lines_in xs ++ lines_in (l ∷ ls)
  lines-append [] ls = refl
  lines-append (x ∷ xs) ls = at (begins_logical_line x) (lines-append xs ls) (before-append xs ls) where
    rest : List Line → Cut Line
    rest kept = cut_before begins_logical_line kept

    line : List Line → Line
    line more = record { number = x.number; text = texts_of (x ∷ more) }

    at : (t : Bool) → lines_in (xs ++ l ∷ ls) ≡ lines_in xs ++ lines_in (l ∷ ls) → before_lines (xs ++ l ∷ ls) ≡ before_lines xs
        → flat_map joined (cond {A = Cut Line} t (record { before = []; pieces = (x ∷ (rest (xs ++ l ∷ ls)).before) ∷ (rest (xs ++ l ∷ ls)).pieces }) (record { before = x ∷ (rest (xs ++ l ∷ ls)).before; pieces = (rest (xs ++ l ∷ ls)).pieces })).pieces
        ≡ flat_map joined (cond {A = Cut Line} t (record { before = []; pieces = (x ∷ (rest xs).before) ∷ (rest xs).pieces }) (record { before = x ∷ (rest xs).before; pieces = (rest xs).pieces })).pieces ++ lines_in (l ∷ ls)
    at true later same = ap (λ more. line more ∷ lines_in (xs ++ l ∷ ls)) same ∙ ap (λ (lines : List Line). line (before_lines xs) ∷ lines) later
    at false later same = later

-- Where lines are numbered on, their logical lines are.
module _ (passed : ℕ) where
  texts-moved : (ls : List Line) → texts_of (map (moved passed) ls) ≡ texts_of ls
  texts-moved ls = flat_map-map (λ (l : Line). l.text) (moved passed) ls

  pub before-moved : (ls : List Line) → before_lines (map (moved passed) ls) ≡ map (moved passed) (before_lines ls)
  before-moved [] = refl
  before-moved (l ∷ ls) = at (begins_logical_line l) (before-moved ls) where
    rest : List Line → Cut Line
    rest kept = cut_before begins_logical_line kept

    at : (t : Bool) → before_lines (map (moved passed) ls) ≡ map (moved passed) (before_lines ls)
        → (cond {A = Cut Line} t (record { before = []; pieces = (moved passed l ∷ (rest (map (moved passed) ls)).before) ∷ (rest (map (moved passed) ls)).pieces }) (record { before = moved passed l ∷ (rest (map (moved passed) ls)).before; pieces = (rest (map (moved passed) ls)).pieces })).before
        ≡ map (moved passed) (cond {A = Cut Line} t (record { before = []; pieces = (l ∷ (rest ls).before) ∷ (rest ls).pieces }) (record { before = l ∷ (rest ls).before; pieces = (rest ls).pieces })).before
    at true later = refl
    at false later = ap (λ (lines : List Line). moved passed l ∷ lines) later

  pub lines-moved : (ls : List Line) → lines_in (map (moved passed) ls) ≡ map (moved passed) (lines_in ls)
  lines-moved [] = refl
  lines-moved (l ∷ ls) = at (begins_logical_line l) (lines-moved ls) (ap texts_of (before-moved ls) ∙ texts-moved (before_lines ls)) where
    rest : List Line → Cut Line
    rest kept = cut_before begins_logical_line kept

    line : List ℕ → Line
    line more = record { number = passed + l.number; text = l.text ++ more }

    at : (t : Bool) → lines_in (map (moved passed) ls) ≡ map (moved passed) (lines_in ls) → texts_of (before_lines (map (moved passed) ls)) ≡ texts_of (before_lines ls)
        → flat_map joined (cond {A = Cut Line} t (record { before = []; pieces = (moved passed l ∷ (rest (map (moved passed) ls)).before) ∷ (rest (map (moved passed) ls)).pieces }) (record { before = moved passed l ∷ (rest (map (moved passed) ls)).before; pieces = (rest (map (moved passed) ls)).pieces })).pieces
        ≡ map (moved passed) (flat_map joined (cond {A = Cut Line} t (record { before = []; pieces = (l ∷ (rest ls).before) ∷ (rest ls).pieces }) (record { before = l ∷ (rest ls).before; pieces = (rest ls).pieces })).pieces)
    at true later same = ap (λ more. line more ∷ lines_in (map (moved passed) ls)) same ∙ ap (λ (lines : List Line). line (texts_of (before_lines ls)) ∷ lines) later
    at false later same = later

-- ---- A text that begins with a line that is kept and continues no other.
pub record Begins (kept : List Line) : Type 0 where
  pub first : Line
  pub more : List Line
  pub kept_is : kept ≡ first ∷ more
  pub begins : begins_logical_line first ≡ true

abbrev is_kept : Line → Bool
is_kept l = not (is_ignored l.text)

not_equal : (a b : ℕ) → a ≢ b → eqb a b ≡ false
not_equal a b differ = elim (eqb_tells a b) [ inl same ↦ absurd (differ same.1) | inr other ↦ other.0 ]

-- the first line of such a text begins with its first byte
module _ (b : ℕ) (is : BeginsLine b) where
  without_cr-first : (bs : List ℕ) → (more : List ℕ) × (without_cr (b ∷ bs) ≡ b ∷ more)
  without_cr-first [] = ([], rw (not_equal b 13 is.no_return) refl)
  without_cr-first (c ∷ bs) = (without_cr (c ∷ bs), refl)

  text-first : (bs : List ℕ) → (more : List ℕ) × (line_text (b ∷ bs) ≡ b ∷ more)
  text-first bs =
      let feed : eqb b 10 ≡ false = not_equal b 10 is.no_feed in
      let past : 1 + position_or_len (λ c. eqb c 10) bs ≡ suc (position_or_len (λ c. eqb c 10) bs) = omega arith in
      let cut : before_first (λ c. eqb c 10) (b ∷ bs) ≡ b ∷ before_first (λ c. eqb c 10) bs = rw (feed, past) refl in
      let cleared = without_cr-first (before_first (λ c. eqb c 10) bs) in
      (cleared.0, ap without_cr cut ∙ cleared.1)

  raw-first : (bs : List ℕ) → (line : List ℕ) × (more : List (List ℕ)) × (raw_lines (b ∷ bs) ≡ (b ∷ line) ∷ more)
  raw-first bs = at (raw_lines bs) refl where
    feed : eqb b 10 ≡ false
    feed = not_equal b 10 is.no_feed

    at : (lines : List (List ℕ)) → raw_lines bs ≡ lines → (line : List ℕ) × (more : List (List ℕ)) × (raw_lines (b ∷ bs) ≡ (b ∷ line) ∷ more)
    at [] e = ([], [], rw (feed, e) refl)
    at (line ∷ more) e = (line, more, rw (feed, e) refl)

  kept-first : (number : ℕ) (more : List ℕ) → (is_kept (record { number = number; text = b ∷ more }) ≡ true) × (begins_logical_line (record { number = number; text = b ∷ more }) ≡ true)
  kept-first number more = (rw (is.no_white, not_equal b 35 is.no_comment) refl, rw is.no_white refl)

  pub kept-begins : (bs : List ℕ) → Begins (kept_lines (b ∷ bs))
  kept-begins bs =
      let raw = raw-first bs in
      let text = text-first raw.0 in
      let line : Line = record { number = 1; text = b ∷ text.0 } in
      let shown = kept-first 1 text.0 in
      let behind : List Line = filter is_kept (map (λ (p : ℕ × List ℕ). record { number = p.0; text = p.1 }) (enumerate_from 2 (map line_text raw.1))) in
      let physical : physical_lines (b ∷ bs) ≡ (b ∷ text.0) ∷ map line_text raw.1 = ap (map line_text) raw.2 ∙ ap (λ (t : List ℕ). t ∷ map line_text raw.1) text.1 in
      record {
        first = line;
        more = behind;
        kept_is = ap (λ texts. filter is_kept (map (λ (p : ℕ × List ℕ). record { number = p.0; text = p.1 }) (enumerate_from 1 texts))) physical ∙ ap (λ (t : Bool). cond t (line ∷ behind) behind) shown.0;
        begins = shown.1;
      }

kept_of : (text : List ℕ) → BeginsLogicalLine text → Begins (kept_lines text)
kept_of [] h = absurd h
kept_of (b ∷ bs) h = kept-begins b h bs

-- ---- the logical lines of both parts
module _ (front back : List ℕ) (ended : EndsWithLine front) (begun : BeginsLogicalLine back) where
  abbrev count : ℕ
  count = length (raw_lines front)

  pub no_orphans : (logical_lines_of back).orphans ≡ []
  unfolding logical_lines_of
  no_orphans =
      let b = kept_of back begun in
      ap (λ kept. map (λ (l : Line). l.number) (before_lines kept)) b.kept_is ∙ ap (map (λ (l : Line). l.number)) (none_before b.first b.begins b.more)

  behind_is : kept_behind count back ≡ moved count (kept_of back begun).first ∷ map (moved count) (kept_of back begun).more
  behind_is = ap (map (moved count)) (kept_of back begun).kept_is

  pub orphans-halved : (logical_lines_of (front ++ back)).orphans ≡ (logical_lines_of front).orphans
  unfolding logical_lines_of
  orphans-halved =
      let b = kept_of back begun in
      ap (λ kept. map (λ (l : Line). l.number) (before_lines kept)) (kept_lines-append front back ended ∙ ap (λ (lines : List Line). kept_lines front ++ lines) behind_is)
      ∙ ap (map (λ (l : Line). l.number)) (before-append (moved count b.first) b.begins (kept_lines front) (map (moved count) b.more))

  pub lines-halved : (logical_lines_of (front ++ back)).lines ≡ (logical_lines_of front).lines ++ map (moved count) (logical_lines_of back).lines
  unfolding logical_lines_of
  lines-halved =
      let b = kept_of back begun in
      ap lines_in (kept_lines-append front back ended ∙ ap (λ (lines : List Line). kept_lines front ++ lines) behind_is)
      ∙ lines-append (moved count b.first) b.begins (kept_lines front) (map (moved count) b.more)
      ∙ ap (λ (lines : List Line). lines_in (kept_lines front) ++ lines_in lines) (sym behind_is)
      ∙ ap (λ (lines : List Line). lines_in (kept_lines front) ++ lines) (lines-moved count (kept_lines back))

-- ---- No number is larger than the text is long.
up_to-cut : (most : ℕ) (ls : List Line) → AreUpTo most ls → AreUpTo most (before_lines ls) × AreUpTo most (lines_in ls)
up_to-cut most [] h = (tt, tt)
up_to-cut most (l ∷ ls) h = at (begins_logical_line l) (up_to-cut most ls h.1) where
  rest : Cut Line
  rest = cut_before begins_logical_line ls

  whole : Bool → Cut Line
  whole t = cond {A = Cut Line} t (record { before = []; pieces = (l ∷ rest.before) ∷ rest.pieces }) (record { before = l ∷ rest.before; pieces = rest.pieces })

  at : (t : Bool) → AreUpTo most (before_lines ls) × AreUpTo most (lines_in ls) → AreUpTo most (whole t).before × AreUpTo most (flat_map joined (whole t).pieces)
  at true later = (tt, (h.0, later.1))
  at false later = ((h.0, later.0), later.1)

all_up_to : (most : ℕ) (ls : List Line) → AreUpTo most ls → All (λ n. n ≤ most) (map (λ (l : Line). l.number) ls)
all_up_to most [] h = λ k d b. absurd (omega (arith, b))
all_up_to most (l ∷ ls) h = All-cons (λ n. n ≤ most) l.number (map (λ (l : Line). l.number) ls) h.0 (all_up_to most ls h.1)

pub up_to-logical_lines : (text : List ℕ) → AreUpTo (length text) (logical_lines_of text).lines
unfolding logical_lines_of
up_to-logical_lines text = (up_to-cut (length text) (kept_lines text) (up_to-kept_lines text)).1

pub up_to-orphans : (text : List ℕ) → All (λ n. n ≤ length text) (logical_lines_of text).orphans
unfolding logical_lines_of
up_to-orphans text = all_up_to (length text) (before_lines (kept_lines text)) (up_to-cut (length text) (kept_lines text) (up_to-kept_lines text)).0
