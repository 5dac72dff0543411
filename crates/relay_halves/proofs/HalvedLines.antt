-- The lines of a text that is cut behind a line, and their numbers.
use Rattle.std.proofs.Common.{◌≡◌, ℕ, ◌+◌, ◌-◌, ◌≤◌, Bool, true, false, not, cond, eqb, suc, List, [], ◌∷◌, ◌++◌, length, map, Some, refl, sym, ap, ◌∙◌, subst, arith}
use Rattle.std.specs.List.{filter, enumerate_from, onto_first, count_by}
use Rattle.std.proofs.lemmas.List.{map-append, length-map}
use Rattle.std.proofs.lemmas.List.Elements.{filter-append}
use Rattle.std.proofs.lemmas.List.Sums.{sum_by-cons}
use Rattle.std.specs.Prelude.{slice_get}
use Rattle.relay_text.specs.Lines.{raw_lines, physical_lines, line_text, numbered_lines, is_ignored, kept_lines}
use Rattle.relay_text.specs.declared.lines.Line.{Line}
use Rattle.relay_halves.specs.Halves.{EndsWithLine, AreUpTo, moved, kept_behind}

-- A text that ends with a line does so behind its first byte too.
ends_behind : (x y : ℕ) (more : List ℕ) → EndsWithLine (x ∷ y ∷ more) → EndsWithLine (y ∷ more)
ends_behind x y more h =
    let place : suc (suc (length more)) - 1 ≡ suc (suc (length more) - 1) = omega arith in
    subst (λ k. slice_get (x ∷ y ∷ more) k ≡ Some 10) place h

some_line : (b : ℕ) (bs : List ℕ) → raw_lines (b ∷ bs) ≡ [] → ⊥
some_line b bs = at (eqb b 10) (raw_lines bs) where
  at : (t : Bool) (lines : List (List ℕ)) → cond t ((b ∷ []) ∷ lines) (onto_first b lines) ≡ [] → ⊥
  at true lines h = cc
  at false [] h = cc
  at false (l ∷ lines) h = cc

pub onto_first-append : (b : ℕ) (lines more : List (List ℕ)) → (lines ≡ [] → ⊥) → onto_first b (lines ++ more) ≡ onto_first b lines ++ more
onto_first-append b [] more some = absurd (some refl)
onto_first-append b (l ∷ lines) more some = refl

pub raw_lines-append : (xs ys : List ℕ) → EndsWithLine xs → raw_lines (xs ++ ys) ≡ raw_lines xs ++ raw_lines ys
raw_lines-append [] ys h = refl
raw_lines-append (x ∷ []) ys h = let feed : x ≡ 10 = cc in rw feed refl
raw_lines-append (x ∷ y ∷ more) ys h = at (eqb x 10) (raw_lines-append (y ∷ more) ys (ends_behind x y more h)) where
  at : (t : Bool) → raw_lines (y ∷ more ++ ys) ≡ raw_lines (y ∷ more) ++ raw_lines ys
      → cond t ((x ∷ []) ∷ raw_lines (y ∷ more ++ ys)) (onto_first x (raw_lines (y ∷ more ++ ys))) ≡ cond t ((x ∷ []) ∷ raw_lines (y ∷ more)) (onto_first x (raw_lines (y ∷ more))) ++ raw_lines ys
  at true later = ap (λ (lines : List (List ℕ)). (x ∷ []) ∷ lines) later
  at false later = ap (onto_first x) later ∙ onto_first-append x (raw_lines (y ∷ more)) (raw_lines ys) (some_line y more)

-- Such a text has as many lines as LFs.
abbrev pub is_feed : ℕ → Bool
is_feed b = eqb b 10

length-onto_first : (b : ℕ) (lines : List (List ℕ)) → (lines ≡ [] → ⊥) → length (onto_first b lines) ≡ length lines
length-onto_first b [] some = absurd (some refl)
length-onto_first b (l ∷ lines) some = refl

pub lines_counted : (xs : List ℕ) → EndsWithLine xs → count_by is_feed xs ≡ length (raw_lines xs)
lines_counted [] h = refl
lines_counted (x ∷ []) h = let feed : x ≡ 10 = cc in rw feed refl
lines_counted (x ∷ y ∷ more) h = sum_by-cons (λ b. cond (is_feed b) 1 0) x (y ∷ more) ∙ at (eqb x 10) (lines_counted (y ∷ more) (ends_behind x y more h)) where
  at : (t : Bool) → count_by is_feed (y ∷ more) ≡ length (raw_lines (y ∷ more))
      → cond t 1 0 + count_by is_feed (y ∷ more) ≡ length (cond t ((x ∷ []) ∷ raw_lines (y ∷ more)) (onto_first x (raw_lines (y ∷ more))))
  at true later = omega (arith, later)
  at false later = omega (arith, later, length-onto_first x (raw_lines (y ∷ more)) (some_line y more))

-- ---- numbers
abbrev numbered : ℕ → List (List ℕ) → List Line
numbered first texts = map (λ (p : ℕ × List ℕ). record { number = p.0; text = p.1 }) (enumerate_from first texts)

numbered-moved : (passed first other : ℕ) (texts : List (List ℕ)) → passed + first ≡ other → numbered other texts ≡ map (moved passed) (numbered first texts)
numbered-moved passed first other [] e = refl
numbered-moved passed first other (text ∷ texts) e =
    let more = numbered-moved passed (first + 1) (other + 1) texts (omega (arith, e)) in
    ap (λ n. record { number = n; text = text } ∷ numbered (other + 1) texts) (sym e) ∙ ap (λ (lines : List Line). moved passed (record { number = first; text = text }) ∷ lines) more

numbered-append : (first behind : ℕ) (xs ys : List (List ℕ)) → first + length xs ≡ behind → numbered first (xs ++ ys) ≡ numbered first xs ++ numbered behind ys
numbered-append first behind [] ys e = let same : first ≡ behind = omega (arith, e) in rw same refl
numbered-append first behind (x ∷ xs) ys e = ap (λ (lines : List Line). record { number = first; text = x } ∷ lines) (numbered-append (first + 1) behind xs ys (omega (arith, e)))

-- whether a line is kept depends on its text alone
abbrev is_kept : Line → Bool
is_kept l = not (is_ignored l.text)

kept-moved : (passed : ℕ) (lines : List Line) → filter is_kept (map (moved passed) lines) ≡ map (moved passed) (filter is_kept lines)
kept-moved passed [] = refl
kept-moved passed (l ∷ ls) = at (is_kept l) (kept-moved passed ls) where
  at : (t : Bool) → filter is_kept (map (moved passed) ls) ≡ map (moved passed) (filter is_kept ls)
      → cond t (moved passed l ∷ filter is_kept (map (moved passed) ls)) (filter is_kept (map (moved passed) ls)) ≡ map (moved passed) (cond t (l ∷ filter is_kept ls) (filter is_kept ls))
  at true later = ap (λ (lines : List Line). moved passed l ∷ lines) later
  at false later = later

pub moved_twice : (a b c : ℕ) (lines : List Line) → a + b ≡ c → map (moved a) (map (moved b) lines) ≡ map (moved c) lines
moved_twice a b c [] e = refl
moved_twice a b c (l ∷ ls) e =
    let same : a + (b + l.number) ≡ c + l.number = omega (arith, e) in
    ap (λ n. record { number = n; text = l.text } ∷ map (moved a) (map (moved b) ls)) same ∙ ap (λ (lines : List Line). moved c l ∷ lines) (moved_twice a b c ls e)

pub moved_nowhere : (lines : List Line) → map (moved 0) lines ≡ lines
moved_nowhere [] = refl
moved_nowhere (l ∷ ls) =
    let same : 0 + l.number ≡ l.number = omega arith in
    ap (λ n. record { number = n; text = l.text } ∷ map (moved 0) ls) same ∙ ap (λ (lines : List Line). l ∷ lines) (moved_nowhere ls)

-- The kept lines of both parts, those of the second behind all lines of the first.
pub kept_lines-append : (xs ys : List ℕ) → EndsWithLine xs → kept_lines (xs ++ ys) ≡ kept_lines xs ++ kept_behind (length (raw_lines xs)) ys
kept_lines-append xs ys h =
    let count : ℕ = length (raw_lines xs) in
    let lines : physical_lines (xs ++ ys) ≡ physical_lines xs ++ physical_lines ys = ap (map line_text) (raw_lines-append xs ys h) ∙ map-append line_text (raw_lines xs) (raw_lines ys) in
    let long : 1 + length (physical_lines xs) ≡ count + 1 = omega (arith, length-map (raw_lines xs) line_text) in
    ap (λ texts. filter is_kept (numbered 1 texts)) lines
    ∙ ap (filter is_kept) (numbered-append 1 (count + 1) (physical_lines xs) (physical_lines ys) long)
    ∙ filter-append is_kept (numbered_lines xs) (numbered (count + 1) (physical_lines ys))
    ∙ ap (λ (lines : List Line). kept_lines xs ++ filter is_kept lines) (numbered-moved count 1 (count + 1) (physical_lines ys) refl)
    ∙ ap (λ (lines : List Line). kept_lines xs ++ lines) (kept-moved count (numbered_lines ys))

pub kept_behind-append : (passed behind : ℕ) (xs ys : List ℕ) → EndsWithLine xs → passed + length (raw_lines xs) ≡ behind → kept_behind passed (xs ++ ys) ≡ kept_behind passed xs ++ kept_behind behind ys
kept_behind-append passed behind xs ys h e =
    ap (map (moved passed)) (kept_lines-append xs ys h)
    ∙ map-append (moved passed) (kept_lines xs) (kept_behind (length (raw_lines xs)) ys)
    ∙ ap (λ (lines : List Line). kept_behind passed xs ++ lines) (moved_twice passed (length (raw_lines xs)) behind (kept_lines ys) e)

-- ---- No number of a line is larger than its text is long.
pub up_to-more : (least most : ℕ) (lines : List Line) → least ≤ most → AreUpTo least lines → AreUpTo most lines
up_to-more least most [] h up_to = tt
up_to-more least most (l ∷ ls) h up_to = (omega (arith, h, up_to.0), up_to-more least most ls h up_to.1)

up_to-numbered : (first most : ℕ) (texts : List (List ℕ)) → first + length texts ≤ most + 1 → AreUpTo most (numbered first texts)
up_to-numbered first most [] h = tt
up_to-numbered first most (text ∷ texts) h = (omega (arith, h), up_to-numbered (first + 1) most texts (omega (arith, h)))

up_to-kept : (most : ℕ) (lines : List Line) → AreUpTo most lines → AreUpTo most (filter is_kept lines)
up_to-kept most [] h = tt
up_to-kept most (l ∷ ls) h = at (is_kept l) (up_to-kept most ls h.1) where
  at : (t : Bool) → AreUpTo most (filter is_kept ls) → AreUpTo most (cond t (l ∷ filter is_kept ls) (filter is_kept ls))
  at true later = (h.0, later)
  at false later = later

length-raw_lines : (text : List ℕ) → length (raw_lines text) ≤ length text
length-raw_lines [] = omega arith
length-raw_lines (b ∷ bs) = at (eqb b 10) (length-raw_lines bs) where
  one_more : (texts : List (List ℕ)) → length (onto_first b texts) ≤ suc (length texts)
  one_more [] = omega arith
  one_more (text ∷ texts) = omega arith

  at : (t : Bool) → length (raw_lines bs) ≤ length bs → length (cond t ((b ∷ []) ∷ raw_lines bs) (onto_first b (raw_lines bs))) ≤ suc (length bs)
  at true h = omega (arith, h)
  at false h = omega (arith, h, one_more (raw_lines bs))

pub up_to-kept_lines : (text : List ℕ) → AreUpTo (length text) (kept_lines text)
up_to-kept_lines text = up_to-kept (length text) (numbered_lines text) (up_to-numbered 1 (length text) (physical_lines text) (omega (arith, length-map (raw_lines text) line_text, length-raw_lines text)))
