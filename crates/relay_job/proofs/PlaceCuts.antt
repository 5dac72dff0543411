-- The lines of a text that is cut where one begins.
use Rattle.std.proofs.Common.{◌≡◌, ◌<◌, ◌+◌, ◌-◌, ◌&&◌, ◌||◌, ℕ, zero, suc, Bool, true, false, cond, eqb, codes, List, [], ◌∷◌, ◌++◌, length, take, drop, Some, refl, sym, ap, ◌∙◌, arith}
use Rattle.std.specs.List.{list_any, onto_first}
use Rattle.std.proofs.lemmas.Bool.{eqb-true, and_parts}
use Rattle.std.proofs.lemmas.List.{append-nil, length-take, length-drop, take-append-drop}
use Rattle.bstr.specs.Find.{IsFirstByte, is_byte}
use Rattle.relay_text.specs.Bytes.{begins_with}
use Rattle.relay_text.specs.Lines.{Cut, raw_lines}
use Rattle.relay_job.specs.declared.place.Place.{Place}
use Rattle.relay_job.specs.JobText.{JobLine, is_heading}
use Rattle.relay_job.specs.Places.{numbered_from, lines_at, content_at, IsWithinSection}
use Rattle.relay_job.specs.PercentLines.{percent_place}
use Rattle.relay_job.specs.Envelopes.{EndsWithLine}
use Rattle.relay_job.proofs.LineFeeds.{feeds}
use Rattle.relay_job.proofs.SectionFacts.{content_before}
use Rattle.relay_job.proofs.PercentLineFacts.{one, feeds-cons, no_heading, searched_from, section_nothing, IsCut}
use Rattle.relay_job.proofs.JoinedLines.{some_line, raw_lines-append, numbered_from-append, neither-any, cut_before-plain}

-- ---- where a line ends
longer : (b : ℕ) (bs : List ℕ) → 0 < length bs → EndsWithLine bs → EndsWithLine (b ∷ bs)
longer b [] some h = absurd (omega (arith, some))
longer b (c ∷ bs) some h = h

feed_ends : (bs : List ℕ) (n : ℕ) → IsFirstByte (is_byte 10) bs (Some n) → EndsWithLine (take (suc n) bs)
feed_ends [] n h = absurd (omega (arith, h.0.high))
feed_ends (b ∷ bs) zero h = eqb-true b 10 h.1
feed_ends (b ∷ []) (suc n) h = absurd (omega (arith, h.0.high))
feed_ends (b ∷ c ∷ bs) (suc n) h = feed_ends (c ∷ bs) n (record { low = omega arith; high = omega (arith, h.0.high); before = λ k low high p. h.0.before (suc k) (omega arith) (omega (arith, high)) p }, h.1)

ends_behind : (place : ℕ) (bs : List ℕ) (n end : ℕ) → end ≡ place + n + 1 → IsFirstByte (is_byte 10) (drop place bs) (Some n) → EndsWithLine (take end bs)
ends_behind zero bs n end e h = let is : end ≡ suc n = omega (arith, e) in rw is (feed_ends bs n h)
ends_behind (suc place) [] n end e h = absurd (omega (arith, h.0.high))
ends_behind (suc place) (b ∷ bs) n end e h =
    let is : end ≡ suc (place + n + 1) = omega (arith, e) in
    let some : 0 < length (take (place + n + 1) bs) = omega (arith, length-take (place + n + 1) bs, h.0.high, length-drop place bs) in
    rw is (longer b (take (place + n + 1) bs) some (ends_behind place bs n (place + n + 1) refl h))

-- The line behind a place begins behind a line's end.
pub next_line_ends : (bytes : List ℕ) (place len : ℕ) → IsFirstByte (is_byte 10) (take (length bytes - place) (drop place bytes)) (Some len) → EndsWithLine (take (place + len + 1) bytes)
next_line_ends bytes place len h = ends_behind place bytes len (place + len + 1) refl (searched_from bytes place (Some len) h)

-- So does a line that begins with `%`: here behind a byte that is an LF where a line begins behind it.
percent_ends : (x : ℕ) (bs : List ℕ) → percent_place (eqb x 10) bs < length bs → EndsWithLine (x ∷ take (percent_place (eqb x 10) bs) bs)
percent_ends x [] h = absurd (omega (arith, h))
percent_ends x (b ∷ bs) h = at (eqb x 10) (eqb b 37) refl h (percent_ends b bs) where
  at : (t u : Bool) → eqb x 10 ≡ t → cond (t && u) 0 (suc (percent_place (eqb b 10) bs)) < suc (length bs)
      → (percent_place (eqb b 10) bs < length bs → EndsWithLine (b ∷ take (percent_place (eqb b 10) bs) bs))
      → EndsWithLine (x ∷ take (cond (t && u) 0 (suc (percent_place (eqb b 10) bs))) (b ∷ bs))
  at true true e g later = eqb-true x 10 e
  at true false e g later = later (omega (arith, g))
  at false u e g later = later (omega (arith, g))

pub percent_line_ends : (bs : List ℕ) (place : ℕ) → place ≡ percent_place true bs → place < length bs → EndsWithLine (take place bs)
percent_line_ends bs place e h = rw e (at (take (percent_place true bs) bs) (percent_ends 10 bs (rw e at h))) where
  at : (front : List ℕ) → EndsWithLine (10 ∷ front) → EndsWithLine front
  at [] g = tt
  at (b ∷ front) g = g

-- ---- the lines of both parts
counted_first : (x : ℕ) (t : Bool) (lines : List (List ℕ)) (n : ℕ) → (lines ≡ [] → ⊥) → length lines ≡ n → length (cond t ((x ∷ []) ∷ lines) (onto_first x lines)) ≡ one t + n
counted_first x true lines n some e = omega (arith, e)
counted_first x false [] n some e = absurd (some refl)
counted_first x false (l ∷ lines) n some e = omega (arith, e)

lines_counted : (xs : List ℕ) → EndsWithLine xs → length (raw_lines xs) ≡ feeds xs
lines_counted [] h = refl
lines_counted (x ∷ []) h = rw h (sym (feeds-cons 10 []))
lines_counted (x ∷ y ∷ more) h = counted_first x (eqb x 10) (raw_lines (y ∷ more)) (feeds (y ∷ more)) (some_line y more) (lines_counted (y ∷ more) h) ∙ sym (feeds-cons x (y ∷ more))

-- The lines are those of both parts, the second's behind so many as the first has LFs.
pub lines_cut : (line behind place : ℕ) (bytes front rest : List ℕ) → front ≡ take place bytes → rest ≡ drop place bytes → (place < length bytes → EndsWithLine (take place bytes)) → behind ≡ line + feeds front
    → numbered_from (line + 1) (raw_lines bytes) ≡ numbered_from (line + 1) (raw_lines front) ++ numbered_from (behind + 1) (raw_lines rest)
lines_cut line behind place bytes front rest e f ends counted = whole ∙ at rest f where
  whole : numbered_from (line + 1) (raw_lines bytes) ≡ numbered_from (line + 1) (raw_lines (front ++ rest))
  whole = ap (λ (bs : List ℕ). numbered_from (line + 1) (raw_lines bs)) (sym (take-append-drop place bytes) ∙ ap (λ (bs : List ℕ). bs ++ drop place bytes) (sym e) ∙ ap (λ (bs : List ℕ). front ++ bs) (sym f))

  at : (bs : List ℕ) → bs ≡ drop place bytes → numbered_from (line + 1) (raw_lines (front ++ bs)) ≡ numbered_from (line + 1) (raw_lines front) ++ numbered_from (behind + 1) (raw_lines bs)
  at [] g = ap (λ (bs : List ℕ). numbered_from (line + 1) (raw_lines bs)) (append-nil front) ∙ sym (append-nil (numbered_from (line + 1) (raw_lines front)))
  at (b ∷ bs) g =
      let inside : place < length bytes = omega (arith, ap length g, length-drop place bytes) in
      let ended : EndsWithLine front = rw e (ends inside) in
      let many : line + 1 + length (raw_lines front) ≡ behind + 1 = omega (arith, counted, lines_counted front ended) in
      ap (numbered_from (line + 1)) (raw_lines-append front (b ∷ bs) ended) ∙ numbered_from-append (line + 1) (behind + 1) (raw_lines front) (raw_lines (b ∷ bs)) many

-- ---- lines without a heading
-- Before the first line that begins with `%` no line is a heading.
abbrev HasPlainLines : ℕ → List (List ℕ) → Type 0
HasPlainLines number raws = list_any is_heading (numbered_from number raws) ≡ false

plain_first : (number b : ℕ) (raw : List ℕ) (raws : List (List ℕ)) → eqb b 37 ≡ false → HasPlainLines (number + 1) raws → HasPlainLines number ((b ∷ raw) ∷ raws)
plain_first number b raw raws other h = ap (λ t. t || list_any is_heading (numbered_from (number + 1) raws)) (no_heading number b raw other) ∙ h

plain_front : (starts : Bool) (number : ℕ) (bs : List ℕ) → HasPlainLines number (cond starts (raw_lines (take (percent_place starts bs) bs)) (drop 1 (raw_lines (take (percent_place starts bs) bs))))
plain_front true number [] = refl
plain_front false number [] = refl
plain_front true number (b ∷ bs) = at (eqb b 37) refl (plain_front true (number + 1) bs) (plain_front false (number + 1) bs) where
  lines : (ls : List (List ℕ)) → eqb b 37 ≡ false → HasPlainLines (number + 1) (drop 1 ls) → HasPlainLines number (onto_first b ls)
  lines [] other later = plain_first number b [] [] other later
  lines (l ∷ ls) other later = plain_first number b l ls other later

  behind : eqb b 37 ≡ false → (u : Bool) → HasPlainLines (number + 1) (raw_lines (take (percent_place true bs) bs)) → HasPlainLines (number + 1) (drop 1 (raw_lines (take (percent_place false bs) bs)))
      → HasPlainLines number (cond u ((b ∷ []) ∷ raw_lines (take (percent_place u bs) bs)) (onto_first b (raw_lines (take (percent_place u bs) bs))))
  behind other true whole part = plain_first number b [] (raw_lines (take (percent_place true bs) bs)) other whole
  behind other false whole part = lines (raw_lines (take (percent_place false bs) bs)) other part

  at : (t : Bool) → eqb b 37 ≡ t → HasPlainLines (number + 1) (raw_lines (take (percent_place true bs) bs)) → HasPlainLines (number + 1) (drop 1 (raw_lines (take (percent_place false bs) bs)))
      → HasPlainLines number (raw_lines (take (cond t 0 (suc (percent_place (eqb b 10) bs))) (b ∷ bs)))
  at true e whole part = refl
  at false e whole part = behind e (eqb b 10) whole part
plain_front false number (b ∷ bs) = at (eqb b 10) (plain_front true number bs) (plain_front false number bs) where
  lines : (ls : List (List ℕ)) → HasPlainLines number (drop 1 ls) → HasPlainLines number (drop 1 (onto_first b ls))
  lines [] later = later
  lines (l ∷ ls) later = later

  at : (u : Bool) → HasPlainLines number (raw_lines (take (percent_place true bs) bs)) → HasPlainLines number (drop 1 (raw_lines (take (percent_place false bs) bs)))
      → HasPlainLines number (drop 1 (cond u ((b ∷ []) ∷ raw_lines (take (percent_place u bs) bs)) (onto_first b (raw_lines (take (percent_place u bs) bs)))))
  at true whole part = whole
  at false whole part = lines (raw_lines (take (percent_place false bs) bs)) part

-- A section goes on behind lines of which none is a heading.
pub content_within : (section : Place) → IsWithinSection section → content_at section ≡ lines_at section
content_within section h = ap (λ (c : Cut JobLine). c.before) (cut_before-plain (lines_at section) h)

goes_on : (xs ys : List JobLine) → list_any is_heading xs ≡ false → content_before (xs ++ ys) ≡ xs ++ content_before ys
goes_on [] ys h = refl
goes_on (x ∷ xs) ys h =
    let p = neither-any (is_heading x) (list_any is_heading xs) h in
    rw (p.0, content_before) (ap (λ (lines : List JobLine). x ∷ lines) (goes_on xs ys p.1))

-- It ends at the first line that begins with `%`, unless that one begins with `%%`.
nothing_behind : (starts : Bool) (number : ℕ) (bs : List ℕ) → begins_with (codes "%%") (drop (percent_place starts bs) bs) ≡ false → content_before (numbered_from number (raw_lines (drop (percent_place starts bs) bs))) ≡ []
nothing_behind true number [] h = refl
nothing_behind false number [] h = refl
nothing_behind starts number (b ∷ bs) h = at (starts && eqb b 37) refl h (nothing_behind (eqb b 10) number bs) where
  at : (t : Bool) → (starts && eqb b 37) ≡ t → begins_with (codes "%%") (drop (cond t 0 (suc (percent_place (eqb b 10) bs))) (b ∷ bs)) ≡ false
      → (begins_with (codes "%%") (drop (percent_place (eqb b 10) bs) bs) ≡ false → content_before (numbered_from number (raw_lines (drop (percent_place (eqb b 10) bs) bs))) ≡ [])
      → content_before (numbered_from number (raw_lines (drop (cond t 0 (suc (percent_place (eqb b 10) bs))) (b ∷ bs)))) ≡ []
  at true e g later = let is : b ≡ 37 = eqb-true b 37 (and_parts starts (eqb b 37) e).1 in rw is (section_nothing number bs (rw is at g))
  at false e g later = later g

module _ (line : ℕ) (bytes : List ℕ) (place : ℕ) (front rest : List ℕ) (cut : IsCut bytes place front rest) where
  pub plain_within : list_any is_heading (numbered_from (line + 1) (raw_lines front)) ≡ false
  plain_within = rw (cut.is_front, cut.len) (plain_front true (line + 1) bytes)

  pub plain_content : begins_with (codes "%%") rest ≡ false → content_before (numbered_from (line + 1) (raw_lines front)) ≡ content_before (numbered_from (line + 1) (raw_lines bytes))
  plain_content h =
      let behind : ℕ = line + feeds front in
      let lines : List JobLine = numbered_from (line + 1) (raw_lines front) in
      let later : List JobLine = numbered_from (behind + 1) (raw_lines rest) in
      let none : content_before later ≡ [] = rw (cut.is_rest, cut.len) (nothing_behind true (behind + 1) bytes (rw (cut.is_rest, cut.len) at h)) in
      sym (
      ap content_before (lines_cut line behind place bytes front rest cut.is_front cut.is_rest (percent_line_ends bytes place cut.len) refl)
      ∙ goes_on lines later plain_within
      ∙ ap (λ (l : List JobLine). lines ++ l) none
      ∙ append-nil lines
      ∙ sym (ap (λ (c : Cut JobLine). c.before) (cut_before-plain lines plain_within))
      )
