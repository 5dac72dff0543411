-- The lines of a text before the first that begins with `%`.
use Rattle.std.proofs.Common.{◌≡◌, ◌<◌, ◌≤◌, ◌+◌, ◌-◌, ℕ, zero, suc, Bool, true, false, not, cond, codes, eqb, ◌||◌, ◌&&◌, List, [], ◌∷◌, ◌++◌, length, take, drop, get_or, Option, Some, None, refl, sym, ap, ◌∙◌, arith}
use Rattle.std.specs.List.{onto_first, position_or_len, list_all, flat_map}
use Rattle.std.proofs.lemmas.Bool.{eqb-true, eq-eqb, ne_eqb, true≢false}
use Rattle.std.proofs.lemmas.List.{length-drop, drop-drop, drop_all, take_all}
use Rattle.std.proofs.lemmas.List.Sums.{sum_by-cons}
use Rattle.bstr.specs.Find.{IsFirstByte, is_byte}
use Rattle.relay_text.specs.Bytes.{is_white, begins_with}
use Rattle.relay_text.specs.Lines.{Cut, cut_before, raw_lines, line_text, without_cr}
use Rattle.relay_job.specs.JobText.{JobLine, is_heading, text_of, content_of}
use Rattle.relay_job.specs.declared.parts.Parts.{Parts}
use Rattle.relay_job.specs.Places.{numbered_from}
use Rattle.relay_job.specs.PercentLines.{begins_line, percent_place, from_percent_line}
use Rattle.relay_job.proofs.LineFeeds.{feeds}
use Rattle.relay_job.proofs.SectionFacts.{content_before, Scanned, Scanned-other}

-- whether a byte stands at a line's start, in a text that stands at one or not
abbrev starts_at : Bool → List ℕ → ℕ → Bool
starts_at starts text zero = starts
starts_at starts text (suc n) = eqb (get_or text n 0) 10

-- Up to the first `%`, no line begins with it.
passed : (starts : Bool) (bs : List ℕ) (n : ℕ) → IsFirstByte (is_byte 37) bs (Some n) → percent_place starts bs ≡ cond (starts_at starts bs n) n (n + percent_place false (drop n bs))
passed starts [] n h = absurd (omega (arith, h.0.high))
passed starts (b ∷ bs) zero h = let is : b ≡ 37 = eqb-true b 37 h.1 in rw is (at starts) where
  at : (t : Bool) → cond (t && true) 0 (suc (percent_place false bs)) ≡ cond t 0 (0 + suc (percent_place false bs))
  at true = refl
  at false = omega arith
passed starts (b ∷ bs) (suc n) h =
    let other : eqb b 37 ≡ false = ne_eqb b 37 (λ e. h.0.before 0 (omega arith) (omega arith) (eq-eqb b 37 e)) in
    let later : IsFirstByte (is_byte 37) bs (Some n) = (record { low = omega arith; high = omega (arith, h.0.high); before = λ k low high p. h.0.before (suc k) (omega arith) (omega (arith, high)) p }, h.1) in
    rw other (here starts n (passed (eqb b 10) bs n later)) where
      and_false : (t : Bool) → (t && false) ≡ false
      and_false true = refl
      and_false false = refl

      at : (t : Bool) (n rest : ℕ) → percent_place (eqb b 10) bs ≡ cond t n (n + rest) → suc (percent_place (eqb b 10) bs) ≡ cond t (suc n) (suc n + rest)
      at true n rest e = ap suc e
      at false n rest e = omega (arith, e)

      begun : (n : ℕ) → starts_at (eqb b 10) bs n ≡ eqb (get_or (b ∷ bs) n 0) 10
      begun zero = refl
      begun (suc n) = refl

      here : (t : Bool) (n : ℕ) → percent_place (eqb b 10) bs ≡ cond (starts_at (eqb b 10) bs n) n (n + percent_place false (drop n bs))
          → cond (t && false) 0 (suc (percent_place (eqb b 10) bs)) ≡ cond (eqb (get_or (b ∷ bs) n 0) 10) (suc n) (suc n + percent_place false (drop n bs))
      here t n e = rw (and_false t) (at (eqb (get_or (b ∷ bs) n 0) 10) n (percent_place false (drop n bs)) (e ∙ ap (λ u. cond u n (n + percent_place false (drop n bs))) (begun n)))

-- Inside a line, no line begins up to the next LF.
line_passed : (bs : List ℕ) (n : ℕ) → IsFirstByte (is_byte 10) bs (Some n) → percent_place false bs ≡ suc n + percent_place true (drop (suc n) bs)
line_passed [] n h = absurd (omega (arith, h.0.high))
line_passed (b ∷ bs) zero h = let is : b ≡ 10 = eqb-true b 10 h.1 in rw is (omega arith)
line_passed (b ∷ bs) (suc n) h =
    let other : eqb b 10 ≡ false = ne_eqb b 10 (λ e. h.0.before 0 (omega arith) (omega arith) (eq-eqb b 10 e)) in
    let later : IsFirstByte (is_byte 10) bs (Some n) = (record { low = omega arith; high = omega (arith, h.0.high); before = λ k low high p. h.0.before (suc k) (omega arith) (omega (arith, high)) p }, h.1) in
    rw other (omega (arith, line_passed bs n later))

last_line : (bs : List ℕ) → IsFirstByte (is_byte 10) bs None → percent_place false bs ≡ length bs
last_line [] h = refl
last_line (b ∷ bs) h =
    let other : eqb b 10 ≡ false = ne_eqb b 10 (λ e. h 0 (omega arith) (omega arith) (eq-eqb b 10 e)) in
    rw other (ap suc (last_line bs (λ k low high p. h (suc k) (omega arith) (omega (arith, high)) p)))

-- Where there is no `%`, no line begins with it.
all_passed : (starts : Bool) (bs : List ℕ) → IsFirstByte (is_byte 37) bs None → percent_place starts bs ≡ length bs
all_passed starts [] h = refl
all_passed starts (b ∷ bs) h =
    let other : eqb b 37 ≡ false = ne_eqb b 37 (λ e. h 0 (omega arith) (omega arith) (eq-eqb b 37 e)) in
    rw other (at starts (all_passed (eqb b 10) bs (λ k low high p. h (suc k) (omega arith) (omega (arith, high)) p))) where
      at : (t : Bool) → percent_place (eqb b 10) bs ≡ length bs → cond (t && false) 0 (suc (percent_place (eqb b 10) bs)) ≡ suc (length bs)
      at true e = ap suc e
      at false e = ap suc e

-- what a search from a place on looks through
pub searched_from : (bytes : List ℕ) (from : ℕ) (found : Option ℕ) → IsFirstByte (is_byte 10) (take (length bytes - from) (drop from bytes)) found → IsFirstByte (is_byte 10) (drop from bytes) found
searched_from bytes from found h = rw (take_all (length bytes - from) (drop from bytes) (omega (arith, length-drop from bytes))) at h

module _ (bytes : List ℕ) (place : ℕ) where
  pub next_line : (len : ℕ) → IsFirstByte (is_byte 10) (take (length bytes - place) (drop place bytes)) (Some len) → place + percent_place false (drop place bytes) ≡ place + len + 1 + percent_place true (drop (place + len + 1) bytes)
  next_line len h =
      let behind : drop (suc len) (drop place bytes) ≡ drop (place + len + 1) bytes = drop-drop (suc len) place bytes ∙ ap (λ k. drop k bytes) (omega arith) in
      let here = line_passed (drop place bytes) len (searched_from bytes place (Some len) h) in
      omega (arith, here, ap (percent_place true) behind)

  pub no_next_line : place < length bytes → IsFirstByte (is_byte 10) (take (length bytes - place) (drop place bytes)) None → place + percent_place false (drop place bytes) ≡ length bytes + percent_place true (drop (length bytes) bytes)
  no_next_line inside h =
      let here = last_line (drop place bytes) (searched_from bytes place None h) in
      let none : percent_place true (drop (length bytes) bytes) ≡ 0 = ap (percent_place true) (drop_all (length bytes) bytes (omega arith)) in
      omega (arith, here, none, inside, length-drop place bytes)

-- What a search for `%` has passed: no line before the rest begins with it.
pub record IsSearched (bytes rest : List ℕ) : Type 0 where
  pub within : length rest ≤ length bytes
  pub len : percent_place true bytes ≡ length bytes - length rest + percent_place true rest

pub IsSearched-start : (bytes : List ℕ) → IsSearched bytes bytes
IsSearched-start bytes = record { within = omega arith; len = omega arith }

begins : (rest : List ℕ) (n : ℕ) → starts_at true rest n ≡ begins_line rest n
begins rest zero = refl
begins rest (suc n) = sym (ap (λ t. t || eqb (get_or rest (suc n - 1) 0) 10) (ne_eqb (suc n) 0 (λ e. omega (arith, e))) ∙ ap (λ k. eqb (get_or rest k 0) 10) (omega arith))

module _ (bytes rest : List ℕ) (n : ℕ) (s : IsSearched bytes rest) (h : IsFirstByte (is_byte 37) rest (Some n)) where
  chosen : percent_place true rest ≡ cond (begins_line rest n) n (n + percent_place false (drop n rest))
  chosen = passed true rest n h ∙ ap (λ t. cond t n (n + percent_place false (drop n rest))) (begins rest n)

  pub percent_line_here : begins_line rest n ≡ true → length bytes - length rest + n ≡ percent_place true bytes
  percent_line_here e = let here : percent_place true rest ≡ n = rw e at chosen in omega (arith, here, s.len)

  pub IsSearched-on : (next : ℕ) (behind : List ℕ) → begins_line rest n ≡ false → n + percent_place false (drop n rest) ≡ next + percent_place true (drop next rest) → next ≤ length rest → behind ≡ drop next rest → IsSearched bytes behind
  IsSearched-on next behind e f within is =
      let here : percent_place true rest ≡ n + percent_place false (drop n rest) = rw e at chosen in
      let long : length behind ≡ length rest - next = ap length is ∙ length-drop next rest in
      record {
        within = omega (arith, long, s.within);
        len = omega (arith, s.len, here, f, long, within, s.within, ap (percent_place true) is);
      }

pub no_percent_line : (bytes rest : List ℕ) → IsSearched bytes rest → IsFirstByte (is_byte 37) rest None → length bytes ≡ percent_place true bytes
no_percent_line bytes rest s h = omega (arith, s.len, s.within, all_passed true rest h)

-- A line whose first byte isn't `%` is no heading and doesn't begin with `%%`.
module _ (number b : ℕ) (raw : List ℕ) (other : eqb b 37 ≡ false) where
  feed_or : (t : Bool) → eqb b 10 ≡ t → begins_with (codes "%") (line_text (b ∷ raw)) ≡ false
  feed_or true e = let is : b ≡ 10 = eqb-true b 10 e in rw is refl
  feed_or false e = at raw where
    at : (raw : List ℕ) → begins_with (codes "%") (line_text (b ∷ raw)) ≡ false
    at raw = grind arith

  pub no_heading : is_heading (record { number = number; raw = b ∷ raw }) ≡ false
  no_heading = ap (λ t. t && not (begins_with (codes "%%") (line_text (b ∷ raw)))) (feed_or (eqb b 10) refl)

  itself : content_of (b ∷ raw) ≡ b ∷ raw
  itself = grind arith

  other_line : begins_with (codes "%") (b ∷ raw) ≡ false
  other_line = grind arith

-- what lines stand for
abbrev pub content_bytes : List JobLine → List ℕ
content_bytes lines = flat_map (λ l. content_of l.raw) lines

-- the first of some lines
abbrev pub first_raw : List (List ℕ) → List ℕ
first_raw [] = []
first_raw (l ∷ ls) = l

-- what the lines of a section stand for
abbrev pub section_at : ℕ → List (List ℕ) → List ℕ
section_at number raws = content_bytes (content_before (numbered_from number raws))

-- One line more of a section.
section_line : (number b : ℕ) (raw : List ℕ) (raws : List (List ℕ)) → eqb b 37 ≡ false → section_at number ((b ∷ raw) ∷ raws) ≡ b ∷ (raw ++ section_at (number + 1) raws)
section_line number b raw raws other = at (is_heading (record { number = number; raw = b ∷ raw })) (no_heading number b raw other) where
  x : JobLine
  x = record { number = number; raw = b ∷ raw }

  xs : List JobLine
  xs = numbered_from (number + 1) raws

  at : (t : Bool) → t ≡ false → content_bytes (cond {A = Cut JobLine} t (record { before = []; pieces = (x ∷ content_before xs) ∷ (cut_before is_heading xs).pieces }) (record { before = x ∷ content_before xs; pieces = (cut_before is_heading xs).pieces })).before ≡ b ∷ (raw ++ content_bytes (content_before xs))
  at true e = absurd (true≢false e)
  at false e = ap (λ l. l ++ content_bytes (content_before xs)) (itself number b raw other)

-- A heading ends a section.
section_end : (number : ℕ) (raw : List ℕ) (raws : List (List ℕ)) → is_heading (record { number = number; raw = raw }) ≡ true → content_before (numbered_from number (raw ∷ raws)) ≡ []
section_end number raw raws h = rw (h, content_before) refl

-- A line that begins with one `%` is a heading.
one_percent : (c : ℕ) (rest : List ℕ) → eqb c 37 ≡ false → begins_with (codes "%%") (without_cr (37 ∷ c ∷ rest)) ≡ false
one_percent c [] e = at (eqb c 13) where
  at : (t : Bool) → begins_with (codes "%%") (37 ∷ cond t [] (c ∷ [])) ≡ false
  at true = refl
  at false = rw e refl
one_percent c (d ∷ ds) e = rw e refl

single_heading : (number c : ℕ) (rest : List ℕ) → eqb c 37 ≡ false → is_heading (record { number = number; raw = 37 ∷ c ∷ rest }) ≡ true
single_heading number c rest e = at (eqb c 10) refl where
  at : (t : Bool) → eqb c 10 ≡ t → is_heading (record { number = number; raw = 37 ∷ c ∷ rest }) ≡ true
  at true f = let is : c ≡ 10 = eqb-true c 10 f in rw is refl
  at false f =
      let p : ℕ = position_or_len (λ b. eqb b 10) rest in
      let long : 1 + cond (not (eqb c 10)) (1 + p) 0 ≡ suc (suc p) = rw f (omega arith) in
      let text : line_text (37 ∷ c ∷ rest) ≡ without_cr (37 ∷ c ∷ take p rest) = ap (λ k. without_cr (take k (37 ∷ c ∷ rest))) long in
      ap (λ (t : List ℕ). begins_with (codes "%") t && not (begins_with (codes "%%") t)) text ∙ ap not (one_percent c (take p rest) e)

first_byte : (b : ℕ) (bs : List ℕ) (lines : List (List ℕ)) → raw_lines (b ∷ bs) ≡ lines → (raw : List ℕ) × (raws : List (List ℕ)) × (lines ≡ (b ∷ raw) ∷ raws)
first_byte b bs lines e = at (eqb b 10) (raw_lines bs) e where
  at : (t : Bool) (ls : List (List ℕ)) → cond t ((b ∷ []) ∷ ls) (onto_first b ls) ≡ lines → (raw : List ℕ) × (raws : List (List ℕ)) × (lines ≡ (b ∷ raw) ∷ raws)
  at true ls f = ([], ls, sym f)
  at false [] f = ([], [], sym f)
  at false (l ∷ ls) f = (l, ls, sym f)

other_percent : (b : ℕ) (bs : List ℕ) → begins_with (codes "%%") (37 ∷ b ∷ bs) ≡ false → eqb b 37 ≡ false
other_percent b bs h = at (eqb b 37) refl where
  at : (t : Bool) → eqb b 37 ≡ t → t ≡ false
  at false e = refl
  at true e = let is : b ≡ 37 = eqb-true b 37 e in let no : true ≡ false = rw is at h in absurd (true≢false no)

-- A section ends at a line that begins with one `%`.
pub section_nothing : (number : ℕ) (bs : List ℕ) → begins_with (codes "%%") (37 ∷ bs) ≡ false → content_before (numbered_from number (raw_lines (37 ∷ bs))) ≡ []
section_nothing number [] h = section_end number (37 ∷ []) [] refl
section_nothing number (b ∷ bs) h =
    let f = first_byte b bs (raw_lines (b ∷ bs)) refl in
    ap (λ (lines : List (List ℕ)). content_before (numbered_from number (onto_first 37 lines))) f.2 ∙ section_end number (37 ∷ b ∷ f.0) f.1 (single_heading number b f.0 (other_percent b bs h))

-- The lines of a section up to the first that begins with `%` stand for themselves, and the section ends there, unless that one begins with `%%`.
abbrev pub behind_first : ℕ → List (List ℕ) → List ℕ
behind_first number raws = first_raw raws ++ section_at number (drop 1 raws)

pub section_is : (starts : Bool) (number : ℕ) (bs : List ℕ) → begins_with (codes "%%") (drop (percent_place starts bs) bs) ≡ false
    → cond starts (section_at number (raw_lines bs)) (behind_first number (raw_lines bs)) ≡ take (percent_place starts bs) bs
section_is true number [] h = refl
section_is false number [] h = refl
section_is true number (b ∷ bs) h = at (eqb b 37) refl (eqb b 10) refl h (section_is true (number + 1) bs) (section_is false (number + 1) bs) where
  lines : (ls : List (List ℕ)) → eqb b 37 ≡ false → behind_first (number + 1) ls ≡ take (percent_place false bs) bs → section_at number (onto_first b ls) ≡ b ∷ take (percent_place false bs) bs
  lines [] e later = section_line number b [] [] e ∙ ap (λ (l : List ℕ). b ∷ l) later
  lines (l ∷ ls) e later = section_line number b l ls e ∙ ap (λ (l : List ℕ). b ∷ l) later

  at : (t : Bool) → eqb b 37 ≡ t → (u : Bool) → eqb b 10 ≡ u → begins_with (codes "%%") (drop (cond t 0 (suc (percent_place u bs))) (b ∷ bs)) ≡ false
      → (begins_with (codes "%%") (drop (percent_place true bs) bs) ≡ false → section_at (number + 1) (raw_lines bs) ≡ take (percent_place true bs) bs)
      → (begins_with (codes "%%") (drop (percent_place false bs) bs) ≡ false → behind_first (number + 1) (raw_lines bs) ≡ take (percent_place false bs) bs)
      → section_at number (cond u ((b ∷ []) ∷ raw_lines bs) (onto_first b (raw_lines bs))) ≡ take (cond t 0 (suc (percent_place u bs))) (b ∷ bs)
  at true e u f g whole part = let is : b ≡ 37 = eqb-true b 37 e in rw (← f, is) (ap content_bytes (section_nothing number bs (rw is at g)))
  at false e true f g whole part = section_line number b [] (raw_lines bs) e ∙ ap (λ (l : List ℕ). b ∷ l) (whole g)
  at false e false f g whole part = lines (raw_lines bs) e (part g)
section_is false number (b ∷ bs) h = at (eqb b 10) h (section_is true number bs) (section_is false number bs) where
  lines : (ls : List (List ℕ)) → behind_first number ls ≡ take (percent_place false bs) bs → behind_first number (onto_first b ls) ≡ b ∷ take (percent_place false bs) bs
  lines [] later = ap (λ (l : List ℕ). b ∷ l) later
  lines (l ∷ ls) later = ap (λ (l : List ℕ). b ∷ l) later

  at : (u : Bool) → begins_with (codes "%%") (drop (percent_place u bs) bs) ≡ false
      → (begins_with (codes "%%") (drop (percent_place true bs) bs) ≡ false → section_at number (raw_lines bs) ≡ take (percent_place true bs) bs)
      → (begins_with (codes "%%") (drop (percent_place false bs) bs) ≡ false → behind_first number (raw_lines bs) ≡ take (percent_place false bs) bs)
      → behind_first number (cond u ((b ∷ []) ∷ raw_lines bs) (onto_first b (raw_lines bs))) ≡ b ∷ take (percent_place u bs) bs
  at true g whole part = ap (λ (l : List ℕ). b ∷ l) (whole g)
  at false g whole part = lines (raw_lines bs) (part g)

-- ---- the lines behind the first ones
-- 1 for an LF
abbrev pub one : Bool → ℕ
one t = cond t 1 0

pub feeds-cons : (b : ℕ) (bs : List ℕ) → feeds (b ∷ bs) ≡ one (eqb b 10) + feeds bs
feeds-cons b bs = sum_by-cons (λ (x : ℕ). cond (eqb x 10) 1 0) b bs

-- The lines of a text from the first on that begins with `%` are those behind the bytes before it.
from_other : (number b : ℕ) (raw : List ℕ) (raws : List (List ℕ)) → eqb b 37 ≡ false → from_percent_line (numbered_from number ((b ∷ raw) ∷ raws)) ≡ from_percent_line (numbered_from (number + 1) raws)
from_other number b raw raws e = rw (other_line number b raw e) refl

percent_first : (number : ℕ) (bs : List ℕ) → from_percent_line (numbered_from number (raw_lines (37 ∷ bs))) ≡ numbered_from number (raw_lines (37 ∷ bs))
percent_first number bs = at (raw_lines bs) where
  at : (lines : List (List ℕ)) → from_percent_line (numbered_from number (onto_first 37 lines)) ≡ numbered_from number (onto_first 37 lines)
  at [] = refl
  at (l ∷ ls) = refl

pub behind_is : (starts : Bool) (number : ℕ) (bs : List ℕ)
    → from_percent_line (cond starts (numbered_from number (raw_lines bs)) (numbered_from (number + 1) (drop 1 (raw_lines bs)))) ≡ numbered_from (number + feeds (take (percent_place starts bs) bs)) (raw_lines (drop (percent_place starts bs) bs))
behind_is true number [] = refl
behind_is false number [] = refl
behind_is true number (b ∷ bs) = at (eqb b 37) refl (eqb b 10) refl (behind_is true (number + 1) bs) (behind_is false number bs) where
  lines : (ls : List (List ℕ)) (is : List JobLine) → eqb b 37 ≡ false → from_percent_line (numbered_from (number + 1) (drop 1 ls)) ≡ is → from_percent_line (numbered_from number (onto_first b ls)) ≡ is
  lines [] is e later = from_other number b [] [] e ∙ later
  lines (l ∷ ls) is e later = from_other number b l ls e ∙ later

  at : (t : Bool) → eqb b 37 ≡ t → (u : Bool) → eqb b 10 ≡ u
      → from_percent_line (numbered_from (number + 1) (raw_lines bs)) ≡ numbered_from (number + 1 + feeds (take (percent_place true bs) bs)) (raw_lines (drop (percent_place true bs) bs))
      → from_percent_line (numbered_from (number + 1) (drop 1 (raw_lines bs))) ≡ numbered_from (number + feeds (take (percent_place false bs) bs)) (raw_lines (drop (percent_place false bs) bs))
      → from_percent_line (numbered_from number (cond u ((b ∷ []) ∷ raw_lines bs) (onto_first b (raw_lines bs)))) ≡ numbered_from (number + feeds (take (cond t 0 (suc (percent_place u bs))) (b ∷ bs))) (raw_lines (drop (cond t 0 (suc (percent_place u bs))) (b ∷ bs)))
  at true e u f whole part =
      let is : b ≡ 37 = eqb-true b 37 e in
      let none : number + feeds [] ≡ number = omega arith in
      rw (← f, is, none) (percent_first number bs)
  at false e true f whole part =
      let more : number + feeds (b ∷ take (percent_place true bs) bs) ≡ number + 1 + feeds (take (percent_place true bs) bs) = omega (arith, feeds-cons b (take (percent_place true bs) bs), ap (λ t. one t) f) in
      rw more (from_other number b [] (raw_lines bs) e ∙ whole)
  at false e false f whole part =
      let same : number + feeds (b ∷ take (percent_place false bs) bs) ≡ number + feeds (take (percent_place false bs) bs) = omega (arith, feeds-cons b (take (percent_place false bs) bs), ap (λ t. one t) f) in
      rw same (lines (raw_lines bs) _ e part)
behind_is false number (b ∷ bs) = at (eqb b 10) refl (behind_is true (number + 1) bs) (behind_is false number bs) where
  lines : (ls : List (List ℕ)) (is : List JobLine) → from_percent_line (numbered_from (number + 1) (drop 1 ls)) ≡ is → from_percent_line (numbered_from (number + 1) (drop 1 (onto_first b ls))) ≡ is
  lines [] is later = later
  lines (l ∷ ls) is later = later

  at : (u : Bool) → eqb b 10 ≡ u
      → from_percent_line (numbered_from (number + 1) (raw_lines bs)) ≡ numbered_from (number + 1 + feeds (take (percent_place true bs) bs)) (raw_lines (drop (percent_place true bs) bs))
      → from_percent_line (numbered_from (number + 1) (drop 1 (raw_lines bs))) ≡ numbered_from (number + feeds (take (percent_place false bs) bs)) (raw_lines (drop (percent_place false bs) bs))
      → from_percent_line (numbered_from (number + 1) (drop 1 (cond u ((b ∷ []) ∷ raw_lines bs) (onto_first b (raw_lines bs))))) ≡ numbered_from (number + feeds (b ∷ take (percent_place u bs) bs)) (raw_lines (drop (percent_place u bs) bs))
  at true f whole part =
      let more : number + feeds (b ∷ take (percent_place true bs) bs) ≡ number + 1 + feeds (take (percent_place true bs) bs) = omega (arith, feeds-cons b (take (percent_place true bs) bs), ap (λ t. one t) f) in
      rw more whole
  at false f whole part =
      let same : number + feeds (b ∷ take (percent_place false bs) bs) ≡ number + feeds (take (percent_place false bs) bs) = omega (arith, feeds-cons b (take (percent_place false bs) bs), ap (λ t. one t) f) in
      rw same (lines (raw_lines bs) _ part)

-- ---- what a pass over a job's lines knows behind them
other_heading : (x : JobLine) → begins_with (codes "%") x.raw ≡ false → is_heading x ≡ false
other_heading x h = at x.raw h where
  first : (b : ℕ) (raw : List ℕ) → begins_with (codes "%") (b ∷ raw) ≡ false → (t : Bool) → eqb b 37 ≡ t → t ≡ false
  first b raw h false e = refl
  first b raw h true e = let is : b ≡ 37 = eqb-true b 37 e in let no : true ≡ false = rw is at h in absurd (true≢false no)

  at : (raw : List ℕ) → begins_with (codes "%") raw ≡ false → is_heading (record { number = x.number; raw = raw }) ≡ false
  at [] h = refl
  at (b ∷ raw) h = no_heading x.number b raw (first b raw h (eqb b 37) refl)

-- Behind a heading, lines that don't begin with `%` change nothing.
pub Scanned-passed : (text : List ℕ) (lines : List JobLine) (parts : Parts) → Scanned text lines parts true → Scanned text (from_percent_line lines) parts true
Scanned-passed text [] parts h = h
Scanned-passed text (x ∷ xs) parts h = at (begins_with (codes "%") x.raw) refl (Scanned-passed text xs parts) where
  at : (t : Bool) → begins_with (codes "%") x.raw ≡ t → (Scanned text xs parts true → Scanned text (from_percent_line xs) parts true) → Scanned text (cond t (x ∷ xs) (from_percent_line xs)) parts true
  at true e later = h
  at false e later = later (Scanned-other text x xs parts true (list_all is_white (text_of x)) h (other_heading x e) refl refl)

-- ---- where a text is cut before its first line that begins with `%`
pub record IsCut (bytes : List ℕ) (place : ℕ) (front rest : List ℕ) : Type 0 where
  pub len : place ≡ percent_place true bytes
  pub is_front : front ≡ take place bytes
  pub is_rest : rest ≡ drop place bytes

pub lines_behind : (line behind : ℕ) (bytes : List ℕ) (place : ℕ) (front rest : List ℕ) → IsCut bytes place front rest → behind ≡ line + feeds front → numbered_from (behind + 1) (raw_lines rest) ≡ from_percent_line (numbered_from (line + 1) (raw_lines bytes))
lines_behind line behind bytes place front rest c e =
    let counted : behind + 1 ≡ line + 1 + feeds (take (percent_place true bytes) bytes) = omega (arith, e, ap feeds (c.is_front ∙ ap (λ k. take k bytes) c.len)) in
    ap (λ n. numbered_from n (raw_lines rest)) counted
    ∙ ap (λ (l : List ℕ). numbered_from (line + 1 + feeds (take (percent_place true bytes) bytes)) (raw_lines l)) (c.is_rest ∙ ap (λ k. drop k bytes) c.len)
    ∙ sym (behind_is true (line + 1) bytes)

pub section_front : (number : ℕ) (bytes : List ℕ) (place : ℕ) (front rest : List ℕ) → IsCut bytes place front rest → begins_with (codes "%%") rest ≡ false → front ≡ content_bytes (content_before (numbered_from number (raw_lines bytes)))
section_front number bytes place front rest c h =
    let plain : begins_with (codes "%%") (drop (percent_place true bytes) bytes) ≡ false = ap (begins_with (codes "%%")) (ap (λ k. drop k bytes) (sym c.len) ∙ sym c.is_rest) ∙ h in
    c.is_front ∙ ap (λ k. take k bytes) c.len ∙ sym (section_is true number bytes plain)
