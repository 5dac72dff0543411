-- Where a text is trimmed, and where it's cut into physical lines.
use Rattle.std.proofs.Common.{◌≡◌, ◌<◌, ◌≤◌, ◌≢◌, ℕ, suc, ◌+◌, ◌-◌, Bool, true, false, not, cond, ◌&&◌, List, [], ◌∷◌, length, take, drop, get_or, map, Option, Some, None, refl, sym, ap, ◌∙◌, arith, tests, eqb}
use Rattle.std.specs.List.{prefix_len, position_or_len, before_first, onto_first, slice_get, list_all, position, zip}
use Rattle.std.specs.Char.{to_ascii_lowercase}
use Rattle.std.specs.Str.{bytes_eq}
use Rattle.std.proofs.lemmas.List.Sums.{position_or_len_is}
use Rattle.std.proofs.lemmas.Bool.{eq-eqb, ne_eqb}
use Rattle.std.proofs.lemmas.List.{take_all, drop_all, take-take, length-take, get_or-take}
use Rattle.bstr.specs.Find.{IsFirstByte}
use Rattle.relay_text.specs.Bytes.{is_white, trimmed_start, folded}
use Rattle.relay_text.specs.Lines.{raw_lines, physical_lines, line_text, without_cr, is_ignored}

-- the end of a line
abbrev pub is_line_feed : ℕ → Bool
is_line_feed b = eqb b 10

not_true : (b : Bool) → b ≢ true → b ≡ false
not_true true h = absurd (h refl)
not_true false h = refl

pub place_found : (test : ℕ → Bool) (hay : List ℕ) (k : ℕ) → IsFirstByte test hay (Some k) → position_or_len test hay ≡ k
place_found test hay k h = position_or_len_is test hay k 0 (omega arith) (λ j lt. not_true (test (get_or hay j 0)) (h.0.before j (omega arith) lt)) (λ _. h.1)

pub place_missing : (test : ℕ → Bool) (hay : List ℕ) → IsFirstByte test hay None → position_or_len test hay ≡ length hay
place_missing test hay h = position_or_len_is test hay (length hay) 0 (omega arith) (λ j lt. not_true (test (get_or hay j 0)) (h j (omega arith) lt)) (λ lt. absurd (omega arith))

-- What a search answers is the first place.
pub position_is : (test : ℕ → Bool) (hay : List ℕ) (r : Option ℕ) → IsFirstByte test hay r → r ≡ position test hay
position_is test hay None h = let all = place_missing test hay h in grind (arith, tests)
position_is test hay (Some k) h = let at = place_found test hay k h in let within = h.0.high in grind (arith, tests)

-- A text is its first line, up to its first LF, and the lines of the rest.
pub raw_lines-found : (bs : List ℕ) → position_or_len is_line_feed bs < length bs → raw_lines bs ≡ take (position_or_len is_line_feed bs + 1) bs ∷ raw_lines (drop (position_or_len is_line_feed bs + 1) bs)
raw_lines-found [] h = absurd (omega arith)
raw_lines-found (b ∷ bs) h = at (eqb b 10) (position_or_len is_line_feed bs) h (raw_lines-found bs) where
  at : (t : Bool) (m : ℕ) → cond (not t) (1 + m) 0 < length (b ∷ bs) → (m < length bs → raw_lines bs ≡ take (m + 1) bs ∷ raw_lines (drop (m + 1) bs))
      → cond t ((b ∷ []) ∷ raw_lines bs) (onto_first b (raw_lines bs)) ≡ take (cond (not t) (1 + m) 0 + 1) (b ∷ bs) ∷ raw_lines (drop (cond (not t) (1 + m) 0 + 1) (b ∷ bs))
  at true m h later = refl
  at false m h later =
      let e : 1 + m + 1 ≡ suc (m + 1) = omega arith in
      let within : m < length bs = omega arith in
      rw e (ap (onto_first b) (later within))

-- Without an LF it's one line.
pub raw_lines-missing : (bs : List ℕ) → 0 < length bs → position_or_len is_line_feed bs ≡ length bs → raw_lines bs ≡ bs ∷ []
raw_lines-missing [] some h = absurd (omega arith)
raw_lines-missing (b ∷ []) some h = at (eqb b 10) where
  at : (t : Bool) → cond t ((b ∷ []) ∷ []) ((b ∷ []) ∷ []) ≡ (b ∷ []) ∷ []
  at true = refl
  at false = refl
raw_lines-missing (b ∷ d ∷ ds) some h = at (eqb b 10) (position_or_len is_line_feed (d ∷ ds)) h (raw_lines-missing (d ∷ ds) (omega arith)) where
  at : (t : Bool) (m : ℕ) → cond (not t) (1 + m) 0 ≡ length (b ∷ d ∷ ds) → (m ≡ length (d ∷ ds) → raw_lines (d ∷ ds) ≡ (d ∷ ds) ∷ [])
      → cond t ((b ∷ []) ∷ raw_lines (d ∷ ds)) (onto_first b (raw_lines (d ∷ ds))) ≡ (b ∷ d ∷ ds) ∷ []
  at true m h later = absurd (omega arith)
  at false m h later = let whole : m ≡ length (d ∷ ds) = omega arith in ap (onto_first b) (later whole)

pub raw_lines-cut_at : (bs : List ℕ) (place : ℕ) (line rest : List ℕ) → IsFirstByte is_line_feed bs (Some place) → line ≡ take (place + 1) bs → rest ≡ drop (place + 1) bs → raw_lines bs ≡ line ∷ raw_lines rest
raw_lines-cut_at bs place line rest h e f =
    let at : position_or_len is_line_feed bs ≡ place = place_found is_line_feed bs place h in
    let within : position_or_len is_line_feed bs < length bs = rw at h.0.high in
    rw (e, f, ← at) (raw_lines-found bs within)

pub raw_lines-whole : (bs line rest : List ℕ) → 0 < length bs → IsFirstByte is_line_feed bs None → line ≡ take (length bs) bs → rest ≡ drop (length bs) bs → raw_lines bs ≡ line ∷ raw_lines rest
raw_lines-whole bs line rest some h e f =
    let line_is : line ≡ bs = e ∙ take_all (length bs) bs (omega arith) in
    let rest_is : rest ≡ [] = f ∙ drop_all (length bs) bs (omega arith) in
    rw (line_is, rest_is) (raw_lines-missing bs some (place_missing is_line_feed bs h))

-- The text of a line stands before its LF, and before a CR at its end.
pub before_first-found : (bs : List ℕ) (place : ℕ) → IsFirstByte is_line_feed bs (Some place) → before_first is_line_feed bs ≡ take place bs
before_first-found bs place h = rw (place_found is_line_feed bs place h)

pub before_first-missing : (bs : List ℕ) → IsFirstByte is_line_feed bs None → before_first is_line_feed bs ≡ bs
before_first-missing bs h = rw (place_missing is_line_feed bs h) (take_all (length bs) bs (omega arith))

-- One CR at the end of a line is dropped.
without_cr-is : (b : ℕ) (bs : List ℕ) → without_cr (b ∷ bs) ≡ cond (eqb (get_or (b ∷ bs) (length bs) 0) 13) (take (length bs) (b ∷ bs)) (b ∷ bs)
without_cr-is b [] = refl
without_cr-is b (d ∷ ds) = ap (λ (rest : List ℕ). b ∷ rest) (without_cr-is d ds) ∙ at (eqb (get_or (d ∷ ds) (length ds) 0) 13) where
  at : (t : Bool) → b ∷ cond t (take (length ds) (d ∷ ds)) (d ∷ ds) ≡ cond t (b ∷ take (length ds) (d ∷ ds)) (b ∷ d ∷ ds)
  at true = refl
  at false = refl

pub without_cr-cut : (line : List ℕ) → 0 < length line → get_or line (length line - 1) 0 ≡ 13 → take (length line - 1) line ≡ without_cr line
without_cr-cut [] some h = absurd (omega arith)
without_cr-cut (b ∷ bs) some h =
    let one : suc (length bs) - 1 ≡ length bs = omega arith in
    let last : get_or (b ∷ bs) (length bs) 0 ≡ 13 = ap (λ k. get_or (b ∷ bs) k 0) (sym one) ∙ h in
    rw one (sym (without_cr-is b bs ∙ ap (λ t. cond t (take (length bs) (b ∷ bs)) (b ∷ bs)) (eq-eqb _ _ last)))

pub without_cr-kept : (line : List ℕ) → (0 < length line → get_or line (length line - 1) 0 ≢ 13) → line ≡ without_cr line
without_cr-kept [] h = refl
without_cr-kept (b ∷ bs) h =
    let one : suc (length bs) - 1 ≡ length bs = omega arith in
    let other : get_or (b ∷ bs) (length bs) 0 ≢ 13 = λ e. h (omega arith) (ap (λ k. get_or (b ∷ bs) k 0) one ∙ e) in
    sym (without_cr-is b bs ∙ ap (λ t. cond t (take (length bs) (b ∷ bs)) (b ∷ bs)) (ne_eqb _ _ other))

-- The line before an LF, and behind it the rest.
physical-cut : (bs : List ℕ) (place : ℕ) → IsFirstByte is_line_feed bs (Some place) → line_text (take (place + 1) bs) ≡ without_cr (take place bs)
physical-cut bs place h =
    let within : place < length bs = h.0.high in
    let read : (j : ℕ) → j < place + 1 → get_or (take (place + 1) bs) j 0 ≡ get_or bs j 0 = λ j lt. get_or-take (place + 1) bs j 0 lt in
    let first : position_or_len is_line_feed (take (place + 1) bs) ≡ place =
    position_or_len_is is_line_feed (take (place + 1) bs) place 0 (omega (arith, length-take (place + 1) bs))
    (λ j lt. ap is_line_feed (read j (omega arith)) ∙ not_true (is_line_feed (get_or bs j 0)) (h.0.before j (omega arith) lt))
    (λ _. ap is_line_feed (read place (omega arith)) ∙ h.1) in
    ap (λ k. without_cr (take k (take (place + 1) bs))) first ∙ ap without_cr (take-take place (place + 1) bs (omega arith))

pub physical-cut_at : (bs : List ℕ) (place : ℕ) (line rest : List ℕ) → IsFirstByte is_line_feed bs (Some place) → line ≡ without_cr (take place bs) → rest ≡ drop (place + 1) bs
    → physical_lines bs ≡ line ∷ physical_lines rest
physical-cut_at bs place line rest h e f =
    ap (map line_text) (raw_lines-cut_at bs place (take (place + 1) bs) rest h refl f)
    ∙ ap (λ (l : List ℕ). l ∷ physical_lines rest) (physical-cut bs place h ∙ sym e)

pub physical-whole : (bs line rest : List ℕ) → 0 < length bs → IsFirstByte is_line_feed bs None → line ≡ without_cr bs → rest ≡ drop (length bs) bs → physical_lines bs ≡ line ∷ physical_lines rest
physical-whole bs line rest some h e f =
    ap (map line_text) (raw_lines-whole bs (take (length bs) bs) rest some h refl f)
    ∙ ap (λ (l : List ℕ). l ∷ physical_lines rest) (ap line_text (take_all (length bs) bs (omega arith)) ∙ ap without_cr (before_first-missing bs h) ∙ sym e)

-- whether a line is ignored, by what follows its white space
abbrev pub is_ignored_at : List ℕ → Bool
is_ignored_at [] = true
is_ignored_at (b ∷ bs) = eqb b 35

pub is_ignored-cut : (text : List ℕ) → is_ignored text ≡ is_ignored_at (trimmed_start text)
is_ignored-cut [] = refl
is_ignored-cut (b ∷ bs) = at (is_white b) (is_ignored-cut bs) where
  at : (t : Bool) → is_ignored bs ≡ is_ignored_at (trimmed_start bs) → cond t (is_ignored bs) (eqb b 35) ≡ is_ignored_at (drop (cond t (1 + prefix_len is_white bs) 0) (b ∷ bs))
  at true e = let one : 1 + prefix_len is_white bs ≡ suc (prefix_len is_white bs) = omega arith in rw one e
  at false e = refl

pub is_ignored-first : (b : ℕ) (rest : List ℕ) → Some b ≡ slice_get rest 0 → eqb b 35 ≡ is_ignored_at rest
is_ignored-first b [] h = cc
is_ignored-first b (d ∷ ds) h = let same : b ≡ d = cc in rw same

pub is_ignored-none : (rest : List ℕ) → slice_get rest 0 ≡ None → true ≡ is_ignored_at rest
is_ignored-none [] h = refl
is_ignored-none (d ∷ ds) h = cc

-- A word stands at the front of a text where each of its bytes is that of the text, folded.
pub list_all-zip_folded : (word text : List ℕ) → length word ≤ length text → list_all (λ p. eqb (to_ascii_lowercase p.0) p.1) (zip text word) ≡ bytes_eq (folded (take (length word) text)) word
list_all-zip_folded [] [] h = refl
list_all-zip_folded [] (b ∷ bs) h = refl
list_all-zip_folded (w ∷ ws) [] h = absurd (omega arith)
list_all-zip_folded (w ∷ ws) (b ∷ bs) h = let later : length ws ≤ length bs = omega arith in ap (λ (r : Bool). eqb (to_ascii_lowercase b) w && r) (list_all-zip_folded ws bs later)
