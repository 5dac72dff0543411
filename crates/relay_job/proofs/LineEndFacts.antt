-- Where a line of a text ends: an LF stands at its end, or nowhere.
use Rattle.std.proofs.Common.{◌≡◌, ◌≢◌, ◌<◌, ◌≤◌, ◌+◌, ◌-◌, ℕ, suc, Bool, true, false, not, cond, eqb, ltb, List, [], ◌∷◌, length, take, drop, get_or, codes, refl, sym, ap, ◌∙◌, arith}
use Rattle.std.specs.List.{position_or_len, before_first, onto_first}
use Rattle.std.proofs.lemmas.Bool.{eq-eqb, eqb-true, eqb-false, ltb-true, ltb-false, both_ways, true≢false}
use Rattle.std.proofs.lemmas.List.{take_all}
use Rattle.std.proofs.lemmas.List.Sums.{fails_before_first, passes_at_first, prefix_len-le-length}
use Rattle.relay_text.specs.Bytes.{begins_with}
use Rattle.relay_text.specs.Lines.{raw_lines, without_cr, line_text}
use Rattle.relay_text.proofs.Scans.{without_cr-cut, without_cr-kept}

-- the end of a line
abbrev is_feed : ℕ → Bool
is_feed b = eqb b 10

-- an LF stands at the end or nowhere
abbrev pub EndsOnce : List ℕ → Type 0
EndsOnce line = length line ≤ position_or_len (λ b. eqb b 10) line + 1

-- The first line of a text is such a line.
pub first_ends_once : (text raw : List ℕ) (more : List (List ℕ)) → raw_lines text ≡ raw ∷ more → EndsOnce raw
first_ends_once [] raw more e = absurd (let no : ⊥ = cc in no)
first_ends_once (b ∷ bs) raw more e = at (eqb b 10) (raw_lines bs) refl e (first_ends_once bs) where
  longer : (x : List ℕ) → eqb b 10 ≡ false → EndsOnce x → EndsOnce (b ∷ x)
  longer x f h = rw f (omega (arith, h))

  at : (t : Bool) (lines : List (List ℕ)) → eqb b 10 ≡ t → cond t ((b ∷ []) ∷ lines) (onto_first b lines) ≡ raw ∷ more
      → ((x : List ℕ) (xs : List (List ℕ)) → lines ≡ x ∷ xs → EndsOnce x) → EndsOnce raw
  at true lines t e later = let is : raw ≡ b ∷ [] = cc in rw is (omega arith)
  at false [] t e later = let is : raw ≡ b ∷ [] = cc in rw is (omega arith)
  at false (x ∷ xs) t e later = let is : raw ≡ b ∷ x = cc in rw is (longer x t (later x xs refl))

-- So is one that stands for itself behind a `%`.
pub undone_ends_once : (raw : List ℕ) → EndsOnce raw → begins_with (codes "%%") raw ≡ true → EndsOnce (drop 1 raw)
undone_ends_once [] once h = absurd (let no : ⊥ = cc in no)
undone_ends_once (b ∷ bs) once h = at (eqb b 10) once where
  at : (t : Bool) → suc (length bs) ≤ cond (not t) (1 + position_or_len is_feed bs) 0 + 1 → length bs ≤ position_or_len is_feed bs + 1
  at true k = omega arith
  at false k = omega arith

-- a text without a byte at its end, where it is this one
abbrev without_last : ℕ → List ℕ → List ℕ
without_last byte text = cond (eqb (get_or text (length text - 1) 0) byte) (take (length text - 1) text) text

some : (text : List ℕ) (byte : ℕ) → 0 < byte → get_or text (length text - 1) 0 ≡ byte → 0 < length text
some [] byte positive e = omega (arith, positive, e)
some (b ∷ bs) byte positive e = omega arith

module _ (line : List ℕ) (once : EndsOnce line) where
  feed_at_end : get_or line (length line - 1) 0 ≡ 10 → length line - 1 ≡ position_or_len is_feed line
  feed_at_end e = at (ltb (position_or_len is_feed line) (length line)) refl where
    at : (t : Bool) → ltb (position_or_len is_feed line) (length line) ≡ t → length line - 1 ≡ position_or_len is_feed line
    at true h = let inside = ltb-true _ _ h in omega (arith, inside, once)
    at false h =
        let past = ltb-false _ _ h in
        let long : 0 < length line = some line 10 (omega arith) e in
        absurd (both_ways (is_feed (get_or line (length line - 1) 0)) (fails_before_first is_feed line (length line - 1) 0 (omega (arith, past, long))) (eq-eqb _ _ e))

  no_feed : get_or line (length line - 1) 0 ≢ 10 → length line ≤ position_or_len is_feed line
  no_feed other = at (ltb (position_or_len is_feed line) (length line)) refl where
    at : (t : Bool) → ltb (position_or_len is_feed line) (length line) ≡ t → length line ≤ position_or_len is_feed line
    at true h =
        let inside = ltb-true _ _ h in
        let last : position_or_len is_feed line ≡ length line - 1 = omega (arith, inside, once) in
        absurd (other (ap (λ k. get_or line k 0) (sym last) ∙ eqb-true _ _ (passes_at_first is_feed line 0 inside)))
    at false h = omega (arith, ltb-false _ _ h)

  without_feed : without_last 10 line ≡ before_first is_feed line
  without_feed = at (eqb (get_or line (length line - 1) 0) 10) refl where
    at : (t : Bool) → eqb (get_or line (length line - 1) 0) 10 ≡ t → cond t (take (length line - 1) line) line ≡ take (position_or_len is_feed line) line
    at true h = ap (λ k. take k line) (feed_at_end (eqb-true _ _ h))
    at false h = sym (take_all (position_or_len is_feed line) line (no_feed (eqb-false _ _ h)))

without_return : (text : List ℕ) → without_last 13 text ≡ without_cr text
without_return text = at (eqb (get_or text (length text - 1) 0) 13) refl where
  at : (t : Bool) → eqb (get_or text (length text - 1) 0) 13 ≡ t → cond t (take (length text - 1) text) text ≡ without_cr text
  at true h = without_cr-cut text (some text 13 (omega arith) (eqb-true _ _ h)) (eqb-true _ _ h)
  at false h = without_cr-kept text (λ _. eqb-false _ _ h)

-- The text of such a line: without an LF at its end, and then without a CR.
pub text_of_ended : (line cut text : List ℕ) → EndsOnce line → cut ≡ without_last 10 line → text ≡ without_last 13 cut → text ≡ line_text line
text_of_ended line cut text once e f = f ∙ without_return cut ∙ ap without_cr (e ∙ without_feed line once)

-- An empty text has no byte at its end.
pub without_last-nil : (text : List ℕ) (byte : ℕ) → length text ≡ 0 → text ≡ without_last byte text
without_last-nil [] byte e = at (eqb 0 byte) where
  at : (t : Bool) → [] ≡ cond {A = List ℕ} t [] []
  at true = refl
  at false = refl
without_last-nil (b ∷ bs) byte e = absurd (omega arith)
