-- The kept lines of a text, one line after another.
use Rattle.std.proofs.Common.{◌≡◌, ◌≢◌, ◌==◌, ◌<◌, ℕ, ◌+◌, ◌-◌, Bool, true, false, not, cond, List, [], ◌∷◌, length, take, drop, get_or, Some, refl, sym, ap, ◌∙◌, arith}
use Rattle.std.specs.Bool.{IsTrue}
use Rattle.std.specs.List.{list_all}
use Rattle.std.proofs.lemmas.Bool.{and_parts, or_from, eqb-true, eq-eqb, ne_eqb, false≢true}
use Rattle.std.proofs.lemmas.List.{take_at, get_or-take}
use Rattle.std.proofs.lemmas.List.Folds.{list_all_at}
use Rattle.bstr.specs.Find.{IsFirstByte}
use Rattle.relay_text.specs.Addresses.{is_empty}
use Rattle.relay_text.specs.Lines.{physical_lines, without_cr, is_ignored}
use Rattle.relay_text.specs.KeptLines.{kept_from}
use Rattle.relay_text.specs.PlainTexts.{is_open_byte, is_open_text, plain_front}
use Rattle.relay_text.proofs.PlainTexts.{front_split, front_length}
use Rattle.relay_text.proofs.Scans.{is_line_feed, physical-cut_at, without_cr-kept}

-- The first line is passed where it's ignored; else it comes before those of the rest, which are numbered on.
pub kept_from-split : (first : ℕ) (bytes line rest : List ℕ) → physical_lines bytes ≡ line ∷ physical_lines rest
    → kept_from first bytes ≡ cond (is_ignored line) (kept_from (first + 1) rest) (record { number = first; text = line } ∷ kept_from (first + 1) rest)
kept_from-split first bytes line rest h = rw h (at (is_ignored line)) where
  at : (t : Bool) → cond (not t) (record { number = first; text = line } ∷ kept_from (first + 1) rest) (kept_from (first + 1) rest)
      ≡ cond t (kept_from (first + 1) rest) (record { number = first; text = line } ∷ kept_from (first + 1) rest)
  at true = refl
  at false = refl

pub kept_from-kept : (first : ℕ) (bytes line rest : List ℕ) → physical_lines bytes ≡ line ∷ physical_lines rest → is_ignored line ≡ false
    → kept_from first bytes ≡ record { number = first; text = line } ∷ kept_from (first + 1) rest
kept_from-kept first bytes line rest h kept = rw (kept_from-split first bytes line rest h) (rw kept)

-- A line that is a text without quotes is kept, where it doesn't begin as a comment does.
other_at : (text : List ℕ) (j c : ℕ) → list_all is_open_byte text ≡ true → j < length text → is_open_byte c ≡ false → get_or text j 0 ≢ c
other_at text j c good within bad e = false≢true (sym (list_all_at is_open_byte text j 0 within (ap is_open_byte e ∙ bad)) ∙ good)

not_ignored : (text : List ℕ) → IsTrue (is_open_text text) → (0 < length text → get_or text 0 0 ≢ 35) → is_ignored text ≡ false
not_ignored [] good other = absurd (false≢true good)
not_ignored (b ∷ bs) good other =
    let here : (c : ℕ) → is_open_byte c ≡ false → (b == c) ≡ false = λ c bad. ne_eqb b c (other_at (b ∷ bs) 0 c good (omega arith) bad) in
    rw (or_from (b == 32) (b == 9) (here 32 refl) (here 9 refl)) (ne_eqb b 35 (other (omega arith)))

pub kept_from-plain : (first : ℕ) (bytes text read rest : List ℕ) → read ≡ text → IsTrue (is_open_text text) → Some text ≡ plain_front bytes → length read ≢ length bytes → get_or bytes (length read) 0 ≡ 10 → get_or bytes 0 0 ≢ 35
    → rest ≡ drop (length read + 1) bytes → kept_from first bytes ≡ record { number = first; text = text } ∷ kept_from (first + 1) rest
kept_from-plain first bytes text read rest all good h more feed other is =
    let bytes_open = (and_parts (not (is_empty text)) (list_all is_open_byte text) good).1 in
    let len : length read ≡ length text = ap length all in
    let front : text ≡ take (length text) bytes = sym (take_at text (drop (length text) bytes) (length text) refl) ∙ ap (take (length text)) (front_split bytes text h) in
    let same : (j : ℕ) → j < length text → get_or text j 0 ≡ get_or bytes j 0 = λ j lt. ap (λ t. get_or t j 0) front ∙ get_or-take (length text) bytes j 0 lt in
    let cut : IsFirstByte is_line_feed bytes (Some (length text)) = (
      record {
        low = omega arith;
        high = omega (arith, len, more, front_length bytes text h);
        before = λ j _ lt e. other_at text j 10 bytes_open lt refl (same j lt ∙ eqb-true _ 10 e);
      },
      eq-eqb _ 10 (ap (λ k. get_or bytes k 0) (sym len) ∙ feed),
    ) in
    kept_from-kept first bytes text rest
    (physical-cut_at bytes (length text) text rest cut (without_cr-kept text (λ some. other_at text (length text - 1) 13 bytes_open (omega arith) refl) ∙ ap without_cr front) (is ∙ ap (λ k. drop (k + 1) bytes) len))
    (not_ignored text good (λ some e. other (sym (same 0 some) ∙ e)))
