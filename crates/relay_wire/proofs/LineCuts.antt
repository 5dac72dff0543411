-- Lines that stand one behind the other in some bytes.
use Rattle.std.proofs.Common.{◌≡◌, ℕ, ◌+◌, ◌≤◌, true, false, Bool, ◌||◌, List, [], ◌∷◌, ◌++◌, length, take, drop, refl, ap, sym, ◌∙◌, arith}
use Rattle.std.specs.Prelude.{sum}
use Rattle.std.specs.Str.{bytes_eq}
use Rattle.std.proofs.lemmas.List.{take-append-le, drop-append-le, length-drop, length-take, take_all, take-append-drop, length-append}
use Rattle.std.proofs.lemmas.List.Sums.{sum_by-append, sum_by-cons}
use Rattle.relay_text.specs.Bytes.{has_text}
use Rattle.relay_wire.specs.FindingLines.{AreLines, lines_cut}

no_bytes : (bytes line : List ℕ) → 0 ≡ length bytes → take (length line) (bytes ++ line) ≡ line
no_bytes [] line e = take_all (length line) line (omega arith)
no_bytes (b ∷ bytes) line e = absurd (omega (arith, e))

-- a line put behind them
pub lines_cut-push : (lengths bytes line : List ℕ) → sum lengths ≡ length bytes → lines_cut (lengths ++ length line ∷ []) (bytes ++ line) ≡ lines_cut lengths bytes ++ line ∷ []
lines_cut-push [] bytes line whole = ap (λ (l : List ℕ). l ∷ []) (no_bytes bytes line whole)
lines_cut-push (n ∷ lengths) bytes line whole =
    let first_and_rest : sum (n ∷ lengths) ≡ n + sum lengths = sum_by-cons (λ x. x) n lengths in
    let within : n ≤ length bytes = omega (arith, whole, first_and_rest) in
    let first : take n (bytes ++ line) ≡ take n bytes = take-append-le n bytes line within in
    let behind : drop n (bytes ++ line) ≡ drop n bytes ++ line = drop-append-le n bytes line within in
    let rest : lines_cut (lengths ++ length line ∷ []) (drop n bytes ++ line) ≡ lines_cut lengths (drop n bytes) ++ line ∷ [] =
    lines_cut-push lengths (drop n bytes) line (omega (arith, whole, first_and_rest, length-drop n bytes)) in
    rw (first, behind, rest) refl

pub AreLines-push : (lengths bytes line : List ℕ) → AreLines lengths bytes → AreLines (lengths ++ length line ∷ []) (bytes ++ line)
AreLines-push lengths bytes line are = omega (arith, are, sum_by-append (λ x. x) lengths (length line ∷ []), sum_by-cons (λ x. x) (length line) [], length-append bytes line)

or_last : (a b : Bool) → (a || (b || false)) ≡ (a || b)
or_last true b = refl
or_last false true = refl
or_last false false = refl

pub has_text-push : (lines : List (List ℕ)) (line q : List ℕ) → has_text (lines ++ line ∷ []) q ≡ (has_text lines q || bytes_eq q line)
has_text-push [] line q = or_last false (bytes_eq q line)
has_text-push (l ∷ lines) line q = at (bytes_eq q l) (has_text-push lines line q) where
  at : (b : Bool) → has_text (lines ++ line ∷ []) q ≡ (has_text lines q || bytes_eq q line) → (b || has_text (lines ++ line ∷ []) q) ≡ ((b || has_text lines q) || bytes_eq q line)
  at true later = refl
  at false later = later

-- lines put behind others
pub lines_cut-append : (lengths bytes more_lengths more : List ℕ) → sum lengths ≡ length bytes → lines_cut (lengths ++ more_lengths) (bytes ++ more) ≡ lines_cut lengths bytes ++ lines_cut more_lengths more
lines_cut-append [] [] more_lengths more whole = refl
lines_cut-append [] (b ∷ bytes) more_lengths more whole = absurd (omega (arith, whole))
lines_cut-append (n ∷ lengths) bytes more_lengths more whole =
    let first_and_rest : sum (n ∷ lengths) ≡ n + sum lengths = sum_by-cons (λ x. x) n lengths in
    let within : n ≤ length bytes = omega (arith, whole, first_and_rest) in
    let first : take n (bytes ++ more) ≡ take n bytes = take-append-le n bytes more within in
    let behind : drop n (bytes ++ more) ≡ drop n bytes ++ more = drop-append-le n bytes more within in
    let rest : lines_cut (lengths ++ more_lengths) (drop n bytes ++ more) ≡ lines_cut lengths (drop n bytes) ++ lines_cut more_lengths more =
    lines_cut-append lengths (drop n bytes) more_lengths more (omega (arith, whole, first_and_rest, length-drop n bytes)) in
    rw (first, behind, rest) refl

pub AreLines-append : (lengths bytes more_lengths more : List ℕ) → AreLines lengths bytes → AreLines more_lengths more → AreLines (lengths ++ more_lengths) (bytes ++ more)
AreLines-append lengths bytes more_lengths more are others = omega (arith, are, others, sum_by-append (λ x. x) lengths more_lengths, length-append bytes more)

-- ---- lines that are parted
module _ (all lengths more_lengths bytes : List ℕ) (is : all ≡ lengths ++ more_lengths) (whole : AreLines all bytes) where
  abbrev place : ℕ
  place = sum lengths

  sums : sum all ≡ sum lengths + sum more_lengths
  sums = ap sum is ∙ sum_by-append (λ x. x) lengths more_lengths

  pub within_bytes : place ≤ length bytes
  within_bytes = omega (arith, whole, sums)

  pub front_whole : AreLines lengths (take place bytes)
  front_whole = omega (arith, length-take place bytes, within_bytes)

  pub back_whole : AreLines more_lengths (drop place bytes)
  back_whole = omega (arith, length-drop place bytes, whole, sums)

  pub parts_are : lines_cut lengths (take place bytes) ++ lines_cut more_lengths (drop place bytes) ≡ lines_cut all bytes
  parts_are =
      sym (lines_cut-append lengths (take place bytes) more_lengths (drop place bytes) front_whole)
      ∙ ap (λ (bs : List ℕ). lines_cut (lengths ++ more_lengths) bs) (take-append-drop place bytes)
      ∙ ap (λ (ns : List ℕ). lines_cut ns bytes) (sym is)
