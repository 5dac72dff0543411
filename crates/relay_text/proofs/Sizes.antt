-- How long the parts of a text are, and how many there are.
use Rattle.std.proofs.Common.{◌≡◌, ℕ, ◌+◌, ◌-◌, ◌≤◌, Bool, true, false, not, cond, ◌&&◌, ◌==◌, suc, List, [], ◌∷◌, length, take, drop, map, refl, arith}
use Rattle.std.specs.List.{prefix_len, suffix_len, position_or_len, before_first, onto_first, slice_split, filter, flat_map, enumerate_from}
use Rattle.std.proofs.lemmas.List.{length-take, length-drop, length-map}
use Rattle.std.proofs.lemmas.List.FromFn.{length-enumerate_from}
use Rattle.std.proofs.lemmas.List.Sums.{length-filter, count_by-le-length}
use Rattle.relay_text.specs.Bytes.{is_white, trimmed, trimmed_start}
use Rattle.relay_text.specs.Quotes.{pieces_outside, is_outside}
use Rattle.relay_text.specs.Lines.{raw_lines, without_cr, line_text, is_ignored, physical_lines, numbered_lines, kept_lines, begins_logical_line, Cut, cut_before, joined, logical_lines_of}
use Rattle.relay_text.specs.declared.lines.Line.{Line}

length-take_most : {X : Type 0} (n : ℕ) (xs : List X) → length (take n xs) ≤ length xs
length-take_most n xs = omega (arith, length-take n xs)

length-drop_most : {X : Type 0} (n : ℕ) (xs : List X) → length (drop n xs) ≤ length xs
length-drop_most n xs = omega (arith, length-drop n xs)

pub length-filter_most : {X : Type 0} (test : X → Bool) (xs : List X) → length (filter test xs) ≤ length xs
length-filter_most test xs = omega (arith, length-filter test xs, count_by-le-length test xs)

-- a trimmed text is no longer
pub length-trimmed : (text : List ℕ) → length (trimmed text) ≤ length text
length-trimmed text = omega (arith, length-take_most (length (trimmed_start text) - suffix_len is_white (trimmed_start text)) (trimmed_start text), length-drop_most (prefix_len is_white text) text)

length-without_cr : (line : List ℕ) → length (without_cr line) ≤ length line
length-without_cr [] = omega arith
length-without_cr (b ∷ []) = at (b == 13) where
  at : (t : Bool) → length (cond t [] (b ∷ [])) ≤ 1
  at true = omega arith
  at false = omega arith
length-without_cr (b ∷ c ∷ bs) = omega (arith, length-without_cr (c ∷ bs))

-- a line is no longer without its end
pub length-line_text : (raw : List ℕ) → length (line_text raw) ≤ length raw
length-line_text raw = omega (arith, length-without_cr (before_first (λ b. b == 10) raw), length-take_most (position_or_len (λ b. b == 10) raw) raw)

-- how many elements lists have together
abbrev pub total : {X : Type 0} → List (List X) → ℕ
total [] = 0
total (xs ∷ lists) = length xs + total lists

total-onto_first : {X : Type 0} (x : X) (lists : List (List X)) → total (onto_first x lists) ≡ suc (total lists)
total-onto_first x [] = refl
total-onto_first x (xs ∷ lists) = omega arith

-- a text's lines have its bytes
pub total-raw_lines : (text : List ℕ) → total (raw_lines text) ≡ length text
total-raw_lines [] = refl
total-raw_lines (b ∷ bs) = at (b == 10) (total-raw_lines bs) where
  at : (t : Bool) → total (raw_lines bs) ≡ length bs → total (cond t ((b ∷ []) ∷ raw_lines bs) (onto_first b (raw_lines bs))) ≡ suc (length bs)
  at true h = omega (arith, h)
  at false h = omega (arith, h, total-onto_first b (raw_lines bs))

-- the pieces of a list have no more than it
total-slice_split : {X : Type 0} (test : X → Bool) (xs : List X) → total (slice_split test xs) ≤ length xs
total-slice_split test [] = omega arith
total-slice_split {X} test (x ∷ xs) = at (test x) (total-slice_split test xs) where
  at : (t : Bool) → total (slice_split test xs) ≤ length xs → total (cond t ([] ∷ slice_split test xs) (onto_first x (slice_split test xs))) ≤ suc (length xs)
  at true h = omega (arith, h)
  at false h = omega (arith, h, total-onto_first x (slice_split test xs))

total-mapped : {X Y : Type 0} (f : X → Y) (lists : List (List X)) → total (map (λ (xs : List X). map f xs) lists) ≡ total lists
total-mapped f [] = refl
total-mapped f (xs ∷ lists) = omega (arith, length-map xs f, total-mapped f lists)

pub total-pieces_outside : (byte : ℕ) (text : List ℕ) → total (pieces_outside byte text) ≤ length text
total-pieces_outside byte text =
    let test : ℕ × ℕ → Bool = λ p. (p.1 == byte) && is_outside text p.0 in
    omega (arith, total-mapped (λ (p : ℕ × ℕ). p.1) (slice_split test (enumerate_from 0 text)), total-slice_split test (enumerate_from 0 text), length-enumerate_from 0 text)

-- Each line has a byte.
length-raw_lines : (text : List ℕ) → length (raw_lines text) ≤ length text
length-raw_lines [] = omega arith
length-raw_lines (b ∷ bs) = at (b == 10) (length-raw_lines bs) where
  one_more : (texts : List (List ℕ)) → length (onto_first b texts) ≤ suc (length texts)
  one_more [] = omega arith
  one_more (text ∷ texts) = omega arith

  at : (t : Bool) → length (raw_lines bs) ≤ length bs → length (cond t ((b ∷ []) ∷ raw_lines bs) (onto_first b (raw_lines bs))) ≤ suc (length bs)
  at true h = omega (arith, h)
  at false h = omega (arith, h, one_more (raw_lines bs))

-- how many kept lines there are, and how many bytes they have together
pub length-kept_lines : (text : List ℕ) → length (kept_lines text) ≤ length text
length-kept_lines text =
    omega (arith, length-filter_most (λ (l : Line). not (is_ignored l.text)) (numbered_lines text), length-map (enumerate_from 1 (physical_lines text)) (λ (p : ℕ × List ℕ). line_at p), length-enumerate_from 1 (physical_lines text), length-map (raw_lines text) line_text, length-raw_lines text) where
      line_at : ℕ × List ℕ → Line
      line_at p = record { number = p.0; text = p.1 }

abbrev pub texts_size : List Line → ℕ
texts_size [] = 0
texts_size (l ∷ ls) = length l.text + texts_size ls

texts_size-numbered : (number : ℕ) (raws : List (List ℕ)) → texts_size (map (λ (p : ℕ × List ℕ). record { number = p.0; text = p.1 }) (enumerate_from number (map line_text raws))) ≤ total raws
texts_size-numbered number [] = omega arith
texts_size-numbered number (raw ∷ raws) = omega (arith, length-line_text raw, texts_size-numbered (number + 1) raws)

texts_size-filter : (test : Line → Bool) (lines : List Line) → texts_size (filter test lines) ≤ texts_size lines
texts_size-filter test [] = omega arith
texts_size-filter test (l ∷ ls) = at (test l) (texts_size-filter test ls) where
  at : (t : Bool) → texts_size (filter test ls) ≤ texts_size ls → texts_size (cond t (l ∷ filter test ls) (filter test ls)) ≤ length l.text + texts_size ls
  at true h = omega (arith, h)
  at false h = omega (arith, h)

pub texts_size-kept_lines : (text : List ℕ) → texts_size (kept_lines text) ≤ length text
texts_size-kept_lines text = omega (arith, texts_size-filter (λ (l : Line). not (is_ignored l.text)) (numbered_lines text), texts_size-numbered 1 (raw_lines text), total-raw_lines text)

-- how many logical lines there are
length-pieces : {X : Type 0} (test : X → Bool) (xs : List X) → length (cut_before test xs).pieces ≤ length xs
length-pieces test [] = omega arith
length-pieces {X} test (x ∷ xs) = at (test x) (length-pieces test xs) where
  at : (t : Bool) → length (cut_before test xs).pieces ≤ length xs
      → length (cond {A = Cut X} t (record { before = []; pieces = (x ∷ (cut_before test xs).before) ∷ (cut_before test xs).pieces }) (record { before = x ∷ (cut_before test xs).before; pieces = (cut_before test xs).pieces })).pieces ≤ suc (length xs)
  at true h = omega (arith, h)
  at false h = omega (arith, h)

length-joined : (pieces : List (List Line)) → length (flat_map joined pieces) ≤ length pieces
length-joined [] = omega arith
length-joined ([] ∷ pieces) = omega (arith, length-joined pieces)
length-joined ((l ∷ ls) ∷ pieces) = omega (arith, length-joined pieces)

pub length-logical_lines : (text : List ℕ) → length (logical_lines_of text).lines ≤ length text
unfolding logical_lines_of
length-logical_lines text = omega (arith, length-joined (cut_before begins_logical_line (kept_lines text)).pieces, length-pieces begins_logical_line (kept_lines text), length-kept_lines text)
