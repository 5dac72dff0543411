-- The lines of tables and of sections, as texts of their own.
use Rattle.std.proofs.Common.{◌≡◌, ℕ, zero, suc, ◌+◌, ◌-◌, ◌<◌, Bool, true, false, cond, ◌&&◌, ◌||◌, inl, inr, eqb, List, [], ◌∷◌, ◌++◌, length, take, drop, map, get_or, reverse, codes, Some, None, refl, sym, ap, subst, ◌∙◌, arith}
use Rattle.std.specs.List.{Contains, list_any, list_all, onto_first, suffix_len}
use Rattle.std.specs.Str.{bytes_eq}
use Rattle.std.proofs.lemmas.Bool.{eqb-true, true≢false, cases_lt}
use Rattle.std.proofs.lemmas.Slice.Eq.{bytes_eq-Decides}
use Rattle.std.proofs.lemmas.List.{length-take, get_or-reverse}
use Rattle.std.proofs.Math.ListN.{drop_of_length-le}
use Rattle.std.proofs.lemmas.List.Elements.{Contains-append_cases, Contains-push_cases}
use Rattle.std.proofs.lemmas.List.Sums.{prefix_len_passes}
use Rattle.relay_text.specs.Bytes.{is_white, begins_with, trimmed_end, has_text}
use Rattle.relay_text.specs.Lines.{raw_lines}
use Rattle.relay_job.specs.JobText.{JobLine, named, include, same_section, section_words, include_path, is_include_heading, job_lines, text_of, is_heading}
use Rattle.relay_job.specs.JobText as texts
use Rattle.relay_job.specs.Places.{numbered_from}
use Rattle.relay_job.specs.Envelopes.{EndsWithLine, HasNoEnvelope, HasNoHeading}
use Rattle.relay_job.proofs.SectionFacts.{content_before, part_if, or_later, part_in, part_at-is}
use Rattle.relay_job.proofs.JoinedLines.{raw_lines-append, neither-any}
use Rattle.relay_envelopes.specs.Headings.{is_envelope_word, id_of, is_end}
use Rattle.relay_envelopes.specs.Sections.{Section, id_or_none, envelopes_of, begins_envelopes, front_lines, front_of, lines_behind}
use Rattle.relay_envelopes.proofs.SectionFacts.{raw_bytes, raw_bytes-lines, before_cut, before-line, before-none, before-headings, section_at, other-passed, heading-found, end-found}

-- the bytes of each line
abbrev pub raws : List JobLine → List (List ℕ)
raws lines = map (λ (l : JobLine). l.raw) lines

-- Lines are those of the text that they make.
abbrev pub AreLines : List JobLine → Type 0
AreLines lines = raw_lines (raw_bytes lines) ≡ raws lines

raws-numbered : (n : ℕ) (lines : List (List ℕ)) → raws (numbered_from n lines) ≡ lines
raws-numbered n [] = refl
raws-numbered n (l ∷ ls) = ap (λ ls. l ∷ ls) (raws-numbered (n + 1) ls)

pub of-text : (text : List ℕ) → AreLines (job_lines text)
of-text text = ap raw_lines (raw_bytes-lines 1 text) ∙ sym (raws-numbered 1 (raw_lines text))

-- A line with another behind it ends with an LF, and is one line.
abbrev pub IsWhole : List ℕ → Type 0
IsWhole line = EndsWithLine line × (raw_lines line ≡ line ∷ [])

whole-longer : (b : ℕ) (line : List ℕ) → eqb b 10 ≡ false → IsWhole line → IsWhole (b ∷ line)
whole-longer b [] e h = absurd (let no : [] ≡ ([] ∷ []) = h.1 in let never : ⊥ = cc in never)
whole-longer b (c ∷ cs) e h = (h.0, at (eqb b 10) e) where
  at : (t : Bool) → t ≡ false → cond t ((b ∷ []) ∷ raw_lines (c ∷ cs)) (onto_first b (raw_lines (c ∷ cs))) ≡ (b ∷ c ∷ cs) ∷ []
  at true f = absurd (let no : ⊥ = cc in no)
  at false f = ap (onto_first b) h.1

pub first-whole : (text line next : List ℕ) (more : List (List ℕ)) → raw_lines text ≡ line ∷ next ∷ more → IsWhole line
first-whole [] line next more h = absurd (let no : ⊥ = cc in no)
first-whole (b ∷ bs) line next more h = at (eqb b 10) (raw_lines bs) refl h (first-whole bs) where
  at : (t : Bool) (lines : List (List ℕ)) → eqb b 10 ≡ t → cond t ((b ∷ []) ∷ lines) (onto_first b lines) ≡ line ∷ next ∷ more
      → ((l m : List ℕ) (ls : List (List ℕ)) → lines ≡ l ∷ m ∷ ls → IsWhole l) → IsWhole line
  at true lines t e later = let is : line ≡ b ∷ [] = cc in rw is (eqb-true b 10 t, rw t refl)
  at false [] t e later = absurd (let no : ⊥ = cc in no)
  at false (x ∷ []) t e later = absurd (let no : ⊥ = cc in no)
  at false (x ∷ y ∷ zs) t e later = let is : line ≡ b ∷ x = cc in rw is (whole-longer b x t (later x y zs refl))

pub behind-whole : (x : JobLine) (y : JobLine) (ys : List JobLine) → AreLines (x ∷ y ∷ ys) → IsWhole x.raw
behind-whole x y ys h = first-whole (raw_bytes (x ∷ y ∷ ys)) x.raw y.raw (raws ys) h

-- lines behind a line, and before others
pub tail-lines : (x : JobLine) (xs : List JobLine) → AreLines (x ∷ xs) → AreLines xs
tail-lines x [] h = refl
tail-lines x (y ∷ ys) h =
    let whole = behind-whole x y ys h in
    let both : x.raw ∷ raw_lines (raw_bytes (y ∷ ys)) ≡ x.raw ∷ raws (y ∷ ys) = ap (λ l. l ++ raw_lines (raw_bytes (y ∷ ys))) (sym whole.1) ∙ sym (raw_lines-append x.raw (raw_bytes (y ∷ ys)) whole.0) ∙ h in
    ap (drop 1) both

suffix-lines : (xs ys : List JobLine) → AreLines (xs ++ ys) → AreLines ys
suffix-lines [] ys h = h
suffix-lines (x ∷ xs) ys h = suffix-lines xs ys (tail-lines x (xs ++ ys) h)

whole-front : (x : JobLine) (xs : List JobLine) → IsWhole x.raw → AreLines xs → AreLines (x ∷ xs)
whole-front x xs whole h = raw_lines-append x.raw (raw_bytes xs) whole.0 ∙ ap (λ l. l ++ raw_lines (raw_bytes xs)) whole.1 ∙ ap (λ l. x.raw ∷ l) h

prefix-lines : (xs ys : List JobLine) → AreLines (xs ++ ys) → AreLines xs
prefix-lines [] ys h = refl
prefix-lines (x ∷ []) [] h = h
prefix-lines (x ∷ []) (y ∷ ys) h = whole-front x [] (behind-whole x y ys h) refl
prefix-lines (x ∷ y ∷ xs) ys h = whole-front x (y ∷ xs) (behind-whole x y (xs ++ ys) h) (prefix-lines (y ∷ xs) ys (tail-lines x (y ∷ xs ++ ys) h))

-- Lines with another behind them end with a line.
pub ends-append : (a b : List ℕ) → EndsWithLine a → EndsWithLine b → EndsWithLine (a ++ b)
ends-append [] b g h = h
ends-append (x ∷ []) [] g h = g
ends-append (x ∷ []) (y ∷ ys) g h = h
ends-append (x ∷ y ∷ more) b g h = ends-append (y ∷ more) b g h

lines-end : (xs : List JobLine) (y : JobLine) (ys : List JobLine) → AreLines (xs ++ y ∷ ys) → EndsWithLine (raw_bytes xs)
lines-end [] y ys h = tt
lines-end (x ∷ []) y ys h = ends-append x.raw [] (behind-whole x y ys h).0 tt
lines-end (x ∷ z ∷ xs) y ys h = ends-append x.raw (raw_bytes (z ∷ xs)) (behind-whole x z (xs ++ y ∷ ys) h).0 (lines-end (z ∷ xs) y ys (tail-lines x (z ∷ xs ++ y ∷ ys) h))

-- The lines before a piece stand before the others.
cut-parted : (starts : JobLine → Bool) (lines : List JobLine) → lines ≡ before_cut starts lines ++ drop (length (before_cut starts lines)) lines
cut-parted starts [] = refl
cut-parted starts (x ∷ xs) = at (starts x) (cut-parted starts xs) ∙ ap (λ l. l ++ drop (length l) (x ∷ xs)) (sym (before-line starts x xs)) where
  at : (t : Bool) → xs ≡ before_cut starts xs ++ drop (length (before_cut starts xs)) xs → x ∷ xs ≡ cond t [] (x ∷ before_cut starts xs) ++ drop (length (cond t [] (x ∷ before_cut starts xs))) (x ∷ xs)
  at true h = refl
  at false h = ap (λ l. x ∷ l) h

text-parted : (text : List ℕ) → AreLines (front_lines text ++ lines_behind text)
text-parted text = subst (λ (ls : List JobLine). AreLines ls) (cut-parted begins_envelopes (job_lines text)) (of-text text)

pub front-ends : (text : List ℕ) (line : JobLine) → Contains (lines_behind text) line → EndsWithLine (front_of text)
front-ends text line h = at (lines_behind text) h (text-parted text) where
  at : (behind : List JobLine) → Contains behind line → AreLines (front_lines text ++ behind) → EndsWithLine (front_of text)
  at [] g lines = absurd (let no : ⊥ = omega (arith, g.1) in no)
  at (y ∷ ys) g lines = lines-end (front_lines text) y ys lines

-- The lines of a section, as a text of their own, are no headings.
same-headings : (n : ℕ) (lines : List JobLine) → list_any is_heading (numbered_from n (raws lines)) ≡ list_any is_heading lines
same-headings n [] = refl
same-headings n (x ∷ xs) = ap (λ t. is_heading x || t) (same-headings (n + 1) xs)

lines-plain : (lines : List JobLine) → AreLines lines → list_any is_heading lines ≡ false → HasNoHeading (raw_bytes lines)
lines-plain lines are h = ap (λ ls. list_any is_heading (numbered_from 1 ls)) are ∙ same-headings 1 lines ∙ h

section-plain : (x : JobLine) (xs : List JobLine) (id : List ℕ) → AreLines xs → HasNoHeading (section_at x id xs).bytes
section-plain x xs id h = lines-plain (before_cut is_heading xs) (prefix-lines _ (drop (length (before_cut is_heading xs)) xs) (subst (λ (ls : List JobLine). AreLines ls) (cut-parted is_heading xs) h)) (before-headings xs)

only-one : (s t : Section) → Contains (s ∷ []) t → s ≡ t
only-one s t h = elim (Contains-push_cases [] s t h) [
  | inl none ↦ absurd (let no : ⊥ = omega (arith, none.1) in no)
  | inr is ↦ is
]

envelopes-plain : (lines : List JobLine) (s : Section) → AreLines lines → Contains (envelopes_of lines) s → HasNoHeading s.bytes
unfolding envelopes_of
envelopes-plain [] s are h = absurd (let no : ⊥ = omega (arith, h.1) in no)
envelopes-plain (x ∷ xs) s are h = at (is_heading x) (is_end (text_of x)) refl refl (envelopes-plain xs s (tail-lines x xs are)) where
  here : Section
  here = section_at x (id_or_none (id_of (text_of x))) xs

  at : (t u : Bool) → is_heading x ≡ t → is_end (text_of x) ≡ u → (Contains (envelopes_of xs) s → HasNoHeading s.bytes) → HasNoHeading s.bytes
  at true true e f later = later (rw (end-found x xs e f) at h)
  at true false e f later = elim (Contains-append_cases (here ∷ []) (envelopes_of xs) s (rw (heading-found x xs e f) at h)) [
    | inl first ↦ (let is : here ≡ s = only-one here s first in subst (λ (q : Section). HasNoHeading q.bytes) is (section-plain x xs (id_or_none (id_of (text_of x))) (tail-lines x xs are)))
    | inr more ↦ later more
  ]
  at false u e f later = later (rw (other-passed x xs e) at h)

pub sections-plain : (text : List ℕ) (s : Section) → Contains (envelopes_of (lines_behind text)) s → HasNoHeading s.bytes
sections-plain text s h = envelopes-plain (lines_behind text) s (suffix-lines (front_lines text) (lines_behind text) (text-parted text)) h

-- A text that is an envelope's word and white space behind it begins the envelopes.
abbrev word : List ℕ
word = codes "%envelope"

one_at : (i : ℕ) (xs : List ℕ) → i < length xs → take 1 (drop i xs) ≡ get_or xs i 0 ∷ []
one_at i [] h = absurd (let no : ⊥ = omega (arith, h) in no)
one_at zero (x ∷ xs) h = refl
one_at (suc i) (x ∷ xs) h = one_at i xs (omega (arith, h))

-- as many bytes as the word has are kept where white space at the end is dropped
kept-word : (text : List ℕ) → trimmed_end text ≡ word → length text - suffix_len is_white text ≡ 9
kept-word text e = omega (arith, ap length e, length-take (length text - suffix_len is_white text) text)

white-first : (text : List ℕ) → trimmed_end text ≡ word → 9 < length text → is_white (get_or text 9 0) ≡ true
white-first text e h =
    let k : ℕ = suffix_len is_white text in
    let kept : length text - k ≡ 9 = kept-word text e in
    let last : is_white (get_or (reverse text) (k - 1) 0) ≡ true = prefix_len_passes is_white (reverse text) (k - 1) 0 (omega (arith, kept, h)) in
    let there : get_or (reverse text) (k - 1) 0 ≡ get_or text (length text - 1 - (k - 1)) 0 = get_or-reverse text (k - 1) 0 (omega (arith, kept, h)) in
    let place : length text - 1 - (k - 1) ≡ 9 = omega (arith, kept, h) in
    ap is_white (sym (there ∙ ap (λ i. get_or text i 0) place)) ∙ last

white-behind : (text : List ℕ) → trimmed_end text ≡ word → list_all is_white (take 1 (drop 9 text)) ≡ true
white-behind text e = elim (cases_lt 9 (length text)) [
  | inl long ↦ ap (list_all is_white) (one_at 9 text long) ∙ rw (white-first text e long) refl
  | inr short ↦ ap (λ l. list_all is_white (take 1 l)) (drop_of_length-le text short)
]

begins-word : (text : List ℕ) → trimmed_end text ≡ word → is_envelope_word text ≡ true
begins-word text e = at (begins_with word text) (list_all is_white (take 1 (drop 9 text))) front (white-behind text e) where
  front : begins_with word text ≡ true
  front = (bytes_eq-Decides (take 9 text) word).1 (ap (λ n. take n text) (sym (kept-word text e)) ∙ e)

  at : (a b : Bool) → a ≡ true → b ≡ true → (a && b) ≡ true
  at a b f g = rw (f, g) refl

other-word : (text : List ℕ) → is_envelope_word text ≡ false → bytes_eq word (trimmed_end text) ≡ false
other-word text e = at (bytes_eq word (trimmed_end text)) refl where
  at : (t : Bool) → bytes_eq word (trimmed_end text) ≡ t → t ≡ false
  at true f = absurd (let has : is_envelope_word text ≡ true = begins-word text (sym ((bytes_eq-Decides word (trimmed_end text)).0 f)) in let no : true ≡ false = sym has ∙ e in true≢false no)
  at false f = refl

-- Lines that begin no envelope are in no envelope's section.
other-part : (x : JobLine) (lines : List JobLine) → is_envelope_word (text_of x) ≡ false → part_if (named word) x lines (texts.section_of (text_of x)) ≡ None
other-part x lines e = at (has_text section_words (trimmed_end (text_of x))) (is_include_heading (text_of x)) (other-word (text_of x) e) where
  at : (b c : Bool) → bytes_eq word (trimmed_end (text_of x)) ≡ false → part_if (named word) x lines (cond b (Some (named (trimmed_end (text_of x)))) (cond c (Some (include (include_path (text_of x)))) None)) ≡ None
  at true c f = rw f refl
  at false true f = refl
  at false false f = refl

unnamed-lines : (n : ℕ) (lines : List JobLine) → list_any begins_envelopes lines ≡ false → part_in (named word) (numbered_from n (raws lines)) ≡ None
unnamed-lines n [] h = refl
unnamed-lines n (x ∷ xs) h = at (is_heading x) (is_envelope_word (text_of x)) (neither-any (begins_envelopes x) (list_any begins_envelopes xs) h).0 (other-part here behind) (unnamed-lines (n + 1) xs (neither-any (begins_envelopes x) (list_any begins_envelopes xs) h).1) where
  here : JobLine
  here = record { number = n; raw = x.raw }

  behind : List JobLine
  behind = content_before (numbered_from (n + 1) (raws xs))

  at : (a b : Bool) → (a && b) ≡ false → (b ≡ false → part_if (named word) here behind (texts.section_of (text_of x)) ≡ None) → part_in (named word) (numbered_from (n + 1) (raws xs)) ≡ None
      → cond a (or_later (part_if (named word) here behind (texts.section_of (text_of x))) (part_in (named word) (numbered_from (n + 1) (raws xs)))) (part_in (named word) (numbered_from (n + 1) (raws xs))) ≡ None
  at true b e other later = ap (λ o. or_later o (part_in (named word) (numbered_from (n + 1) (raws xs)))) (other e) ∙ later
  at false b e other later = later

pub front-unnamed : (text : List ℕ) → HasNoEnvelope (front_of text)
front-unnamed text =
    part_at-is (front_of text) (named word)
    ∙ ap (λ ls. part_in (named word) (numbered_from 1 ls)) (prefix-lines (front_lines text) (lines_behind text) (text-parted text))
    ∙ unnamed-lines 1 (front_lines text) (before-none begins_envelopes (job_lines text))
