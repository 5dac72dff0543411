-- The lines of tables with an envelope's section behind them.
use Rattle.std.proofs.Common.{◌≡◌, ℕ, ◌+◌, Bool, true, false, cond, ◌||◌, eqb, List, [], ◌∷◌, ◌++◌, length, codes, Option, Some, None, refl, sym, ap, ◌∙◌, arith}
use Rattle.std.specs.List.{list_any, cons_option, onto_first}
use Rattle.std.proofs.lemmas.List.{append_assoc, append-nil}
use Rattle.std.proofs.lemmas.List.Folds.{list_any-append}
use Rattle.relay_text.specs.Bytes.{each_after}
use Rattle.relay_text.specs.Lines.{raw_lines, Cut, cut_before}
use Rattle.relay_job.specs.declared.job.JobInclude.{JobInclude}
use Rattle.relay_job.specs.JobText.{JobLine, named, same_section, job_lines, text_of, is_heading, section_of, has_section, breaks_job, Part}
use Rattle.relay_job.specs.JobText as texts
use Rattle.relay_job.specs.Places.{numbered_from}
use Rattle.relay_job.specs.Envelopes.{EndsWithLine, joined_text}
use Rattle.relay_job.proofs.SectionFacts.{content_before, part_if, or_later, part_in, include_if, includes_in, broken_after}

-- A text is cut into lines as its two parts are, where the first ends with a line.
pub some_line : (b : ℕ) (bs : List ℕ) → raw_lines (b ∷ bs) ≡ [] → ⊥
some_line b bs = at (eqb b 10) (raw_lines bs) where
  at : (t : Bool) (lines : List (List ℕ)) → cond t ((b ∷ []) ∷ lines) (onto_first b lines) ≡ [] → ⊥
  at true lines h = cc
  at false [] h = cc
  at false (l ∷ lines) h = cc

onto_first-append : (b : ℕ) (lines more : List (List ℕ)) → (lines ≡ [] → ⊥) → onto_first b (lines ++ more) ≡ onto_first b lines ++ more
onto_first-append b [] more some = absurd (some refl)
onto_first-append b (l ∷ lines) more some = refl

pub raw_lines-append : (xs ys : List ℕ) → EndsWithLine xs → raw_lines (xs ++ ys) ≡ raw_lines xs ++ raw_lines ys
raw_lines-append [] ys h = refl
raw_lines-append (x ∷ []) ys h = rw h refl
raw_lines-append (x ∷ y ∷ more) ys h = at (eqb x 10) (raw_lines-append (y ∷ more) ys h) where
  at : (t : Bool) → raw_lines (y ∷ more ++ ys) ≡ raw_lines (y ∷ more) ++ raw_lines ys
      → cond t ((x ∷ []) ∷ raw_lines (y ∷ more ++ ys)) (onto_first x (raw_lines (y ∷ more ++ ys))) ≡ cond t ((x ∷ []) ∷ raw_lines (y ∷ more)) (onto_first x (raw_lines (y ∷ more))) ++ raw_lines ys
  at true later = ap (λ (lines : List (List ℕ)). (x ∷ []) ∷ lines) later
  at false later = ap (onto_first x) later ∙ onto_first-append x (raw_lines (y ∷ more)) (raw_lines ys) (some_line y more)

pub numbered_from-append : (number behind : ℕ) (xs ys : List (List ℕ)) → number + length xs ≡ behind → numbered_from number (xs ++ ys) ≡ numbered_from number xs ++ numbered_from behind ys
numbered_from-append number behind [] ys e = let same : number ≡ behind = omega (arith, e) in rw same refl
numbered_from-append number behind (x ∷ xs) ys e = ap (λ (lines : List JobLine). record { number = number; raw = x } ∷ lines) (numbered_from-append (number + 1) behind xs ys (omega (arith, e)))

-- The heading between them, and what stands behind it.
abbrev pub heading_behind : List ℕ → JobLine
heading_behind front = record { number = length (raw_lines front) + 1; raw = codes "%envelope" ++ 10 ∷ [] }

abbrev pub lines_behind : List ℕ → List ℕ → List JobLine
lines_behind front section = numbered_from (length (raw_lines front) + 1 + 1) (raw_lines section)

pub joined_lines : (front section : List ℕ) → EndsWithLine front → job_lines (joined_text front section) ≡ job_lines front ++ heading_behind front ∷ lines_behind front section
joined_lines front section h =
    ap (numbered_from 1) (raw_lines-append front (codes "%envelope" ++ 10 ∷ section) h)
    ∙ numbered_from-append 1 (length (raw_lines front) + 1) (raw_lines front) ((codes "%envelope" ++ 10 ∷ []) ∷ raw_lines section) (omega arith)

-- Whether a line is a heading doesn't depend on its number.
pub renumbered-headings : (number other : ℕ) (raws : List (List ℕ)) → list_any is_heading (numbered_from number raws) ≡ list_any is_heading (numbered_from other raws)
renumbered-headings number other [] = refl
renumbered-headings number other (raw ∷ raws) = ap (λ t. is_heading (record { number = number; raw = raw }) || t) (renumbered-headings (number + 1) (other + 1) raws)

-- Lines without a heading are one section's, and break nothing behind a heading.
pub neither-any : (a b : Bool) → (a || b) ≡ false → (a ≡ false) × (b ≡ false)
neither-any true b h = absurd (let no : ⊥ = cc in no)
neither-any false b h = (refl, h)

pub cut_before-plain : (lines : List JobLine) → list_any is_heading lines ≡ false → cut_before is_heading lines ≡ record { before = lines; pieces = [] }
cut_before-plain [] h = refl
cut_before-plain (x ∷ xs) h =
    let p = neither-any (is_heading x) (list_any is_heading xs) h in
    rw (p.0, cut_before-plain xs p.1) refl

pub part_in-plain : (s : texts.Section) (lines : List JobLine) → list_any is_heading lines ≡ false → part_in s lines ≡ None
part_in-plain s [] h = refl
part_in-plain s (x ∷ xs) h =
    let p = neither-any (is_heading x) (list_any is_heading xs) h in
    rw p.0 (part_in-plain s xs p.1)

pub includes_in-plain : (lines : List JobLine) → list_any is_heading lines ≡ false → includes_in lines ≡ []
includes_in-plain [] h = refl
includes_in-plain (x ∷ xs) h =
    let p = neither-any (is_heading x) (list_any is_heading xs) h in
    rw p.0 (includes_in-plain xs p.1)

still_started : (done : List JobLine) (x : JobLine) → list_any is_heading done ≡ true → list_any is_heading (done ++ x ∷ []) ≡ true
still_started done x h = list_any-append is_heading done (x ∷ []) ∙ rw h refl

pub broken_after-plain : (done lines : List JobLine) → list_any is_heading done ≡ true → list_any is_heading lines ≡ false → broken_after done lines ≡ []
broken_after-plain done [] started h = refl
broken_after-plain done (x ∷ xs) started h =
    let p = neither-any (is_heading x) (list_any is_heading xs) h in
    rw (p.0, started) (broken_after-plain (done ++ x ∷ []) xs (still_started done x started) p.1)

-- Lines before a heading, and those from it on.
module _ (h : JobLine) (behind : List JobLine) (e : is_heading h ≡ true) where
  content_before-append : (lines : List JobLine) → content_before (lines ++ h ∷ behind) ≡ content_before lines
  content_before-append [] = rw (e, content_before) refl
  content_before-append (x ∷ xs) = at (is_heading x) (content_before-append xs) where
    at : (t : Bool) → content_before (xs ++ h ∷ behind) ≡ content_before xs
        → (cond {A = Cut JobLine} t (record { before = []; pieces = (x ∷ content_before (xs ++ h ∷ behind)) ∷ (cut_before is_heading (xs ++ h ∷ behind)).pieces }) (record { before = x ∷ content_before (xs ++ h ∷ behind); pieces = (cut_before is_heading (xs ++ h ∷ behind)).pieces })).before
        ≡ (cond {A = Cut JobLine} t (record { before = []; pieces = (x ∷ content_before xs) ∷ (cut_before is_heading xs).pieces }) (record { before = x ∷ content_before xs; pieces = (cut_before is_heading xs).pieces })).before
    at true later = refl
    at false later = ap (λ (lines : List JobLine). x ∷ lines) later

  or_later-assoc : (a b c : Option Part) → or_later a (or_later b c) ≡ or_later (or_later a b) c
  or_later-assoc None b c = refl
  or_later-assoc (Some p) b c = refl

  pub part_in-append : (s : texts.Section) (lines : List JobLine) → part_in s (lines ++ h ∷ behind) ≡ or_later (part_in s lines) (part_in s (h ∷ behind))
  part_in-append s [] = refl
  part_in-append s (x ∷ xs) = at (is_heading x) (part_in-append s xs) (content_before-append xs) where
    here : List JobLine → Option Part
    here content = part_if s x content (section_of (text_of x))

    at : (t : Bool) → part_in s (xs ++ h ∷ behind) ≡ or_later (part_in s xs) (part_in s (h ∷ behind)) → content_before (xs ++ h ∷ behind) ≡ content_before xs
        → cond t (or_later (part_if s x (content_before (xs ++ h ∷ behind)) (section_of (text_of x))) (part_in s (xs ++ h ∷ behind))) (part_in s (xs ++ h ∷ behind))
        ≡ or_later (cond t (or_later (part_if s x (content_before xs) (section_of (text_of x))) (part_in s xs)) (part_in s xs)) (part_in s (h ∷ behind))
    at true later same = ap (λ (content : List JobLine). or_later (part_if s x content (section_of (text_of x))) (part_in s (xs ++ h ∷ behind))) same
        ∙ ap (or_later (part_if s x (content_before xs) (section_of (text_of x)))) later
        ∙ or_later-assoc (part_if s x (content_before xs) (section_of (text_of x))) (part_in s xs) (part_in s (h ∷ behind))
    at false later same = later

  cons_option-append : (o : Option JobInclude) (files more : List JobInclude) → cons_option o (files ++ more) ≡ cons_option o files ++ more
  cons_option-append None files more = refl
  cons_option-append (Some i) files more = refl

  pub includes_in-append : (lines : List JobLine) → includes_in (lines ++ h ∷ behind) ≡ includes_in lines ++ includes_in (h ∷ behind)
  includes_in-append [] = refl
  includes_in-append (x ∷ xs) = at (is_heading x) (includes_in-append xs) (content_before-append xs) where
    at : (t : Bool) → includes_in (xs ++ h ∷ behind) ≡ includes_in xs ++ includes_in (h ∷ behind) → content_before (xs ++ h ∷ behind) ≡ content_before xs
        → cond t (cons_option (include_if (content_before (xs ++ h ∷ behind)) (section_of (text_of x))) (includes_in (xs ++ h ∷ behind))) (includes_in (xs ++ h ∷ behind))
        ≡ cond t (cons_option (include_if (content_before xs) (section_of (text_of x))) (includes_in xs)) (includes_in xs) ++ includes_in (h ∷ behind)
    at true later same = ap (λ (content : List JobLine). cons_option (include_if content (section_of (text_of x))) (includes_in (xs ++ h ∷ behind))) same
        ∙ ap (cons_option (include_if (content_before xs) (section_of (text_of x)))) later
        ∙ cons_option-append (include_if (content_before xs) (section_of (text_of x))) (includes_in xs) (includes_in (h ∷ behind))
    at false later same = later

pub each_after-append : {X Y : Type 0} (f : List X → X → List Y) (before xs ys : List X) → each_after f before (xs ++ ys) ≡ each_after f before xs ++ each_after f (before ++ xs) ys
each_after-append f before [] ys = ap (λ zs. each_after f zs ys) (sym (append-nil before))
each_after-append f before (x ∷ xs) ys =
    ap (λ zs. f before x ++ zs) (each_after-append f (before ++ x ∷ []) xs ys ∙ ap (λ zs. each_after f (before ++ x ∷ []) xs ++ each_after f zs ys) (append_assoc before (x ∷ []) xs))
    ∙ sym (append_assoc (f before x) (each_after f (before ++ x ∷ []) xs) (each_after f (before ++ x ∷ xs) ys))

-- Lines without a part of a section have no heading of it.
pub has_section-none : (s : texts.Section) (lines : List JobLine) → part_in s lines ≡ None → has_section lines s ≡ false
has_section-none s [] h = refl
has_section-none s (x ∷ xs) h = at (is_heading x) refl (has_section-none s xs) where
  differs : (t : texts.Section) (b : Bool) → is_heading x ≡ true → section_of (text_of x) ≡ Some t → same_section s t ≡ b → (part_in s xs ≡ None → has_section xs s ≡ false) → has_section (x ∷ xs) s ≡ false
  differs t true e f g later = let other = rw (e, f, g) at h in absurd (let no : ⊥ = cc in no)
  differs t false e f g later = rw (e, f, g) (later (rw (e, f, g) at h))

  named_part : (o : Option texts.Section) → is_heading x ≡ true → section_of (text_of x) ≡ o → (part_in s xs ≡ None → has_section xs s ≡ false) → has_section (x ∷ xs) s ≡ false
  named_part None e f later = rw (e, f) (later (rw (e, f) at h))
  named_part (Some t) e f later = differs t (same_section s t) e f refl later

  at : (t : Bool) → is_heading x ≡ t → (part_in s xs ≡ None → has_section xs s ≡ false) → has_section (x ∷ xs) s ≡ false
  at true e later = named_part (section_of (text_of x)) e refl later
  at false e later = rw e (later (rw e at h))
