-- The lines of a text that is made of headings and the lines of files.
use Rattle.std.proofs.Common.{◌≡◌, ℕ, ◌+◌, Bool, true, false, not, cond, eqb, ◌&&◌, ◌||◌, ◌==◌, List, [], ◌∷◌, ◌++◌, length, take, map, codes, Option, Some, None, refl, sym, ap, subst, ◌∙◌, append_assoc, arith, suc}
use Rattle.std.specs.List.{flat_map, filter_map, list_any, before_first, onto_first, cons_option, slice_get}
use Rattle.std.proofs.lemmas.Bool.Decides.{Decides-eqb}
use Rattle.std.proofs.lemmas.List.Folds.{list_any-append}
use Rattle.relay_text.specs.Bytes.{begins_with, each_after, first_of}
use Rattle.relay_text.specs.Lines.{raw_lines, line_text, without_cr, Cut, cut_before}
use Rattle.relay_job.specs.declared.job.JobInclude.{JobInclude}
use Rattle.relay_job.specs.JobText.{JobLine, named, include, same_section, job_lines, text_of, is_heading, content_of, section_of, has_section, breaks_job, bad_job, Part, part_of, parts_of, part_bytes, section_bytes, included, sections_of}
use Rattle.relay_job.specs.JobText as texts
use Rattle.relay_job.specs.Places.{numbered_from}
use Rattle.relay_gather.specs.Sections.{with_end, section_body, section_text}
use Rattle.relay_gather.specs.Gathered.{percent}
use Rattle.relay_gather.proofs.Lines.{HasNoEnd, AllPlain, marked_line, closed_line, percent_plain, has_texts}

-- ---- lines without their ends
pub take_one : (n b : ℕ) (bs : List ℕ) → take (1 + n) (b ∷ bs) ≡ b ∷ take n bs
take_one n b bs = ap (λ k. take k (b ∷ bs)) (let e : 1 + n ≡ suc n = omega arith in e)

pub before_end : (text : List ℕ) → HasNoEnd text → before_first (λ b. b == 10) (text ++ 10 ∷ []) ≡ text
before_end [] h = refl
before_end (b ∷ bs) h = rw h.0 (take_one _ b (bs ++ 10 ∷ []) ∙ ap (λ t. b ∷ t) (before_end bs h.1))

line_text-closed : (text : List ℕ) → HasNoEnd text → line_text (closed_line text) ≡ without_cr text
line_text-closed text h = ap without_cr (before_end text h)

pub raw_first : (text rest : List ℕ) → HasNoEnd text → raw_lines (text ++ 10 ∷ rest) ≡ closed_line text ∷ raw_lines rest
raw_first [] rest h = refl
raw_first (b ∷ bs) rest h = rw h.0 (ap (onto_first b) (raw_first bs rest h.1))

raw_marked : (ts : List (List ℕ)) (rest : List ℕ) → AllPlain ts → raw_lines (flat_map marked_line ts ++ rest) ≡ map marked_line ts ++ raw_lines rest
raw_marked [] rest h = refl
raw_marked (t ∷ ts) rest h =
    let text : List ℕ = percent t ++ t in
    ap raw_lines (append_assoc (marked_line t) (flat_map marked_line ts) rest ∙ append_assoc text (10 ∷ []) (flat_map marked_line ts ++ rest))
    ∙ raw_first text (flat_map marked_line ts ++ rest) (percent_plain t t h.0)
    ∙ ap (λ ls. marked_line t ∷ ls) (raw_marked ts rest h.1)

-- ---- lines of files
abbrev pub heads : List ℕ → Bool
heads text = begins_with (codes "%") text && not (begins_with (codes "%%") text)

heads-cr : (text : List ℕ) → heads text ≡ false → heads (without_cr text) ≡ false
heads-cr [] h = refl
heads-cr (b ∷ []) h = at (eqb b 13) where
  at : (t : Bool) → heads (cond t [] (b ∷ [])) ≡ false
  at true = refl
  at false = h
heads-cr (b ∷ c ∷ []) h = at (eqb c 13) refl where
  at : (t : Bool) → eqb c 13 ≡ t → heads (b ∷ cond t [] (c ∷ [])) ≡ false
  at false e = h
  at true e = other (eqb c 37) refl h where
    other : (u : Bool) → eqb c 37 ≡ u → ((eqb b 37 && true) && not (eqb b 37 && (u && true))) ≡ false → ((eqb b 37 && true) && not (eqb b 37 && false)) ≡ false
    other true f g = absurd (let is : c ≡ 13 = (Decides-eqb c 13).0 e in let is' : c ≡ 37 = (Decides-eqb c 37).0 f in omega (arith, is, is'))
    other false f g = g
heads-cr (b ∷ c ∷ d ∷ ds) h = h

heads-marked : (text : List ℕ) → heads (percent text ++ text) ≡ false
heads-marked [] = refl
heads-marked (b ∷ bs) = at (eqb b 37) refl where
  at : (t : Bool) → eqb b 37 ≡ t → heads (cond (t && true) (37 ∷ []) [] ++ b ∷ bs) ≡ false
  at true e = rw e
  at false e = rw e

content-marked : (text : List ℕ) → content_of (marked_line text) ≡ closed_line text
content-marked [] = refl
content-marked (b ∷ bs) = at (eqb b 37) refl where
  at : (t : Bool) → eqb b 37 ≡ t → content_of ((cond (t && true) (37 ∷ []) [] ++ b ∷ bs) ++ 10 ∷ []) ≡ closed_line (b ∷ bs)
  at true e = rw e
  at false e = rw e

other_line : (l : JobLine) (text : List ℕ) → l.raw ≡ marked_line text → HasNoEnd text → is_heading l ≡ false
other_line l text e h = ap heads (ap line_text e ∙ line_text-closed (percent text ++ text) (percent_plain text text h)) ∙ heads-cr (percent text ++ text) (heads-marked text)

abbrev pub AllOther : List JobLine → Type 0
AllOther [] = Unit {0}
AllOther (l ∷ ls) = (is_heading l ≡ false) × AllOther ls

abbrev raw_of : JobLine → List ℕ
raw_of l = l.raw

others : (body : List JobLine) (ts : List (List ℕ)) → map raw_of body ≡ map marked_line ts → AllPlain ts → AllOther body
others [] ts e h = tt
others (l ∷ ls) [] e h = absurd (let no : ⊥ = cc in no)
others (l ∷ ls) (t ∷ ts) e h = (other_line l t (let is : l.raw ≡ marked_line t = cc in is) h.0, others ls ts (let is : map raw_of ls ≡ map marked_line ts = cc in is) h.1)

contents : (body : List JobLine) (ts : List (List ℕ)) → map raw_of body ≡ map marked_line ts → flat_map (λ (l : JobLine). content_of l.raw) body ≡ flat_map closed_line ts
contents [] [] e = refl
contents [] (t ∷ ts) e = absurd (let no : ⊥ = cc in no)
contents (l ∷ ls) [] e = absurd (let no : ⊥ = cc in no)
contents (l ∷ ls) (t ∷ ts) e =
    let here : l.raw ≡ marked_line t = cc in
    let more : map raw_of ls ≡ map marked_line ts = cc in
    ap (λ r. content_of r ++ flat_map (λ (x : JobLine). content_of x.raw) ls) here
    ∙ ap (λ r. r ++ flat_map (λ (x : JobLine). content_of x.raw) ls) (content-marked t) ∙ ap (λ r. closed_line t ++ r) (contents ls ts more)

-- ---- numbers
numbered-append : (n : ℕ) (xs ys : List (List ℕ)) → numbered_from n (xs ++ ys) ≡ numbered_from n xs ++ numbered_from (n + length xs) ys
numbered-append n [] ys = ap (λ k. numbered_from k ys) (let e : n ≡ n + 0 = omega arith in e)
numbered-append n (x ∷ xs) ys =
    ap (λ (ls : List JobLine). record { number = n; raw = x } ∷ ls)
    (numbered-append (n + 1) xs ys ∙ ap (λ k. numbered_from (n + 1) xs ++ numbered_from k ys) (let e : n + 1 + length xs ≡ n + length (x ∷ xs) = omega arith in e))

numbered-raws : (n : ℕ) (xs : List (List ℕ)) → map raw_of (numbered_from n xs) ≡ xs
numbered-raws n [] = refl
numbered-raws n (x ∷ xs) = ap (λ ls. x ∷ ls) (numbered-raws (n + 1) xs)

-- ---- the pieces of a text
-- a section and its file
pub record Piece : Type 0 where
  pub section : texts.Section
  pub file : List ℕ

abbrev pub heading_of : texts.Section → List ℕ
heading_of (named word) = word
heading_of (include path) = codes "%include " ++ path

abbrev pub piece_text : Piece → List ℕ
piece_text p = section_text (heading_of p.section) p.file

pub record IsHeading (s : texts.Section) : Type 0 where
  pub plain : HasNoEnd (heading_of s)
  pub starts : heads (without_cr (heading_of s)) ≡ true
  pub names : section_of (without_cr (heading_of s)) ≡ Some s

abbrev pub AllHeadings : List Piece → Type 0
AllHeadings [] = Unit {0}
AllHeadings (p ∷ ps) = IsHeading p.section × AllHeadings ps

record PieceLines (p : Piece) (ls later : List JobLine) : Type 0 where
  pub heading : JobLine
  pub body : List JobLine
  pub is : ls ≡ heading ∷ (body ++ later)
  pub raw : heading.raw ≡ closed_line (heading_of p.section)
  pub raws : map raw_of body ≡ map marked_line (has_texts p.file).texts

abbrev AreLinesOf : List Piece → List JobLine → Type 0
AreLinesOf [] ls = ls ≡ []
AreLinesOf (p ∷ ps) ls = (later : List JobLine) × PieceLines p ls later × AreLinesOf ps later

raw_piece : (p : Piece) (rest : List ℕ) → HasNoEnd (heading_of p.section) → raw_lines (piece_text p ++ rest) ≡ closed_line (heading_of p.section) ∷ (map marked_line (has_texts p.file).texts ++ raw_lines rest)
raw_piece p rest h =
    ap raw_lines (append_assoc (heading_of p.section) (10 ∷ section_body p.file) rest) ∙ raw_first (heading_of p.section) (section_body p.file ++ rest) h
    ∙ ap (λ t. closed_line (heading_of p.section) ∷ raw_lines (t ++ rest)) (has_texts p.file).body
    ∙ ap (λ ls. closed_line (heading_of p.section) ∷ ls) (raw_marked (has_texts p.file).texts rest (has_texts p.file).plain)

lines_of : (n : ℕ) (ps : List Piece) → AllHeadings ps → AreLinesOf ps (numbered_from n (raw_lines (flat_map piece_text ps)))
lines_of n [] h = refl
lines_of n (p ∷ ps) h =
    let ms : List (List ℕ) = map marked_line (has_texts p.file).texts in
    let rest : List ℕ = flat_map piece_text ps in
    let later : List JobLine = numbered_from (n + 1 + length ms) (raw_lines rest) in (
      later,
      record {
        heading = record { number = n; raw = closed_line (heading_of p.section) };
        body = numbered_from (n + 1) ms;
        is = ap (numbered_from n) (raw_piece p rest h.0.plain)
            ∙ ap (λ (ls : List JobLine). record { number = n; raw = closed_line (heading_of p.section) } ∷ ls) (numbered-append (n + 1) ms (raw_lines rest));
        raw = refl;
        raws = numbered-raws (n + 1) ms;
      },
      lines_of (n + 1 + length ms) ps h.1,
    )

-- ---- a heading and the lines behind it
heading_text : (l : JobLine) (s : texts.Section) → l.raw ≡ closed_line (heading_of s) → IsHeading s → text_of l ≡ without_cr (heading_of s)
heading_text l s e h = ap line_text e ∙ line_text-closed (heading_of s) h.plain

heading_is : (l : JobLine) (s : texts.Section) → l.raw ≡ closed_line (heading_of s) → IsHeading s → is_heading l ≡ true
heading_is l s e h = ap heads (heading_text l s e h) ∙ h.starts

heading_names : (l : JobLine) (s : texts.Section) → l.raw ≡ closed_line (heading_of s) → IsHeading s → section_of (text_of l) ≡ Some s
heading_names l s e h = ap section_of (heading_text l s e h) ∙ h.names

body_bytes : (p : Piece) (ls later : List JobLine) (h : PieceLines p ls later) → flat_map (λ (l : JobLine). content_of l.raw) h.body ≡ with_end p.file
body_bytes p ls later h = contents h.body (has_texts p.file).texts h.raws ∙ sym (has_texts p.file).ended

body_others : (p : Piece) (ls later : List JobLine) (h : PieceLines p ls later) → AllOther h.body
body_others p ls later h = others h.body (has_texts p.file).texts h.raws (has_texts p.file).plain

-- ---- lines cut at their headings
abbrev cut_at : Bool → JobLine → Cut JobLine → Cut JobLine
cut_at heads_one x rest = cond heads_one (record { before = []; pieces = (x ∷ rest.before) ∷ rest.pieces }) (record { before = x ∷ rest.before; pieces = rest.pieces })

cut_heading : (x : JobLine) (xs : List JobLine) → is_heading x ≡ true → cut_before is_heading (x ∷ xs) ≡ record { before = []; pieces = (x ∷ (cut_before is_heading xs).before) ∷ (cut_before is_heading xs).pieces }
cut_heading x xs e = ap (λ (t : Bool). cut_at t x (cut_before is_heading xs)) e

cut_other : (x : JobLine) (xs : List JobLine) → is_heading x ≡ false → cut_before is_heading (x ∷ xs) ≡ record { before = x ∷ (cut_before is_heading xs).before; pieces = (cut_before is_heading xs).pieces }
cut_other x xs e = ap (λ (t : Bool). cut_at t x (cut_before is_heading xs)) e

cut_body : (body later : List JobLine) → AllOther body → (cut_before is_heading later).before ≡ [] → cut_before is_heading (body ++ later) ≡ record { before = body; pieces = (cut_before is_heading later).pieces }
cut_body [] later h e = ap (λ (ls : List JobLine). record { before = ls; pieces = (cut_before is_heading later).pieces }) e
cut_body (l ∷ ls) later h e =
    cut_other l (ls ++ later) h.0
    ∙ ap (λ (c : Cut JobLine). record { before = l ∷ c.before; pieces = c.pieces }) (cut_body ls later h.1 e)

heading_first : (ps : List Piece) (ls : List JobLine) → AllHeadings ps → AreLinesOf ps ls → (cut_before is_heading ls).before ≡ []
heading_first [] ls h e = ap (λ (xs : List JobLine). (cut_before is_heading xs).before) e
heading_first (p ∷ ps) ls h e =
    ap (λ (xs : List JobLine). (cut_before is_heading xs).before) e.1.is
    ∙ ap (λ (c : Cut JobLine). c.before) (cut_heading e.1.heading (e.1.body ++ e.0) (heading_is e.1.heading p.section e.1.raw h.0))

-- ---- the parts of a job are the pieces
record IsPiece (p : Piece) (part : Part) : Type 0 where
  pub section : part.section ≡ p.section
  pub bytes : part_bytes part ≡ with_end p.file

abbrev ArePieces : List Piece → List Part → Type 0
ArePieces [] parts = parts ≡ []
ArePieces (p ∷ ps) [] = ⊥
ArePieces (p ∷ ps) (part ∷ parts) = IsPiece p part × ArePieces ps parts

abbrev parts_in : List JobLine → List Part
parts_in ls = filter_map part_of (cut_before is_heading ls).pieces

part_is : (x : JobLine) (xs : List JobLine) (s : texts.Section) → section_of (text_of x) ≡ Some s → part_of (x ∷ xs) ≡ Some (record { section = s; number = x.number; lines = xs })
part_is x xs s e = rw e

parts_are : (ps : List Piece) (ls : List JobLine) → AllHeadings ps → AreLinesOf ps ls → ArePieces ps (parts_in ls)
parts_are [] ls h e = ap parts_in e
parts_are (p ∷ ps) ls h e =
    subst (ArePieces (p ∷ ps)) (sym is) (record { section = refl; bytes = body_bytes p ls e.0 e.1 }, parts_are ps e.0 h.1 e.2) where
      is : parts_in ls ≡ record { section = p.section; number = e.1.heading.number; lines = e.1.body } ∷ parts_in e.0
      is =
          ap parts_in e.1.is
          ∙ ap (λ (c : Cut JobLine). filter_map part_of c.pieces) (cut_heading e.1.heading (e.1.body ++ e.0) (heading_is e.1.heading p.section e.1.raw h.0))
          ∙ ap (λ (c : Cut JobLine). filter_map part_of ((e.1.heading ∷ c.before) ∷ c.pieces)) (cut_body e.1.body e.0 (body_others p ls e.0 e.1) (heading_first ps e.0 h.1 e.2))
          ∙ ap (λ (o : Option Part). cons_option o (parts_in e.0)) (part_is e.1.heading e.1.body p.section (heading_names e.1.heading p.section e.1.raw h.0))

-- ---- the bytes of a section
abbrev pub first_file : texts.Section → List Piece → Option (List ℕ)
first_file s [] = None
first_file s (p ∷ ps) = cond (same_section s p.section) (Some p.file) (first_file s ps)

abbrev pub file_bytes : Option (List ℕ) → List ℕ
file_bytes None = []
file_bytes (Some text) = with_end text

abbrev bytes_in : Option Part → List ℕ
bytes_in None = []
bytes_in (Some part) = part_bytes part

abbrev part_among : texts.Section → List Part → Option Part
part_among s parts = first_of (map (λ (q : Part). cond (same_section s q.section) (Some q) None) parts)

bytes_among : (s : texts.Section) (ps : List Piece) (parts : List Part) → ArePieces ps parts → bytes_in (part_among s parts) ≡ file_bytes (first_file s ps)
bytes_among s [] parts e = ap (λ (qs : List Part). bytes_in (part_among s qs)) e
bytes_among s (p ∷ ps) [] e = absurd e
bytes_among s (p ∷ ps) (q ∷ qs) e =
    ap (λ (t : texts.Section). bytes_in (first_of (cond (same_section s t) (Some q) None ∷ map (λ (r : Part). cond (same_section s r.section) (Some r) None) qs))) e.0.section
    ∙ at (same_section s p.section) (bytes_among s ps qs e.1) where
      at : (t : Bool) → bytes_in (part_among s qs) ≡ file_bytes (first_file s ps)
          → bytes_in (first_of (cond t (Some q) None ∷ map (λ (r : Part). cond (same_section s r.section) (Some r) None) qs)) ≡ file_bytes (cond t (Some p.file) (first_file s ps))
      at true later = e.0.bytes
      at false later = later

section_bytes-is : (text word : List ℕ) → section_bytes text word ≡ bytes_in (part_among (named word) (parts_of text))
section_bytes-is text word = at (part_among (named word) (parts_of text)) refl where
  at : (o : Option Part) → part_among (named word) (parts_of text) ≡ o → section_bytes text word ≡ bytes_in o
  at None e = rw e
  at (Some part) e = rw e

-- ---- the include files
abbrev pub include_of : Piece → Option JobInclude
include_of p = include_in p.section where
  include_in : texts.Section → Option JobInclude
  include_in (named word) = None
  include_in (include path) = Some (record { path = path; bytes = with_end p.file })

include_of_part : (p : Piece) (part : Part) → IsPiece p part → included part ≡ include_of p
include_of_part p part e = at p.section refl where
  at : (s : texts.Section) → p.section ≡ s → included part ≡ include_of p
  at (named word) f = rw (e.section, f)
  at (include path) f = rw (e.section, f, e.bytes)

includes_are : (ps : List Piece) (parts : List Part) → ArePieces ps parts → filter_map included parts ≡ filter_map include_of ps
includes_are [] parts e = ap (filter_map included) e
includes_are (p ∷ ps) [] e = absurd e
includes_are (p ∷ ps) (q ∷ qs) e =
    ap (λ (o : Option JobInclude). cons_option o (filter_map included qs)) (include_of_part p q e.0)
    ∙ ap (cons_option (include_of p)) (includes_are ps qs e.1)

-- ---- no line breaks the job
abbrev pub NoRepeats : List texts.Section → List Piece → Type 0
NoRepeats known [] = Unit {0}
NoRepeats known (p ∷ ps) = (list_any (same_section p.section) known ≡ false) × NoRepeats (p.section ∷ known) ps

abbrev Knows : List JobLine → List texts.Section → Type 0
Knows done known = (s : texts.Section) → has_section done s ≡ list_any (same_section s) known

or_false : (b : Bool) → (b || false) ≡ b
or_false true = refl
or_false false = refl

or_true : (b : Bool) → (b || true) ≡ true
or_true true = refl
or_true false = refl

or_swapped : (a b : Bool) → (a || b) ≡ (b || a)
or_swapped true b = sym (or_true b)
or_swapped false b = sym (or_false b)

-- the numbers of the lines that break the job, after those before them
abbrev broken_after : List JobLine → List JobLine → List ℕ
broken_after done rest = each_after (λ earlier x. cond (breaks_job earlier x) (x.number ∷ []) []) done rest

broken_again : (done : List JobLine) (x : JobLine) (s : texts.Section) → is_heading x ≡ true → section_of (text_of x) ≡ Some s → breaks_job done x ≡ has_section done s
broken_again done x s e f = rw (e, f)

seen_heading : (done : List JobLine) (x : JobLine) (s t : texts.Section) → is_heading x ≡ true → section_of (text_of x) ≡ Some t → has_section (done ++ x ∷ []) s ≡ (has_section done s || same_section s t)
seen_heading done x s t e f = list_any-append _ done (x ∷ []) ∙ rw (e, f) (ap (λ (b : Bool). has_section done s || b) (or_false (same_section s t)))

unseen_other : (done : List JobLine) (x : JobLine) (s : texts.Section) → is_heading x ≡ false → has_section (done ++ x ∷ []) s ≡ has_section done s
unseen_other done x s e = list_any-append _ done (x ∷ []) ∙ rw e (or_false (has_section done s))

content_unbroken : (done : List JobLine) (x : JobLine) → is_heading x ≡ false → list_any is_heading done ≡ true → breaks_job done x ≡ false
content_unbroken done x e f = rw (e, f)

started_still : (done : List JobLine) (x : JobLine) → list_any is_heading done ≡ true → list_any is_heading (done ++ x ∷ []) ≡ true
started_still done x e = list_any-append is_heading done (x ∷ []) ∙ rw e

started_by : (done : List JobLine) (x : JobLine) → is_heading x ≡ true → list_any is_heading (done ++ x ∷ []) ≡ true
started_by done x e = list_any-append is_heading done (x ∷ []) ∙ rw e (or_true (list_any is_heading done))

unbroken_line : (done : List JobLine) (x : JobLine) (xs : List JobLine) → breaks_job done x ≡ false → broken_after done (x ∷ xs) ≡ broken_after (done ++ x ∷ []) xs
unbroken_line done x xs e = ap (λ (t : Bool). cond t (x.number ∷ []) [] ++ broken_after (done ++ x ∷ []) xs) e

unbroken_body : (done body later : List JobLine) (known : List texts.Section) → AllOther body → list_any is_heading done ≡ true → Knows done known
    → ((now : List JobLine) → list_any is_heading now ≡ true → Knows now known → broken_after now later ≡ []) → broken_after done (body ++ later) ≡ []
unbroken_body done [] later known h started k next = next done started k
unbroken_body done (x ∷ xs) later known h started k next =
    unbroken_line done x (xs ++ later) (content_unbroken done x h.0 started)
    ∙ unbroken_body (done ++ x ∷ []) xs later known h.1 (started_still done x started) (λ s. unseen_other done x s h.0 ∙ k s) next

unbroken : (done : List JobLine) (known : List texts.Section) (ps : List Piece) (ls : List JobLine) → AllHeadings ps → NoRepeats known ps → Knows done known → AreLinesOf ps ls → broken_after done ls ≡ []
unbroken done known [] ls h n k e = ap (broken_after done) e
unbroken done known (p ∷ ps) ls h n k e =
    let x : JobLine = e.1.heading in
    let head : is_heading x ≡ true = heading_is x p.section e.1.raw h.0 in
    let names : section_of (text_of x) ≡ Some p.section = heading_names x p.section e.1.raw h.0 in
    ap (broken_after done) e.1.is
    ∙ unbroken_line done x (e.1.body ++ e.0) (broken_again done x p.section head names ∙ k p.section ∙ n.0)
    ∙ unbroken_body (done ++ x ∷ []) e.1.body e.0 (p.section ∷ known) (body_others p ls e.0 e.1) (started_by done x head)
    (λ s. seen_heading done x s p.section head names ∙ ap (λ (t : Bool). t || same_section s p.section) (k s) ∙ or_swapped (list_any (same_section s) known) (same_section s p.section))
    (λ now started knows. unbroken now (p.section ∷ known) ps e.0 h.1 n.1 knows e.2)

-- ---- of a text
module _ (ps : List Piece) (text : List ℕ) (is : text ≡ flat_map piece_text ps) (h : AllHeadings ps) where
  are_lines : AreLinesOf ps (job_lines text)
  are_lines = subst (λ (t : List ℕ). AreLinesOf ps (job_lines t)) (sym is) (lines_of 1 ps h)

  are_parts : ArePieces ps (parts_of text)
  are_parts = parts_are ps (job_lines text) h are_lines

  pub text_section : (word : List ℕ) → section_bytes text word ≡ file_bytes (first_file (named word) ps)
  text_section word = section_bytes-is text word ∙ bytes_among (named word) ps (parts_of text) are_parts

  pub text_unbroken : NoRepeats [] ps → bad_job text ≡ None
  text_unbroken n = ap (λ (ns : List ℕ). slice_get ns 0) (unbroken [] [] ps (job_lines text) h n (λ s. refl) are_lines)

  pub text_includes : (sections_of text).includes ≡ filter_map include_of ps
  text_includes = includes_are ps (parts_of text) are_parts
