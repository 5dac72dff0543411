-- A job is no larger than its text.
use Rattle.std.proofs.Common.{◌≡◌, ℕ, ◌+◌, ◌≤◌, Bool, true, false, cond, List, [], ◌∷◌, length, drop, Option, Some, None, Ok, refl, ap, ◌∙◌, subst, arith, codes}
use Rattle.std.specs.List.{flat_map, cons_option, sum_by, All}
use Rattle.std.specs.Str.{bytes_eq}
use Rattle.std.proofs.lemmas.Bool.{and_parts}
use Rattle.std.proofs.lemmas.List.{length-append, length-drop}
use Rattle.std.proofs.lemmas.List.Sums.{sum_by-cons, get_or-le-sum_by}
use Rattle.std.proofs.lemmas.Slice.Eq.{bytes_eq-Decides}
use Rattle.relay_text.specs.Bytes.{begins_with, trimmed_end, has_text}
use Rattle.relay_text.specs.Lines.{raw_lines, Cut, cut_before}
use Rattle.relay_text.proofs.Sizes.{length-trimmed, length-line_text, total, total-raw_lines}
use Rattle.relay_job.specs.declared.job.Job.{Job}
use Rattle.relay_job.specs.declared.job.JobInclude.{JobInclude}
use Rattle.relay_job.specs.JobText.{JobLine, named, include, section_words, include_path, is_include_heading, job_lines, text_of, is_heading, section_of, content_of, Part, section_bytes, sections_of, job_of}
use Rattle.relay_job.specs.JobText as texts
use Rattle.relay_job.specs.Places.{numbered_from}
use Rattle.relay_job.specs.JobSizes.{include_size, job_size}
use Rattle.relay_job.proofs.SectionFacts.{content_before, part_if, or_later, part_in, part_at-is, include_if, includes_in, includes_of-are}
use Rattle.relay_job.proofs.ParseFacts.{bytes_in, section_bytes-is}
use Rattle.relay_job.proofs.JobFacts.{job_is-sections}

-- how many bytes lines have together, and how many stand for themselves
abbrev lines_size : List JobLine → ℕ
lines_size [] = 0
lines_size (x ∷ xs) = length x.raw + lines_size xs

abbrev content_size : List JobLine → ℕ
content_size lines = length (flat_map (λ (l : JobLine). content_of l.raw) lines)

lines_size-numbered : (number : ℕ) (raws : List (List ℕ)) → lines_size (numbered_from number raws) ≡ total raws
lines_size-numbered number [] = refl
lines_size-numbered number (raw ∷ raws) = ap (λ n. length raw + n) (lines_size-numbered (number + 1) raws)

lines_size-job : (text : List ℕ) → lines_size (job_lines text) ≡ length text
lines_size-job text = lines_size-numbered 1 (raw_lines text) ∙ total-raw_lines text

length-content : (raw : List ℕ) → length (content_of raw) ≤ length raw
length-content raw = at (begins_with (codes "%%") raw) where
  at : (t : Bool) → length (cond t (drop 1 raw) raw) ≤ length raw
  at true = omega (arith, length-drop 1 raw)
  at false = omega arith

-- A heading is longer than the path that it names.
some_byte : (text : List ℕ) → begins_with (codes "%") text ≡ true → 1 ≤ length text
some_byte [] h = absurd (let no : ⊥ = cc in no)
some_byte (b ∷ bs) h = omega arith

path_of : (text path : List ℕ) → section_of text ≡ Some (include path) → include_path text ≡ path
path_of text path = at (has_text section_words (trimmed_end text)) (is_include_heading text) where
  at : (a b : Bool) → cond {A = Option texts.Section} a (Some (named (trimmed_end text))) (cond b (Some (include (include_path text))) None) ≡ Some (include path) → include_path text ≡ path
  at true b e = absurd (let no : ⊥ = cc in no)
  at false true e = cc
  at false false e = absurd (let no : ⊥ = cc in no)

path_fits : (x : JobLine) (path : List ℕ) → is_heading x ≡ true → section_of (text_of x) ≡ Some (include path) → length path + 1 ≤ length x.raw
path_fits x path e f =
    let some : 1 ≤ length (text_of x) = some_byte (text_of x) (and_parts _ _ e).0 in
    let is : length (include_path (text_of x)) ≡ length path = ap length (path_of (text_of x) path f) in
    omega (arith, some, is, length-trimmed (drop 8 (text_of x)), length-drop 8 (text_of x), length-line_text x.raw)

-- how many bytes the first section of a word has
abbrev section_size : List ℕ → List JobLine → ℕ
section_size word lines = length (bytes_in (part_in (named word) lines))

abbrev sections_size : List JobLine → ℕ
sections_size lines = section_size (codes "%aliases") lines + section_size (codes "%mailboxes") lines + section_size (codes "%transport") lines + section_size (codes "%mx") lines

abbrev files_size : List JobInclude → ℕ
files_size files = sum_by include_size files + length files

-- a section is one of them at most
chosen : (word : List ℕ) (n a m t x : ℕ)
    → cond (bytes_eq (codes "%aliases") word) n a + cond (bytes_eq (codes "%mailboxes") word) n m + cond (bytes_eq (codes "%transport") word) n t + cond (bytes_eq (codes "%mx") word) n x ≤ n + (a + m + t + x)
chosen word n a m t x = aliases (bytes_eq (codes "%aliases") word) refl where
  Fits : List ℕ → Type 0
  Fits w = cond (bytes_eq (codes "%aliases") w) n a + cond (bytes_eq (codes "%mailboxes") w) n m + cond (bytes_eq (codes "%transport") w) n t + cond (bytes_eq (codes "%mx") w) n x ≤ n + (a + m + t + x)

  same : (w : List ℕ) → bytes_eq w word ≡ true → Fits w → Fits word
  same w e fits = subst (λ (v : List ℕ). Fits v) ((bytes_eq-Decides w word).0 e) fits

  mx : (b : Bool) → bytes_eq (codes "%mx") word ≡ b → bytes_eq (codes "%aliases") word ≡ false → bytes_eq (codes "%mailboxes") word ≡ false → bytes_eq (codes "%transport") word ≡ false → Fits word
  mx true e f g h = same (codes "%mx") e (omega arith)
  mx false e f g h = rw (e, f, g, h) (omega arith)

  transport : (b : Bool) → bytes_eq (codes "%transport") word ≡ b → bytes_eq (codes "%aliases") word ≡ false → bytes_eq (codes "%mailboxes") word ≡ false → Fits word
  transport true e f g = same (codes "%transport") e (omega arith)
  transport false e f g = mx (bytes_eq (codes "%mx") word) refl f g e

  mailboxes : (b : Bool) → bytes_eq (codes "%mailboxes") word ≡ b → bytes_eq (codes "%aliases") word ≡ false → Fits word
  mailboxes true e f = same (codes "%mailboxes") e (omega arith)
  mailboxes false e f = transport (bytes_eq (codes "%transport") word) refl f e

  aliases : (b : Bool) → bytes_eq (codes "%aliases") word ≡ b → Fits word
  aliases true e = same (codes "%aliases") e (omega arith)
  aliases false e = mailboxes (bytes_eq (codes "%mailboxes") word) refl e

-- What the lines before the next heading, the sections and the include files have is in the lines.
parts_fit : (lines : List JobLine) → sections_size lines + files_size (includes_in lines) + content_size (content_before lines) ≤ lines_size lines
parts_fit [] = omega arith
parts_fit (x ∷ xs) = at (is_heading x) refl (parts_fit xs) where
  part_by : List ℕ → Option texts.Section → Option Part
  part_by word o = or_later (part_if (named word) x (content_before xs) o) (part_in (named word) xs)

  size_by : List ℕ → Option texts.Section → ℕ
  size_by word o = length (bytes_in (part_by word o))

  files_by : Option texts.Section → List JobInclude
  files_by o = cons_option (include_if (content_before xs) o) (includes_in xs)

  chosen_size : (b : Bool) (p : Part) (later : Option Part) → length (bytes_in (or_later (cond b (Some p) None) later)) ≡ cond b (length (bytes_in (Some p))) (length (bytes_in later))
  chosen_size true p later = refl
  chosen_size false p later = refl

  by_heading : is_heading x ≡ true → (o : Option texts.Section) → section_of (text_of x) ≡ o → sections_size xs + files_size (includes_in xs) + content_size (content_before xs) ≤ lines_size xs
      → size_by (codes "%aliases") o + size_by (codes "%mailboxes") o + size_by (codes "%transport") o + size_by (codes "%mx") o + files_size (files_by o) + 0 ≤ length x.raw + lines_size xs
  by_heading e None f h = omega (arith, h)
  by_heading e (Some (named word)) f h =
      let p : Part = record { section = named word; number = x.number; lines = content_before xs } in
      let fits = chosen word (content_size (content_before xs)) (section_size (codes "%aliases") xs) (section_size (codes "%mailboxes") xs) (section_size (codes "%transport") xs) (section_size (codes "%mx") xs) in
      omega (arith, h, fits, chosen_size (bytes_eq (codes "%aliases") word) p (part_in (named (codes "%aliases")) xs), chosen_size (bytes_eq (codes "%mailboxes") word) p (part_in (named (codes "%mailboxes")) xs), chosen_size (bytes_eq (codes "%transport") word) p (part_in (named (codes "%transport")) xs), chosen_size (bytes_eq (codes "%mx") word) p (part_in (named (codes "%mx")) xs))
  by_heading e (Some (include path)) f h =
      omega (arith, h, path_fits x path e f, sum_by-cons include_size (record { path = path; bytes = flat_map (λ (l : JobLine). content_of l.raw) (content_before xs) }) (includes_in xs))

  part_at : List ℕ → Bool → Option Part
  part_at word t = cond t (part_by word (section_of (text_of x))) (part_in (named word) xs)

  cut_at : Bool → Cut JobLine
  cut_at t = cond {A = Cut JobLine} t (record { before = []; pieces = (x ∷ content_before xs) ∷ (cut_before is_heading xs).pieces }) (record { before = x ∷ content_before xs; pieces = (cut_before is_heading xs).pieces })

  at : (t : Bool) → is_heading x ≡ t → sections_size xs + files_size (includes_in xs) + content_size (content_before xs) ≤ lines_size xs
      → length (bytes_in (part_at (codes "%aliases") t)) + length (bytes_in (part_at (codes "%mailboxes") t)) + length (bytes_in (part_at (codes "%transport") t)) + length (bytes_in (part_at (codes "%mx") t))
      + files_size (cond t (files_by (section_of (text_of x))) (includes_in xs)) + content_size (cut_at t).before ≤ length x.raw + lines_size xs
  at true e h = by_heading e (section_of (text_of x)) refl h
  at false e h = omega (arith, h, length-content x.raw, length-append (content_of x.raw) (flat_map (λ (l : JobLine). content_of l.raw) (content_before xs)))

length-section : (text word : List ℕ) → length (section_bytes text word) ≡ section_size word (job_lines text)
length-section text word = ap length (section_bytes-is text word ∙ ap bytes_in (part_at-is text (named word)))

-- the bytes that a job keeps of its sections and include files, and the number of these
pub sections_fit : (text : List ℕ) → job_size (sections_of text) + length (sections_of text).includes ≤ length text
sections_fit text =
    let files : files_size (sections_of text).includes ≡ files_size (includes_in (job_lines text)) = ap files_size (includes_of-are text) in
    omega (
      arith,
      length-section text (codes "%aliases"),
      length-section text (codes "%mailboxes"),
      length-section text (codes "%transport"),
      length-section text (codes "%mx"),
      files,
      parts_fit (job_lines text),
      lines_size-job text,
    )

pub job_fits : (text : List ℕ) (job : Job) → job_of text ≡ Ok job → job_size job + length job.includes ≤ length text
job_fits text job h = subst (λ (j : Job). job_size j + length j.includes ≤ length text) (job_is-sections text job h) (sections_fit text)

-- the path and the bytes of each include file
pub sections_includes_fit : (text : List ℕ) → All (λ i. include_size i ≤ length text) (sections_of text).includes
sections_includes_fit text = λ k d inside. omega (arith, get_or-le-sum_by include_size (sections_of text).includes k d inside, sections_fit text)

pub includes_fit : (text : List ℕ) (job : Job) → job_of text ≡ Ok job → All (λ i. include_size i ≤ length text) job.includes
includes_fit text job h = subst (λ (j : Job). All (λ i. include_size i ≤ length text) j.includes) (job_is-sections text job h) (sections_includes_fit text)
