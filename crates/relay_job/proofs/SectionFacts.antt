-- How a pass over a job's lines finds its parts, and the first line that breaks it.
use Rattle.std.proofs.Common.{◌≡◌, ℕ, Bool, true, false, not, cond, ◌&&◌, ◌||◌, ◌⊎◌, inl, inr, List, [], ◌∷◌, ◌++◌, map, Option, Some, None, Bor, refl, sym, ap, ◌∙◌, arith}
use Rattle.std.specs.List.{list_any, list_all, filter_map, flat_map, cons_option, slice_get}
use Rattle.std.specs.Option.{option_map, is_some}
use Rattle.std.specs.Str.{bytes_eq}
use Rattle.std.proofs.lemmas.List.{append_assoc, append-nil, map_push}
use Rattle.std.proofs.lemmas.List.Folds.{list_any-append}
use Rattle.relay_text.specs.Bytes.{is_white, each_after, first_of, has_text}
use Rattle.relay_text.specs.Lines.{Cut, cut_before}
use Rattle.relay_job.specs.declared.place.Place.{Place}
use Rattle.relay_job.specs.declared.section.Section.{Section}
use Rattle.relay_job.specs.declared.heading.Heading.{Heading}
use Rattle.relay_job.specs.declared.heading.Heading.TheVariants.{Named, Include}
use Rattle.relay_job.specs.declared.sections.Sections.{Sections}
use Rattle.relay_job.specs.declared.include_place.IncludePlace.{IncludePlace}
use Rattle.relay_job.specs.declared.parts.Parts.{Parts}
use Rattle.relay_job.specs.declared.job.JobInclude.{JobInclude}
use Rattle.relay_job.specs.declared.fault.RunFault.{RunFault}
use Rattle.relay_job.specs.declared.fault.RunFault.TheVariants.{BadJob, Memory}
use Rattle.relay_job.specs.JobParts.{Stops}
use Rattle.relay_job.specs.JobText.{JobLine, named, include, same_section, job_lines, text_of, is_heading, content_of, section_of, has_section, breaks_job, bad_job, Part, part_of, part_at, parts_of, included}
use Rattle.relay_job.specs.JobText as texts
use Rattle.relay_job.specs.Places.{lines_at}
use Rattle.relay_job.specs.SectionPlaces.{word_of, heading_section, place_of, with_place, part_behind, include_at, has_part, HasInclude, HasTaken, IsBadHeading, ArePartsOf}

-- the lines before the next heading
abbrev pub content_before : List JobLine → List JobLine
content_before lines = (cut_before is_heading lines).before

-- the part of a heading, if it is this section
abbrev pub part_if : texts.Section → JobLine → List JobLine → Option texts.Section → Option Part
part_if s heading lines None = None
part_if s heading lines (Some t) = cond (same_section s t) (Some (record { section = t; number = heading.number; lines = lines })) None

abbrev pub or_later : Option Part → Option Part → Option Part
or_later None later = later
or_later (Some p) later = Some p

-- the first part of a section, by the lines in order
abbrev pub part_in : texts.Section → List JobLine → Option Part
part_in s [] = None
part_in s (x ∷ xs) = cond (is_heading x) (or_later (part_if s x (content_before xs) (section_of (text_of x))) (part_in s xs)) (part_in s xs)

abbrev pub pick : texts.Section → List (List JobLine) → Option Part
pick s pieces = first_of (map (λ (p : Part). cond (same_section s p.section) (Some p) None) (filter_map part_of pieces))

pick-cons : (s : texts.Section) (x : JobLine) (xs : List JobLine) (pieces : List (List JobLine)) → pick s ((x ∷ xs) ∷ pieces) ≡ or_later (part_if s x xs (section_of (text_of x))) (pick s pieces)
pick-cons s x xs pieces = at (section_of (text_of x)) where
  chosen : (b : Bool) (p : Part) → first_of (cond b (Some p) None ∷ map (λ (q : Part). cond (same_section s q.section) (Some q) None) (filter_map part_of pieces)) ≡ or_later (cond b (Some p) None) (pick s pieces)
  chosen true p = refl
  chosen false p = refl

  at : (o : Option texts.Section) → first_of (map (λ (p : Part). cond (same_section s p.section) (Some p) None) (cons_option (option_map (λ t. record { section = t; number = x.number; lines = xs }) o) (filter_map part_of pieces))) ≡ or_later (part_if s x xs o) (pick s pieces)
  at None = refl
  at (Some t) = chosen (same_section s t) (record { section = t; number = x.number; lines = xs })

pub pick-is : (s : texts.Section) (lines : List JobLine) → pick s (cut_before is_heading lines).pieces ≡ part_in s lines
pick-is s [] = refl
pick-is s (x ∷ xs) = at (is_heading x) (pick-is s xs) where
  at : (b : Bool) → pick s (cut_before is_heading xs).pieces ≡ part_in s xs → pick s (cond {A = Cut JobLine} b (record { before = []; pieces = (x ∷ content_before xs) ∷ (cut_before is_heading xs).pieces }) (record { before = x ∷ content_before xs; pieces = (cut_before is_heading xs).pieces })).pieces ≡ cond b (or_later (part_if s x (content_before xs) (section_of (text_of x))) (part_in s xs)) (part_in s xs)
  at true later = pick-cons s x (content_before xs) (cut_before is_heading xs).pieces ∙ ap (or_later (part_if s x (content_before xs) (section_of (text_of x)))) later
  at false later = later

pub part_at-is : (text : List ℕ) (s : texts.Section) → part_at text s ≡ part_in s (job_lines text)
part_at-is text s = pick-is s (job_lines text)

-- the include file of a heading, if it names one
abbrev pub include_if : List JobLine → Option texts.Section → Option JobInclude
include_if lines None = None
include_if lines (Some (named word)) = None
include_if lines (Some (include path)) = Some (record { path = path; bytes = flat_map (λ (l : JobLine). content_of l.raw) lines })

-- the include files, by the lines in order
abbrev pub includes_in : List JobLine → List JobInclude
includes_in [] = []
includes_in (x ∷ xs) = cond (is_heading x) (cons_option (include_if (content_before xs) (section_of (text_of x))) (includes_in xs)) (includes_in xs)

include-cons : (x : JobLine) (xs : List JobLine) (pieces : List (List JobLine)) → filter_map included (filter_map part_of ((x ∷ xs) ∷ pieces)) ≡ cons_option (include_if xs (section_of (text_of x))) (filter_map included (filter_map part_of pieces))
include-cons x xs pieces = at (section_of (text_of x)) where
  at : (o : Option texts.Section) → filter_map included (cons_option (option_map (λ t. record { section = t; number = x.number; lines = xs }) o) (filter_map part_of pieces)) ≡ cons_option (include_if xs o) (filter_map included (filter_map part_of pieces))
  at None = refl
  at (Some (named word)) = refl
  at (Some (include path)) = refl

includes-are : (lines : List JobLine) → filter_map included (filter_map part_of (cut_before is_heading lines).pieces) ≡ includes_in lines
includes-are [] = refl
includes-are (x ∷ xs) = at (is_heading x) (includes-are xs) where
  at : (b : Bool) → filter_map included (filter_map part_of (cut_before is_heading xs).pieces) ≡ includes_in xs
      → filter_map included (filter_map part_of (cond {A = Cut JobLine} b (record { before = []; pieces = (x ∷ content_before xs) ∷ (cut_before is_heading xs).pieces }) (record { before = x ∷ content_before xs; pieces = (cut_before is_heading xs).pieces })).pieces)
      ≡ cond b (cons_option (include_if (content_before xs) (section_of (text_of x))) (includes_in xs)) (includes_in xs)
  at true later = include-cons x (content_before xs) (cut_before is_heading xs).pieces ∙ ap (cons_option (include_if (content_before xs) (section_of (text_of x)))) later
  at false later = later

pub includes_of-are : (text : List ℕ) → filter_map included (parts_of text) ≡ includes_in (job_lines text)
includes_of-are text = includes-are (job_lines text)

-- the numbers of the lines that break the job, after those before them
abbrev pub broken_after : List JobLine → List JobLine → List ℕ
broken_after done rest = each_after (λ earlier x. cond (breaks_job earlier x) (x.number ∷ []) []) done rest

-- What a pass over the lines knows before the lines of `rest`.
pub record Scanned (text : List ℕ) (rest : List JobLine) (parts : Parts) (started : Bool) : Type 0 where
  pub done : List JobLine
  pub unbroken : broken_after done rest ≡ broken_after [] (job_lines text)
  pub headings : list_any is_heading done ≡ started
  pub seen : (s : Section) → has_section done (named (word_of s)) ≡ is_some (place_of parts.sections s)
  pub paths : (path : List ℕ) → has_section done (include path) ≡ has_text parts.paths path
  pub found : (s : Section) → or_later (option_map (part_behind (word_of s)) (place_of parts.sections s)) (part_in (named (word_of s)) rest) ≡ part_in (named (word_of s)) (job_lines text)
  pub includes : map include_at parts.includes.items ++ includes_in rest ≡ includes_in (job_lines text)

or_false : (b : Bool) → (b || false) ≡ b
or_false true = refl
or_false false = refl

or_true : (b : Bool) → (b || true) ≡ true
or_true true = refl
or_true false = refl

or_swapped : (a b : Bool) → (a || b) ≡ (b || a)
or_swapped true b = sym (or_true b)
or_swapped false b = sym (or_false b)

pub Scanned-start : (text : List ℕ) (rest : List JobLine) (parts : Parts) → rest ≡ job_lines text → ((s : Section) → place_of parts.sections s ≡ None) → parts.includes.items ≡ [] → parts.paths ≡ [] → Scanned text rest parts false
Scanned-start text rest parts e none empty unnamed = record {
  done = [];
  unbroken = ap (broken_after []) e;
  headings = refl;
  seen = λ s. rw (none s);
  paths = λ path. rw unnamed;
  found = λ s. rw (none s, e);
  includes = rw (empty, e);
}

-- what a line that isn't a heading, or is one, means
breaks-other : (done : List JobLine) (x : JobLine) (started blank : Bool) → is_heading x ≡ false → list_any is_heading done ≡ started → list_all is_white (text_of x) ≡ blank → breaks_job done x ≡ (not started && not blank)
breaks-other done x started blank e f g = rw (e, f, g)

pub breaks-heading : (done : List JobLine) (x : JobLine) (s : texts.Section) → is_heading x ≡ true → section_of (text_of x) ≡ Some s → breaks_job done x ≡ has_section done s
breaks-heading done x s e f = rw (e, f)

breaks-nameless : (done : List JobLine) (x : JobLine) → is_heading x ≡ true → section_of (text_of x) ≡ None → breaks_job done x ≡ true
breaks-nameless done x e f = rw (e, f)

first-broken : (text : List ℕ) (done : List JobLine) (x : JobLine) (xs : List JobLine) → broken_after done (x ∷ xs) ≡ broken_after [] (job_lines text) → breaks_job done x ≡ true → bad_job text ≡ Some x.number
first-broken text done x xs h b = ap (λ (ns : List ℕ). slice_get ns 0) (sym h) ∙ at (breaks_job done x) b where
  at : (t : Bool) → t ≡ true → slice_get (cond t (x.number ∷ []) [] ++ broken_after (done ++ x ∷ []) xs) 0 ≡ Some x.number
  at t e = rw e

not-broken : (done : List JobLine) (x : JobLine) (xs : List JobLine) (all : List ℕ) → broken_after done (x ∷ xs) ≡ all → breaks_job done x ≡ false → broken_after (done ++ x ∷ []) xs ≡ all
not-broken done x xs all h b = at (breaks_job done x) b h where
  at : (t : Bool) → t ≡ false → (cond t (x.number ∷ []) [] ++ broken_after (done ++ x ∷ []) xs) ≡ all → broken_after (done ++ x ∷ []) xs ≡ all
  at t e g = rw e at g

seen-other : (done : List JobLine) (x : JobLine) (s : texts.Section) → is_heading x ≡ false → has_section (done ++ x ∷ []) s ≡ has_section done s
seen-other done x s e = list_any-append _ done (x ∷ []) ∙ rw e (or_false (has_section done s))

pub seen-heading : (done : List JobLine) (x : JobLine) (s t : texts.Section) → is_heading x ≡ true → section_of (text_of x) ≡ Some t → has_section (done ++ x ∷ []) s ≡ (has_section done s || same_section s t)
seen-heading done x s t e f = list_any-append _ done (x ∷ []) ∙ rw (e, f) (ap (λ (b : Bool). has_section done s || b) (or_false (same_section s t)))

pub Scanned-other : (text : List ℕ) (x : JobLine) (xs : List JobLine) (parts : Parts) (started blank : Bool) → Scanned text (x ∷ xs) parts started → is_heading x ≡ false → list_all is_white (text_of x) ≡ blank → (not started && not blank) ≡ false → Scanned text xs parts started
Scanned-other text x xs parts started blank h e f g = record {
  done = h.done ++ x ∷ [];
  unbroken = not-broken h.done x xs _ h.unbroken (breaks-other h.done x started blank e h.headings f ∙ g);
  headings = list_any-append is_heading h.done (x ∷ []) ∙ rw e (or_false (list_any is_heading h.done) ∙ h.headings);
  seen = λ s. seen-other h.done x (named (word_of s)) e ∙ h.seen s;
  paths = λ path. seen-other h.done x (include path) e ∙ h.paths path;
  found = λ s. rw e at (h.found s);
  includes = rw e at h.includes;
}

-- a section is at its new place, and the others stay
placed : (t s : Section) (sections : Sections) (after : Place) → place_of (with_place sections t after) s ≡ cond (bytes_eq (word_of s) (word_of t)) (Some after) (place_of sections s)
placed t s sections after = grind arith

same_word : (t s : Section) → bytes_eq (word_of s) (word_of t) ≡ true → s ≡ t
same_word t s e = grind arith

-- a section's part, where a heading of it is taken
module _ (t : Section) (sections : Sections) (after : Place) (none : place_of sections t ≡ None) where
  part_taken : (s : Section) (later : Option Part) → or_later (option_map (part_behind (word_of s)) (place_of sections s)) (or_later (cond (bytes_eq (word_of s) (word_of t)) (Some (part_behind (word_of t) after)) None) later) ≡ or_later (option_map (part_behind (word_of s)) (place_of (with_place sections t after) s)) later
  part_taken s later = at (bytes_eq (word_of s) (word_of t)) refl (placed t s sections after) where
    at : (b : Bool) → bytes_eq (word_of s) (word_of t) ≡ b → place_of (with_place sections t after) s ≡ cond b (Some after) (place_of sections s)
        → or_later (option_map (part_behind (word_of s)) (place_of sections s)) (or_later (cond b (Some (part_behind (word_of t) after)) None) later) ≡ or_later (option_map (part_behind (word_of s)) (place_of (with_place sections t after) s)) later
    at true e is =
        let same : t ≡ s = sym (same_word t s e) in
        let absent : place_of sections s ≡ None = ap (place_of sections) (sym same) ∙ none in
        rw (absent, is) (ap (λ (u : Section). or_later (Some (part_behind (word_of u) after)) later) same)
    at false e is = rw is

  seen_taken : (s : Section) → (is_some (place_of sections s) || bytes_eq (word_of s) (word_of t)) ≡ is_some (place_of (with_place sections t after) s)
  seen_taken s = at (bytes_eq (word_of s) (word_of t)) (placed t s sections after) where
    at : (b : Bool) → place_of (with_place sections t after) s ≡ cond b (Some after) (place_of sections s) → (is_some (place_of sections s) || b) ≡ is_some (place_of (with_place sections t after) s)
    at true is = rw is (or_true (is_some (place_of sections s)))
    at false is = rw is (or_false (is_some (place_of sections s)))

-- a heading of a section that has none
Scanned-section : (text : List ℕ) (x : JobLine) (after : Place) (parts next : Parts) (started : Bool) (t : Section) → Scanned text (x ∷ lines_at after) parts started → is_heading x ≡ true → section_of (text_of x) ≡ Some (named (word_of t)) → is_some (place_of parts.sections t) ≡ false → after.line ≡ x.number
    → next ≡ record parts { sections = with_place parts.sections t after } → Scanned text (lines_at after) next true
Scanned-section text x after parts next started t h e f fresh line is = rw is taken where
  none : place_of parts.sections t ≡ None
  none = at (place_of parts.sections t) fresh where
    at : (o : Option Place) → is_some o ≡ false → o ≡ None
    at None g = refl
    at (Some place) g = absurd (let no : ⊥ = cc in no)

  taken : Scanned text (lines_at after) (record parts { sections = with_place parts.sections t after }) true
  taken = record {
    done = h.done ++ x ∷ [];
    unbroken = not-broken h.done x (lines_at after) _ h.unbroken (breaks-heading h.done x (named (word_of t)) e f ∙ h.seen t ∙ fresh);
    headings = list_any-append is_heading h.done (x ∷ []) ∙ rw e (or_true (list_any is_heading h.done));
    seen = λ s. seen-heading h.done x (named (word_of s)) (named (word_of t)) e f ∙ rw (h.seen s) (seen_taken t parts.sections after none s);
    paths = λ path. seen-heading h.done x (include path) (named (word_of t)) e f ∙ or_false (has_section h.done (include path)) ∙ h.paths path;
    found = λ s. sym (part_taken t parts.sections after none s (part_in (named (word_of s)) (lines_at after))) ∙ rw (e, f, ← line) at (h.found s);
    includes = rw (e, f) at h.includes;
  }

-- a heading of an include file that has none
Scanned-include : (text : List ℕ) (x : JobLine) (after : Place) (parts next : Parts) (started : Bool) (path : Bor (List ℕ)) → Scanned text (x ∷ lines_at after) parts started → is_heading x ≡ true → section_of (text_of x) ≡ Some (include path.now) → has_text parts.paths path.now ≡ false
    → HasInclude parts next (record { path = path; place = after }) → Scanned text (lines_at after) next true
Scanned-include text x after parts next started path h e f fresh added = record {
  done = h.done ++ x ∷ [];
  unbroken = not-broken h.done x (lines_at after) _ h.unbroken (breaks-heading h.done x (include path.now) e f ∙ h.paths path.now ∙ fresh);
  headings = list_any-append is_heading h.done (x ∷ []) ∙ rw e (or_true (list_any is_heading h.done));
  seen = λ s. seen-heading h.done x (named (word_of s)) (include path.now) e f ∙ or_false (has_section h.done (named (word_of s))) ∙ h.seen s ∙ ap (λ (sections : Sections). is_some (place_of sections s)) (sym added.sections);
  paths = λ q. seen-heading h.done x (include q) (include path.now) e f ∙ ap (λ (b : Bool). b || bytes_eq q path.now) (h.paths q) ∙ or_swapped (has_text parts.paths q) (bytes_eq q path.now) ∙ sym (added.paths q);
  found = λ s. rw added.sections (rw (e, f) at (h.found s));
  includes =
      ap (λ (files : List IncludePlace). map include_at files ++ includes_in (lines_at after)) added.includes
      ∙ ap (λ (files : List JobInclude). files ++ includes_in (lines_at after)) (map_push include_at parts.includes.items (record { path = path; place = after }))
      ∙ append_assoc (map include_at parts.includes.items) (include_at (record { path = path; place = after }) ∷ []) (includes_in (lines_at after))
      ∙ rw (e, f) at h.includes;
}

-- a heading of a part that has none
pub Scanned-taken : (text : List ℕ) (x : JobLine) (after : Place) (parts next : Parts) (started : Bool) (heading : Heading) → Scanned text (x ∷ lines_at after) parts started → is_heading x ≡ true → section_of (text_of x) ≡ Some (heading_section heading) → has_part parts heading ≡ false → after.line ≡ x.number
    → HasTaken parts heading after next → Scanned text (lines_at after) next true
Scanned-taken text x after parts next started (Named t) h e f fresh line taken = Scanned-section text x after parts next started t h e f fresh line taken
Scanned-taken text x after parts next started (Include path) h e f fresh line taken = Scanned-include text x after parts next started path h e f fresh taken

-- the first line that breaks the job
pub Scanned-nameless : (text : List ℕ) (x : JobLine) (xs : List JobLine) (parts : Parts) (started : Bool) → Scanned text (x ∷ xs) parts started → is_heading x ≡ true → section_of (text_of x) ≡ None → bad_job text ≡ Some x.number
Scanned-nameless text x xs parts started h e f = first-broken text h.done x xs h.unbroken (breaks-nameless h.done x e f)

pub Scanned-repeated : (text : List ℕ) (x : JobLine) (xs : List JobLine) (parts : Parts) (started : Bool) (heading : Heading) → Scanned text (x ∷ xs) parts started → is_heading x ≡ true → section_of (text_of x) ≡ Some (heading_section heading) → has_part parts heading ≡ true → bad_job text ≡ Some x.number
Scanned-repeated text x xs parts started (Named t) h e f some = first-broken text h.done x xs h.unbroken (breaks-heading h.done x (named (word_of t)) e f ∙ h.seen t ∙ some)
Scanned-repeated text x xs parts started (Include path) h e f some = first-broken text h.done x xs h.unbroken (breaks-heading h.done x (include path.now) e f ∙ h.paths path.now ∙ some)

pub Scanned-bad : (text : List ℕ) (x : JobLine) (xs : List JobLine) (parts : Parts) (started : Bool) (fault : RunFault) → Scanned text (x ∷ xs) parts started → is_heading x ≡ true → (fault ≡ Memory) ⊎ ((fault ≡ BadJob x.number) × IsBadHeading parts x)
    → Stops (option_map BadJob (bad_job text)) fault
Scanned-bad text x xs parts started fault h e (inl out) = rw out tt
Scanned-bad text x xs parts started fault h e (inr bad) = rw bad.0 (ap (option_map BadJob) (at bad.1)) where
  at : IsBadHeading parts x → bad_job text ≡ Some x.number
  at (inl nameless) = Scanned-nameless text x xs parts started h e nameless
  at (inr repeated) = Scanned-repeated text x xs parts started repeated.0 h e repeated.1 repeated.2

pub Scanned-stray : (text : List ℕ) (x : JobLine) (xs : List JobLine) (parts : Parts) → Scanned text (x ∷ xs) parts false → is_heading x ≡ false → list_all is_white (text_of x) ≡ false → bad_job text ≡ Some x.number
Scanned-stray text x xs parts h e f = first-broken text h.done x xs h.unbroken (breaks-other h.done x false false e h.headings f)

pub Scanned-end : (text : List ℕ) (rest : List JobLine) (parts : Parts) (started : Bool) → Scanned text rest parts started → rest ≡ [] → ArePartsOf text parts
Scanned-end text rest parts started h e = record {
  unbroken = ap (λ (ns : List ℕ). slice_get ns 0) (sym (rw e at h.unbroken));
  places = λ s. sym (later-none (option_map (part_behind (word_of s)) (place_of parts.sections s))) ∙ rw e at (h.found s) ∙ sym (part_at-is text (named (word_of s)));
  includes = sym (append-nil (map include_at parts.includes.items)) ∙ rw e at h.includes ∙ sym (includes_of-are text);
} where
  later-none : (o : Option Part) → or_later o None ≡ o
  later-none None = refl
  later-none (Some p) = refl
