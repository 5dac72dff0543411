-- The sections of a gathered text, by the files that the source has.
use Rattle.std.proofs.Common.{◌≡◌, ℕ, ◌+◌, ◌-◌, ◌≤◌, ◌<◌, Bool, true, false, not, cond, ltb, ◌&&◌, ◌||◌, List, [], ◌∷◌, ◌++◌, length, map, codes, Option, Some, None, Result, Ok, Err, refl, sym, ap, subst, ◌∙◌, append_assoc, arith}
use Rattle.std.specs.List.{flat_map, filter_map, cons_option, list_any, list_all, filter}
use Rattle.std.specs.Str.{bytes_eq}
use Rattle.std.proofs.lemmas.Bool.{and_parts, true≢false}
use Rattle.std.proofs.lemmas.Grind.{flat_map-append}
use Rattle.std.proofs.lemmas.List.Elements.{filter_map-append}
use Rattle.std.proofs.lemmas.List.Folds.{list_all-append}
use Rattle.std.proofs.lemmas.Slice.Eq.{bytes_eq-Decides}
use Rattle.relay_text.specs.Addresses.{result_map}
use Rattle.relay_text.specs.Bytes.{firsts}
use Rattle.relay_job.specs.declared.job.JobInclude.{JobInclude}
use Rattle.relay_job.specs.JobText.{named, include, same_section, section_bytes}
use Rattle.relay_job.specs.JobText as texts
use Rattle.relay_job.specs.declared.fault.RunFault.{RunFault}
use Rattle.relay_job.specs.declared.fault.RunFault.TheVariants.{TooLong}
use Rattle.relay_gather.specs.Source.{Answer, unknown, absent, failed, file}
use Rattle.relay_gather.specs.Sections.{joined, named_section, include_section}
use Rattle.relay_gather.specs.JoinedFiles.{joined_files}
use Rattle.relay_gather.specs.Gathering.{named_in, joined_in, included_in, first_names, names_of, later_names, names_in_aliases, names_in_include, IsBreadthFirst, HasNamed, HasJoined, IsBodyOf, include_of_answer, found_include}
use Rattle.relay_gather.proofs.NamedPaths.{is_path, alias_paths, include_paths, all_firsts}
use Rattle.relay_gather.proofs.HeadingLines.{include_heading}
use Rattle.relay_gather.proofs.TextLines.{Piece, piece_text, IsHeading, AllHeadings, first_file, file_bytes, include_of, NoRepeats}

-- ---- the texts of sections
pub texts_of : List (Result (List ℕ) RunFault) → List ℕ
texts_of [] = []
texts_of (Ok text ∷ sections) = text ++ texts_of sections
texts_of (Err fault ∷ sections) = texts_of sections

texts_of-append : (xs ys : List (Result (List ℕ) RunFault)) → texts_of (xs ++ ys) ≡ texts_of xs ++ texts_of ys
unfolding texts_of
texts_of-append [] ys = refl
texts_of-append (Ok text ∷ xs) ys = ap (λ t. text ++ t) (texts_of-append xs ys) ∙ sym (append_assoc text (texts_of xs) (texts_of ys))
texts_of-append (Err fault ∷ xs) ys = texts_of-append xs ys

-- what is joined are the texts
pub joined-texts : (sections : List (Result (List ℕ) RunFault)) (max : ℕ) (text : List ℕ) → joined sections max ≡ Ok text → text ≡ texts_of sections
unfolding texts_of
joined-texts [] max text h = let is : text ≡ [] = cc in is
joined-texts (Err fault ∷ sections) max text h = absurd (let no : ⊥ = cc in no)
joined-texts (Ok t ∷ sections) max text h = at (ltb max (length t)) (joined sections (max - length t)) refl h (λ more e. joined-texts sections (max - length t) more e) where
  at : (b : Bool) (r : Result (List ℕ) RunFault) → joined sections (max - length t) ≡ r → cond b (Err TooLong) (result_map (λ rest. t ++ rest) r) ≡ Ok text
      → ((more : List ℕ) → joined sections (max - length t) ≡ Ok more → more ≡ texts_of sections) → text ≡ t ++ texts_of sections
  at true r f g later = absurd (let no : ⊥ = cc in no)
  at false (Err fault) f g later = absurd (let no : ⊥ = cc in no)
  at false (Ok more) f g later = (let is : text ≡ t ++ more = cc in is) ∙ ap (λ u. t ++ u) (later more f)

-- ---- the pieces of an answer
abbrev pub by_answer : texts.Section → Answer → List Piece
by_answer s (file text) = record { section = s; file = text } ∷ []
by_answer s absent = []
by_answer s failed = []
by_answer s unknown = []

abbrev pub Writes : List (Result (List ℕ) RunFault) → List Piece → Type 0
Writes sections ps = texts_of sections ≡ flat_map piece_text ps

pub Writes-append : (xs ys : List (Result (List ℕ) RunFault)) (ps qs : List Piece) → Writes xs ps → Writes ys qs → Writes (xs ++ ys) (ps ++ qs)
Writes-append xs ys ps qs h g = texts_of-append xs ys ∙ ap (λ t. t ++ texts_of ys) h ∙ ap (λ t. flat_map piece_text ps ++ t) g ∙ sym (flat_map-append piece_text ps qs)

writes_named : (word : List ℕ) (a : Answer) → Writes (named_section word a ∷ []) (by_answer (named word) a)
unfolding texts_of
writes_named word (file text) = refl
writes_named word absent = refl
writes_named word failed = refl
writes_named word unknown = refl

writes_include : (path : List ℕ) (a : Answer) → Writes (include_section path a ∷ []) (by_answer (include path) a)
unfolding texts_of
writes_include path (file text) = refl
writes_include path absent = refl
writes_include path failed = refl
writes_include path unknown = refl

writes_none : Writes [] []
unfolding texts_of
writes_none = refl

headings_by : (s : texts.Section) (a : Answer) → IsHeading s → AllHeadings (by_answer s a)
headings_by s (file text) h = (h, tt)
headings_by s absent h = tt
headings_by s failed h = tt
headings_by s unknown h = tt

pub AllHeadings-append : (ps qs : List Piece) → AllHeadings ps → AllHeadings qs → AllHeadings (ps ++ qs)
AllHeadings-append [] qs h g = g
AllHeadings-append (p ∷ ps) qs h g = (h.0, AllHeadings-append ps qs h.1 g)

-- ---- which files the text has
or_later : Option (List ℕ) → Option (List ℕ) → Option (List ℕ)
or_later None later = later
or_later (Some text) later = Some text

first_file-append : (s : texts.Section) (ps qs : List Piece) → first_file s (ps ++ qs) ≡ or_later (first_file s ps) (first_file s qs)
unfolding or_later
first_file-append s [] qs = refl
first_file-append s (p ∷ ps) qs = at (same_section s p.section) (first_file-append s ps qs) where
  at : (b : Bool) → first_file s (ps ++ qs) ≡ or_later (first_file s ps) (first_file s qs) → cond b (Some p.file) (first_file s (ps ++ qs)) ≡ or_later (cond b (Some p.file) (first_file s ps)) (first_file s qs)
  at true h = refl
  at false h = h

abbrev pub Lacks : List ℕ → List Piece → Type 0
Lacks word ps = first_file (named word) ps ≡ None

pub skipped : (word : List ℕ) (ps qs : List Piece) → Lacks word ps → first_file (named word) (ps ++ qs) ≡ first_file (named word) qs
unfolding or_later
skipped word ps qs h = first_file-append (named word) ps qs ∙ ap (λ o. or_later o (first_file (named word) qs)) h

pub taken : (word : List ℕ) (ps qs : List Piece) → Lacks word qs → first_file (named word) (ps ++ qs) ≡ first_file (named word) ps
unfolding or_later
taken word ps qs h = first_file-append (named word) ps qs ∙ ap (or_later (first_file (named word) ps)) h ∙ at (first_file (named word) ps) where
  at : (o : Option (List ℕ)) → or_later o None ≡ o
  at None = refl
  at (Some text) = refl

pub Lacks-append : (word : List ℕ) (ps qs : List Piece) → Lacks word ps → Lacks word qs → Lacks word (ps ++ qs)
Lacks-append word ps qs h g = skipped word ps qs h ∙ g

lacks_by : (word : List ℕ) (s : texts.Section) (a : Answer) → same_section (named word) s ≡ false → Lacks word (by_answer s a)
lacks_by word s (file text) h = rw h
lacks_by word s absent h = refl
lacks_by word s failed h = refl
lacks_by word s unknown h = refl

-- ---- sections at most once
abbrev pub rank_of_word : List ℕ → ℕ
rank_of_word word =
    cond (bytes_eq word (codes "%settings")) 0
    (cond (bytes_eq word (codes "%aliases")) 1
    (cond (bytes_eq word (codes "%mailboxes")) 3 (cond (bytes_eq word (codes "%transport")) 4 (cond (bytes_eq word (codes "%mx")) 5 6))))

unfoldable pub rank : texts.Section → ℕ
rank (named word) = rank_of_word word
rank (include path) = 2

same_rank : (s t : texts.Section) → same_section s t ≡ true → rank s ≡ rank t
unfolding rank
same_rank (named a) (named b) h = ap rank_of_word ((bytes_eq-Decides a b).0 h)
same_rank (named a) (include b) h = absurd (true≢false (sym h))
same_rank (include a) (named b) h = absurd (true≢false (sym h))
same_rank (include a) (include b) h = refl

-- no section of this rank and above is known
abbrev pub IsFree : List texts.Section → ℕ → Type 0
IsFree known least = (s : texts.Section) → least ≤ rank s → list_any (same_section s) known ≡ false

pub IsFree-none : IsFree [] 0
IsFree-none s h = refl

free_more : (known : List texts.Section) (t : texts.Section) (least : ℕ) → rank t < least → IsFree known least → IsFree (t ∷ known) least
free_more known t least below free s h = at (same_section s t) refl where
  at : (b : Bool) → same_section s t ≡ b → (b || list_any (same_section s) known) ≡ false
  at true e = absurd (let same : rank s ≡ rank t = same_rank s t e in omega (arith, same, below, h))
  at false e = free s h

-- the pieces behind a section that is new
pub new_section : (known : List texts.Section) (t : texts.Section) (a : Answer) (least : ℕ) (ps : List Piece) → rank t ≡ least → IsFree known least
    → ((now : List texts.Section) → IsFree now (least + 1) → NoRepeats now ps) → NoRepeats known (by_answer t a ++ ps)
new_section known t (file text) least ps e free next =
    (free t (let h : least ≤ rank t = omega (arith, e) in h), next (t ∷ known) (free_more known t (least + 1) (let h : rank t < least + 1 = omega (arith, e) in h) (λ s h. free s (omega (arith, h)))))
new_section known t absent least ps e free next = next known (λ s h. free s (omega (arith, h)))
new_section known t failed least ps e free next = next known (λ s h. free s (omega (arith, h)))
new_section known t unknown least ps e free next = next known (λ s h. free s (omega (arith, h)))

-- paths of which none stands twice
abbrev pub Apart : List ℕ → List (List ℕ) → Type 0
Apart path [] = Unit {0}
Apart path (q ∷ qs) = (bytes_eq q path ≡ false) × Apart path qs

abbrev pub Distinct : List (List ℕ) → Type 0
Distinct [] = Unit {0}
Distinct (p ∷ ps) = Apart p ps × Distinct ps

apart_filter : (path : List ℕ) (keep : List ℕ → Bool) (qs : List (List ℕ)) → Apart path qs → Apart path (filter keep qs)
apart_filter path keep [] h = tt
apart_filter path keep (q ∷ qs) h = at (keep q) (apart_filter path keep qs h.1) where
  at : (b : Bool) → Apart path (filter keep qs) → Apart path (cond b (q ∷ filter keep qs) (filter keep qs))
  at true g = (h.0, g)
  at false g = g

other_way : (path q : List ℕ) → bytes_eq path q ≡ false → bytes_eq q path ≡ false
other_way path q h = at (bytes_eq q path) refl where
  at : (b : Bool) → bytes_eq q path ≡ b → b ≡ false
  at true e = absurd (true≢false (sym ((bytes_eq-Decides path q).1 (sym ((bytes_eq-Decides q path).0 e))) ∙ h))
  at false e = refl

apart_others : (path : List ℕ) (qs : List (List ℕ)) → Apart path (filter (λ q. not (bytes_eq path q)) qs)
apart_others path [] = tt
apart_others path (q ∷ qs) = at (bytes_eq path q) refl (apart_others path qs) where
  at : (b : Bool) → bytes_eq path q ≡ b → Apart path (filter (λ r. not (bytes_eq path r)) qs) → Apart path (cond (not b) (q ∷ filter (λ r. not (bytes_eq path r)) qs) (filter (λ r. not (bytes_eq path r)) qs))
  at true e g = g
  at false e g = (other_way path q e, g)

distinct_filter : (keep : List ℕ → Bool) (qs : List (List ℕ)) → Distinct qs → Distinct (filter keep qs)
distinct_filter keep [] h = tt
distinct_filter keep (q ∷ qs) h = at (keep q) (apart_filter q keep qs h.0) (distinct_filter keep qs h.1) where
  at : (b : Bool) → Apart q (filter keep qs) → Distinct (filter keep qs) → Distinct (cond b (q ∷ filter keep qs) (filter keep qs))
  at true g k = (g, k)
  at false g k = k

pub distinct_firsts : (qs : List (List ℕ)) → Distinct (firsts bytes_eq qs)
distinct_firsts [] = tt
distinct_firsts (q ∷ qs) = (apart_others q (firsts bytes_eq qs), distinct_filter _ (firsts bytes_eq qs) (distinct_firsts qs))

-- none of these paths is known
abbrev AreNew : List texts.Section → List (List ℕ) → Type 0
AreNew known [] = Unit {0}
AreNew known (p ∷ ps) = (list_any (same_section (include p)) known ≡ false) × AreNew known ps

new_again : (known : List texts.Section) (path : List ℕ) (ps : List (List ℕ)) → Apart path ps → AreNew known ps → AreNew (include path ∷ known) ps
new_again known path [] h g = tt
new_again known path (p ∷ ps) h g = (ap (λ (b : Bool). b || list_any (same_section (include p)) known) h.0 ∙ g.0, new_again known path ps h.1 g.1)

free_paths : (known : List texts.Section) (ps : List (List ℕ)) → IsFree known 2 → AreNew known ps
unfolding rank
free_paths known [] h = tt
free_paths known (p ∷ ps) h = (h (include p) (omega arith), free_paths known ps h)

-- what a named section has of include files, and its bytes
includes_by : (word : List ℕ) (a : Answer) → filter_map include_of (by_answer (named word) a) ≡ []
includes_by word (file text) = refl
includes_by word absent = refl
includes_by word failed = refl
includes_by word unknown = refl

body_by : (text word : List ℕ) (a : Answer) → section_bytes text word ≡ file_bytes (first_file (named word) (by_answer (named word) a)) → IsBodyOf (section_bytes text word) a
body_by text word (file t) h = h ∙ ap (λ (b : Bool). file_bytes (cond b (Some t) None)) ((bytes_eq-Decides word word).1 refl)
body_by text word absent h = tt
body_by text word failed h = tt
body_by text word unknown h = tt

module _ (answer : List ℕ → Answer) where
  abbrev pub named_pieces : List ℕ → Option (List ℕ) → List Piece
  named_pieces word None = []
  named_pieces word (Some path) = by_answer (named word) (answer path)

  abbrev pub piece_of : List ℕ → List Piece
  piece_of path = by_answer (include path) (answer path)

  abbrev pub include_pieces : List (List ℕ) → List Piece
  include_pieces paths = flat_map piece_of paths

  -- ---- of a named file
  pub writes_in : (word : List ℕ) (path : Option (List ℕ)) → Writes (named_in answer word path) (named_pieces word path)
  writes_in word None = writes_none
  writes_in word (Some path) = writes_named word (answer path)

  pub headings_in : (word : List ℕ) (path : Option (List ℕ)) → IsHeading (named word) → AllHeadings (named_pieces word path)
  headings_in word None h = tt
  headings_in word (Some path) h = headings_by (named word) (answer path) h

  pub lacks_named : (word other : List ℕ) (path : Option (List ℕ)) → bytes_eq word other ≡ false → Lacks word (named_pieces other path)
  lacks_named word other None h = refl
  lacks_named word other (Some path) h = lacks_by word (named other) (answer path) h

  pub new_named : (known : List texts.Section) (word : List ℕ) (path : Option (List ℕ)) (least : ℕ) (ps : List Piece) → rank (named word) ≡ least → IsFree known least
      → ((now : List texts.Section) → IsFree now (least + 1) → NoRepeats now ps) → NoRepeats known (named_pieces word path ++ ps)
  new_named known word None least ps e free next = next known (λ s h. free s (omega (arith, h)))
  new_named known word (Some path) least ps e free next = new_section known (named word) (answer path) least ps e free next

  pub includes_named : (word : List ℕ) (path : Option (List ℕ)) → filter_map include_of (named_pieces word path) ≡ []
  includes_named word None = refl
  includes_named word (Some path) = includes_by word (answer path)

  -- the bytes of a named section
  pub has_named : (text word : List ℕ) (path : Option (List ℕ)) → section_bytes text word ≡ file_bytes (first_file (named word) (named_pieces word path)) → HasNamed answer text word path
  has_named text word None h = h
  has_named text word (Some path) h = body_by text word (answer path) h

  -- ---- of files that are joined
  abbrev pub joined_pieces : List ℕ → List (List ℕ) → List Piece
  joined_pieces word [] = []
  joined_pieces word (path ∷ paths) = by_answer (named word) (joined_files answer (answer path) paths)

  pub writes_joined : (word : List ℕ) (paths : List (List ℕ)) → Writes (joined_in answer word paths) (joined_pieces word paths)
  writes_joined word [] = writes_none
  writes_joined word (path ∷ paths) = writes_named word (joined_files answer (answer path) paths)

  pub headings_joined : (word : List ℕ) (paths : List (List ℕ)) → IsHeading (named word) → AllHeadings (joined_pieces word paths)
  headings_joined word [] h = tt
  headings_joined word (path ∷ paths) h = headings_by (named word) (joined_files answer (answer path) paths) h

  pub lacks_joined : (word other : List ℕ) (paths : List (List ℕ)) → bytes_eq word other ≡ false → Lacks word (joined_pieces other paths)
  lacks_joined word other [] h = refl
  lacks_joined word other (path ∷ paths) h = lacks_by word (named other) (joined_files answer (answer path) paths) h

  pub new_joined : (known : List texts.Section) (word : List ℕ) (paths : List (List ℕ)) (least : ℕ) (ps : List Piece) → rank (named word) ≡ least → IsFree known least
      → ((now : List texts.Section) → IsFree now (least + 1) → NoRepeats now ps) → NoRepeats known (joined_pieces word paths ++ ps)
  new_joined known word [] least ps e free next = next known (λ s h. free s (omega (arith, h)))
  new_joined known word (path ∷ paths) least ps e free next = new_section known (named word) (joined_files answer (answer path) paths) least ps e free next

  pub includes_joined : (word : List ℕ) (paths : List (List ℕ)) → filter_map include_of (joined_pieces word paths) ≡ []
  includes_joined word [] = refl
  includes_joined word (path ∷ paths) = includes_by word (joined_files answer (answer path) paths)

  pub has_joined : (text word : List ℕ) (paths : List (List ℕ)) → section_bytes text word ≡ file_bytes (first_file (named word) (joined_pieces word paths)) → HasJoined answer text word paths
  has_joined text word [] h = h
  has_joined text word (path ∷ paths) h = body_by text word (joined_files answer (answer path) paths) h

  -- ---- of include files
  pub writes_includes : (paths : List (List ℕ)) → Writes (map (included_in answer) paths) (include_pieces paths)
  writes_includes [] = writes_none
  writes_includes (p ∷ ps) = Writes-append (included_in answer p ∷ []) (map (included_in answer) ps) (piece_of p) (include_pieces ps) (writes_include p (answer p)) (writes_includes ps)

  pub headings_includes : (paths : List (List ℕ)) → list_all is_path paths ≡ true → AllHeadings (include_pieces paths)
  headings_includes [] h = tt
  headings_includes (p ∷ ps) h =
      let v = and_parts (is_path p) (list_all is_path ps) h in
      AllHeadings-append (piece_of p) (include_pieces ps) (headings_by (include p) (answer p) (include_heading p v.0)) (headings_includes ps v.1)

  pub lacks_includes : (word : List ℕ) (paths : List (List ℕ)) → Lacks word (include_pieces paths)
  lacks_includes word [] = refl
  lacks_includes word (p ∷ ps) = Lacks-append word (piece_of p) (include_pieces ps) (lacks_by word (include p) (answer p) refl) (lacks_includes word ps)

  -- what a job has of an answer
  include_by : (path : List ℕ) (a : Answer) → filter_map include_of (by_answer (include path) a) ≡ cons_option (include_of_answer path a) []
  include_by path (file text) = refl
  include_by path absent = refl
  include_by path failed = refl
  include_by path unknown = refl

  pub includes_found : (paths : List (List ℕ)) → filter_map include_of (include_pieces paths) ≡ filter_map (found_include answer) paths
  includes_found [] = refl
  includes_found (p ∷ ps) =
      filter_map-append include_of (piece_of p) (include_pieces ps)
      ∙ ap (λ is. is ++ filter_map include_of (include_pieces ps)) (include_by p (answer p))
      ∙ ap (λ is. cons_option (found_include answer p) [] ++ is) (includes_found ps)
      ∙ onto (found_include answer p) where
        onto : (o : Option JobInclude) → cons_option o [] ++ filter_map (found_include answer) ps ≡ cons_option o (filter_map (found_include answer) ps)
        onto None = refl
        onto (Some i) = refl

  paths_once : (known : List texts.Section) (paths : List (List ℕ)) (ps : List Piece) → Distinct paths → AreNew known paths → IsFree known 3
      → ((now : List texts.Section) → IsFree now 3 → NoRepeats now ps) → NoRepeats known (include_pieces paths ++ ps)
  unfolding rank
  paths_once known [] ps d new free next = next known free
  paths_once known (p ∷ paths) ps d new free next =
      subst (NoRepeats known) (sym (append_assoc (piece_of p) (include_pieces paths) ps))
      (at (answer p) (paths_once (include p ∷ known) paths ps d.1 (new_again known p paths d.0 new.1) (free_more known (include p) 3 (omega arith) free) next) (paths_once known paths ps d.1 new.1 free next)) where
        at : (a : Answer) → NoRepeats (include p ∷ known) (include_pieces paths ++ ps) → NoRepeats known (include_pieces paths ++ ps) → NoRepeats known (by_answer (include p) a ++ (include_pieces paths ++ ps))
        at (file text) more same = (new.0, more)
        at absent more same = same
        at failed more same = same
        at unknown more same = same

  pub new_includes : (known : List texts.Section) (paths : List (List ℕ)) (ps : List Piece) → Distinct paths → IsFree known 2
      → ((now : List texts.Section) → IsFree now 3 → NoRepeats now ps) → NoRepeats known (include_pieces paths ++ ps)
  new_includes known paths ps d free next = paths_once known paths ps d (free_paths known paths free) (λ s h. free s (omega (arith, h))) next

  -- ---- the paths in breadth first order
  first_pass : (files : List (List ℕ)) → list_all is_path (first_names answer files) ≡ true
  first_pass [] = refl
  first_pass (path ∷ later) = at (joined_files answer (answer path) later) where
    at : (a : Answer) → list_all is_path (names_in_aliases a) ≡ true
    at (file text) = alias_paths text
    at absent = refl
    at failed = refl
    at unknown = refl

  names_pass : (a : Answer) → list_all is_path (names_in_include a) ≡ true
  names_pass (file text) = include_paths text
  names_pass absent = refl
  names_pass failed = refl
  names_pass unknown = refl

  later_pass : (paths : List (List ℕ)) → list_all is_path (later_names answer paths) ≡ true
  later_pass [] = refl
  later_pass (p ∷ ps) = list_all-append is_path (names_of answer p) (later_names answer ps) ∙ ap (λ (b : Bool). b && list_all is_path (later_names answer ps)) (names_pass (answer p)) ∙ later_pass ps

  pub order_pass : (files paths : List (List ℕ)) → IsBreadthFirst answer (first_names answer files) paths → list_all is_path paths ≡ true
  order_pass files paths h =
      ap (list_all is_path) h.order
      ∙ all_firsts (first_names answer files ++ later_names answer paths)
      (list_all-append is_path (first_names answer files) (later_names answer paths) ∙ ap (λ (b : Bool). b && list_all is_path (later_names answer paths)) (first_pass files) ∙ later_pass paths)

  pub order_distinct : (files paths : List (List ℕ)) → IsBreadthFirst answer (first_names answer files) paths → Distinct paths
  order_distinct files paths h = subst Distinct (sym h.order) (distinct_firsts (first_names answer files ++ later_names answer paths))
