-- How a pass over lines finds the sections of envelopes, and the first line that breaks them.
use Rattle.std.proofs.Common.{◌≡◌, ℕ, ◌+◌, ◌-◌, eqb, Bool, true, false, cond, ◌&&◌, ◌||◌, List, [], ◌∷◌, ◌++◌, length, take, drop, codes, Option, Some, None, refl, sym, ap, ◌∙◌, arith}
use Rattle.std.specs.List.{list_any, list_all, flat_map, slice_get, onto_first, suffix_len}
use Rattle.std.specs.Option.{option_map}
use Rattle.std.specs.Str.{bytes_eq}
use Rattle.std.proofs.Math.Seq.{take-append_seam, drop-append_seam}
use Rattle.std.proofs.lemmas.Bool.{true≢false}
use Rattle.std.proofs.lemmas.Slice.Eq.{bytes_eq-Decides}
use Rattle.std.proofs.lemmas.List.{append_assoc, append-nil, length-append, length-take, take-take}
use Rattle.std.proofs.lemmas.List.Sums.{fold-append}
use Rattle.std.proofs.lemmas.List.Concat.{flat_map-append}
use Rattle.std.proofs.lemmas.List.Folds.{list_any-append}
use Rattle.relay_text.specs.Bytes.{is_white, begins_with, trimmed_end, each_after, has_text}
use Rattle.relay_text.specs.Lines.{raw_lines, Cut, cut_before}
use Rattle.relay_job.specs.declared.fault.RunFault.{RunFault}
use Rattle.relay_job.specs.declared.fault.RunFault.TheVariants.{BadJob}
use Rattle.relay_job.specs.JobText.{JobLine, job_lines, text_of, is_heading}
use Rattle.relay_job.specs.declared.place.Place.{Place}
use Rattle.relay_job.specs.Places.{numbered_from, lines_at}
use Rattle.relay_job.proofs.JoinedLines.{neither-any}
use Rattle.relay_envelopes.specs.Headings.{is_envelope_word, id_of, is_end}
use Rattle.relay_envelopes.specs.Sections.{Section, id_or_none, section_of, envelopes_of, has_id, goes_on, has_begun, breaks_envelopes, bad_envelopes, begins_envelopes}
use Rattle.relay_envelopes.specs.Envelopes.{breaks_behind, ids_behind, bad_behind}

-- the bytes of lines
abbrev pub raw_bytes : List JobLine → List ℕ
raw_bytes lines = flat_map (λ (l : JobLine). l.raw) lines

-- The lines of a text are its bytes.
joined-onto : (b : ℕ) (lines : List (List ℕ)) → flat_map (λ (l : List ℕ). l) (onto_first b lines) ≡ b ∷ flat_map (λ (l : List ℕ). l) lines
joined-onto b [] = refl
joined-onto b (l ∷ ls) = refl

pub joined-lines : (text : List ℕ) → flat_map (λ (l : List ℕ). l) (raw_lines text) ≡ text
joined-lines [] = refl
joined-lines (b ∷ bs) = at (eqb b 10) (joined-lines bs) where
  at : (t : Bool) → flat_map (λ (l : List ℕ). l) (raw_lines bs) ≡ bs → flat_map (λ (l : List ℕ). l) (cond t ((b ∷ []) ∷ raw_lines bs) (onto_first b (raw_lines bs))) ≡ b ∷ bs
  at true e = ap (λ l. b ∷ l) e
  at false e = joined-onto b (raw_lines bs) ∙ ap (λ l. b ∷ l) e

raw-numbered : (n : ℕ) (lines : List (List ℕ)) → raw_bytes (numbered_from n lines) ≡ flat_map (λ (l : List ℕ). l) lines
raw-numbered n [] = refl
raw-numbered n (l ∷ ls) = ap (λ ls. l ++ ls) (raw-numbered (n + 1) ls)

pub raw_bytes-lines : (n : ℕ) (text : List ℕ) → raw_bytes (numbered_from n (raw_lines text)) ≡ text
raw_bytes-lines n text = raw-numbered n (raw_lines text) ∙ joined-lines text

-- Two texts with the same lines are the same.
same-bytes : (m n : ℕ) (a b : List ℕ) → numbered_from m (raw_lines a) ≡ numbered_from n (raw_lines b) → a ≡ b
same-bytes m n a b e = sym (raw_bytes-lines m a) ∙ ap raw_bytes e ∙ raw_bytes-lines n b

-- the lines before the first that begins a piece
abbrev pub before_cut : (JobLine → Bool) → List JobLine → List JobLine
before_cut starts lines = (cut_before starts lines).before

-- what begins no part of an envelope
pub no-word : (x : JobLine) → is_envelope_word (text_of x) ≡ false → begins_envelopes x ≡ false
no-word x e = at (is_heading x) (is_envelope_word (text_of x)) e where
  at : (a b : Bool) → b ≡ false → (a && b) ≡ false
  at true b f = f
  at false b f = refl

pub no-heading : (x : JobLine) → is_heading x ≡ false → begins_envelopes x ≡ false
no-heading x e = at (is_heading x) (is_envelope_word (text_of x)) e where
  at : (a b : Bool) → a ≡ false → (a && b) ≡ false
  at true b f = absurd (let no : ⊥ = cc in no)
  at false b f = refl

-- Lines that were passed, none of which begins a piece, stand before the others.
pub record IsPast (starts : JobLine → Bool) (bytes left : List ℕ) (lines rest : List JobLine) : Type 0 where
  pub passed : List JobLine
  pub bytes_are : bytes ≡ raw_bytes passed ++ left
  pub lines_are : lines ≡ passed ++ rest
  pub before : before_cut starts lines ≡ passed ++ before_cut starts rest

pub IsPast-start : (starts : JobLine → Bool) (text : List ℕ) (place : Place) → lines_at place ≡ job_lines text → IsPast starts text place.rest.now (job_lines text) (lines_at place)
IsPast-start starts text place e = record {
  passed = [];
  bytes_are = sym (same-bytes (place.line + 1) 1 place.rest.now text e);
  lines_are = sym e;
  before = ap (before_cut starts) (sym e);
}

pub before-line : (starts : JobLine → Bool) (x : JobLine) (xs : List JobLine) → before_cut starts (x ∷ xs) ≡ cond (starts x) [] (x ∷ before_cut starts xs)
before-line starts x xs = at (starts x) where
  at : (t : Bool) → (cond {A = Cut JobLine} t (record { before = []; pieces = (x ∷ before_cut starts xs) ∷ (cut_before starts xs).pieces }) (record { before = x ∷ before_cut starts xs; pieces = (cut_before starts xs).pieces })).before ≡ cond t [] (x ∷ before_cut starts xs)
  at true = refl
  at false = refl

pieces-line : (starts : JobLine → Bool) (x : JobLine) (xs : List JobLine) → (cut_before starts (x ∷ xs)).pieces ≡ cond (starts x) ((x ∷ before_cut starts xs) ∷ (cut_before starts xs).pieces) (cut_before starts xs).pieces
pieces-line starts x xs = at (starts x) where
  at : (t : Bool) → (cond {A = Cut JobLine} t (record { before = []; pieces = (x ∷ before_cut starts xs) ∷ (cut_before starts xs).pieces }) (record { before = x ∷ before_cut starts xs; pieces = (cut_before starts xs).pieces })).pieces ≡ cond t ((x ∷ before_cut starts xs) ∷ (cut_before starts xs).pieces) (cut_before starts xs).pieces
  at true = refl
  at false = refl

before-cut : (starts : JobLine → Bool) (x : JobLine) (xs : List JobLine) → starts x ≡ true → before_cut starts (x ∷ xs) ≡ []
before-cut starts x xs e = before-line starts x xs ∙ ap (λ (t : Bool). cond t [] (x ∷ before_cut starts xs)) e

before-more : (starts : JobLine → Bool) (x : JobLine) (xs : List JobLine) → starts x ≡ false → before_cut starts (x ∷ xs) ≡ x ∷ before_cut starts xs
before-more starts x xs e = before-line starts x xs ∙ ap (λ (t : Bool). cond t [] (x ∷ before_cut starts xs)) e

pub IsPast-line : (starts : JobLine → Bool) (bytes left after : List ℕ) (lines rest behind : List JobLine) (x : JobLine) → IsPast starts bytes left lines rest → rest ≡ x ∷ behind → left ≡ x.raw ++ after → starts x ≡ false → IsPast starts bytes after lines behind
IsPast-line starts bytes left after lines rest behind x h e f g = record {
  passed = h.passed ++ x ∷ [];
  bytes_are =
      h.bytes_are ∙ ap (λ l. raw_bytes h.passed ++ l) f ∙ sym (append_assoc (raw_bytes h.passed) x.raw after)
      ∙ ap (λ l. l ++ after) (sym (flat_map-append (λ (l : JobLine). l.raw) h.passed (x ∷ []) ∙ ap (λ l. raw_bytes h.passed ++ l) (append-nil x.raw)));
  lines_are = h.lines_are ∙ ap (λ l. h.passed ++ l) e ∙ sym (append_assoc h.passed (x ∷ []) behind);
  before = h.before ∙ ap (λ l. h.passed ++ before_cut starts l) e ∙ ap (λ l. h.passed ++ l) (before-more starts x behind g) ∙ sym (append_assoc h.passed (x ∷ []) (before_cut starts behind));
}

-- What the lines before a piece, or the end, are.
pub record IsAtPiece (starts : JobLine → Bool) (bytes left : List ℕ) (lines rest : List JobLine) : Type 0 where
  pub heading : before_cut starts rest ≡ []
  pub lines_are : lines ≡ before_cut starts lines ++ rest
  pub bytes_are : bytes ≡ raw_bytes (before_cut starts lines) ++ left
  pub behind : rest ≡ drop (length (before_cut starts lines)) lines

at-piece : (starts : JobLine → Bool) (bytes left : List ℕ) (lines rest : List JobLine) → IsPast starts bytes left lines rest → before_cut starts rest ≡ [] → IsAtPiece starts bytes left lines rest
at-piece starts bytes left lines rest h e =
    let all : h.passed ≡ before_cut starts lines = sym (h.before ∙ ap (λ l. h.passed ++ l) e ∙ append-nil h.passed) in
    let parted : lines ≡ before_cut starts lines ++ rest = h.lines_are ∙ ap (λ l. l ++ rest) all in
    record {
      heading = e;
      lines_are = parted;
      bytes_are = h.bytes_are ∙ ap (λ l. raw_bytes l ++ left) all;
      behind = sym (ap (drop (length (before_cut starts lines))) parted ∙ drop-append_seam (before_cut starts lines) rest);
    }

pub IsAtPiece-start : (starts : JobLine → Bool) (bytes left : List ℕ) (lines rest behind : List JobLine) (x : JobLine) → IsPast starts bytes left lines rest → rest ≡ x ∷ behind → starts x ≡ true → IsAtPiece starts bytes left lines rest
IsAtPiece-start starts bytes left lines rest behind x h e f = at-piece starts bytes left lines rest h (ap (before_cut starts) e ∙ before-cut starts x behind f)

pub IsAtPiece-end : (starts : JobLine → Bool) (bytes left : List ℕ) (lines rest : List JobLine) → IsPast starts bytes left lines rest → rest ≡ [] → IsAtPiece starts bytes left lines rest
IsAtPiece-end starts bytes left lines rest h e = at-piece starts bytes left lines rest h (ap (before_cut starts) e)

-- the bytes between two places
pub bytes_between : (bytes left middle : List ℕ) → bytes ≡ middle ++ left → take (length bytes - length left) bytes ≡ middle
bytes_between bytes left middle e =
    let long : length bytes - length left ≡ length middle = omega (arith, ap length e, length-append middle left) in
    ap (λ n. take n bytes) long ∙ ap (take (length middle)) e ∙ take-append_seam middle left

-- the numbers of the lines that break the envelopes, after those before them
abbrev broken_after : List JobLine → List JobLine → List ℕ
broken_after done rest = each_after (λ earlier x. cond (breaks_envelopes earlier x) (x.number ∷ []) []) done rest

or_false : (b : Bool) → (b || false) ≡ b
or_false true = refl
or_false false = refl

or_true : (b : Bool) → (b || true) ≡ true
or_true true = refl
or_true false = refl

or_swapped : (a b : Bool) → (a || b) ≡ (b || a)
or_swapped true b = sym (or_true b)
or_swapped false b = sym (or_false b)

-- `%end` has no ID.
word-else : (text : List ℕ) → is_end text ≡ true → begins_with (codes "%envelope") text ≡ true → ⊥
word-else text e f =
    let ends : trimmed_end text ≡ codes "%end" = (bytes_eq-Decides (trimmed_end text) (codes "%end")).0 e in
    let begins : take 9 text ≡ codes "%envelope" = (bytes_eq-Decides (take 9 text) (codes "%envelope")).0 f in
    let kept : length text - suffix_len is_white text ≡ 4 = omega (arith, ap length ends, length-take (length text - suffix_len is_white text) text) in
    let four : take 4 text ≡ codes "%end" = ap (λ n. take n text) (sym kept) ∙ ends in
    let same : take 4 (codes "%envelope") ≡ codes "%end" = ap (take 4) (sym begins) ∙ take-take 4 9 text (omega arith) ∙ four in
    let no : true ≡ false = sym ((bytes_eq-Decides (take 4 (codes "%envelope")) (codes "%end")).1 same) in
    true≢false no

pub end-nameless : (text : List ℕ) → is_end text ≡ true → id_of text ≡ None
end-nameless text e = at (begins_with (codes "%envelope") text) refl where
  at : (t : Bool) → begins_with (codes "%envelope") text ≡ t → id_of text ≡ None
  at true f = absurd (word-else text e f)
  at false f = rw f

pub named-begins : (text id : List ℕ) → id_of text ≡ Some id → is_end text ≡ false
named-begins text id e = at (is_end text) refl where
  at : (t : Bool) → is_end text ≡ t → is_end text ≡ false
  at true f = absurd (let none : id_of text ≡ None = end-nameless text f in let no : ⊥ = cc in no)
  at false f = f

-- What a line is behind others is what it is behind their IDs.
same-breaks : (done : List JobLine) (ids : List (List ℕ)) (x : JobLine) → ((q : List ℕ) → has_id done q ≡ has_text ids q) → breaks_envelopes done x ≡ breaks_behind (has_begun done) ids x
same-breaks done ids x h = at (is_heading x) (is_end (text_of x)) (id_of (text_of x)) refl refl refl where
  at : (t u : Bool) (o : Option (List ℕ)) → is_heading x ≡ t → is_end (text_of x) ≡ u → id_of (text_of x) ≡ o → breaks_envelopes done x ≡ breaks_behind (has_begun done) ids x
  at true true o e f g = rw (e, f)
  at true false (Some id) e f g = rw (e, f, g) (h id)
  at true false None e f g = rw (e, f, g)
  at false u o e f g = rw e

same-ids : (done : List JobLine) (ids : List (List ℕ)) (x : JobLine) → ((q : List ℕ) → has_id done q ≡ has_text ids q) → (q : List ℕ) → has_id (done ++ x ∷ []) q ≡ has_text (ids_behind ids x) q
same-ids done ids x h q = list_any-append _ done (x ∷ []) ∙ ap (λ (b : Bool). b || has_id (x ∷ []) q) (h q) ∙ at (is_heading x) (id_of (text_of x)) refl refl where
  at : (t : Bool) (o : Option (List ℕ)) → is_heading x ≡ t → id_of (text_of x) ≡ o → (has_text ids q || has_id (x ∷ []) q) ≡ has_text (ids_behind ids x) q
  at true (Some id) e f = rw (e, f) (ap (λ (b : Bool). has_text ids q || b) (or_false (bytes_eq q id)) ∙ or_swapped (has_text ids q) (bytes_eq q id))
  at true None e f = rw (e, f) (or_false (has_text ids q))
  at false o e f = rw e (or_false (has_text ids q))

bad-after : (done lines : List JobLine) (ids : List (List ℕ)) → ((q : List ℕ) → has_id done q ≡ has_text ids q) → slice_get (broken_after done lines) 0 ≡ bad_behind (has_begun done) ids lines
bad-after done [] ids h = refl
bad-after done (x ∷ xs) ids h =
    ap (λ (t : Bool). slice_get (cond t (x.number ∷ []) [] ++ later) 0) (same-breaks done ids x h)
    ∙ at (breaks_behind (has_begun done) ids x) (bad-after (done ++ x ∷ []) xs (ids_behind ids x) (same-ids done ids x h)) where
      later : List ℕ
      later = broken_after (done ++ x ∷ []) xs

      at : (t : Bool) → slice_get later 0 ≡ bad_behind (has_begun (done ++ x ∷ [])) (ids_behind ids x) xs
          → slice_get (cond t (x.number ∷ []) [] ++ later) 0 ≡ cond t (Some x.number) (bad_behind (goes_on (has_begun done) x) (ids_behind ids x) xs)
      at true e = refl
      at false e = e ∙ ap (λ (t : Bool). bad_behind t (ids_behind ids x) xs) (fold-append goes_on false done (x ∷ []))

pub bad-all : (lines : List JobLine) → bad_envelopes lines ≡ bad_behind false [] lines
bad-all lines = bad-after [] lines [] (λ q. refl)

pub blank-passed : (ids : List (List ℕ)) (x : JobLine) (xs : List JobLine) → is_heading x ≡ false → list_all is_white (text_of x) ≡ true → bad_behind false ids (x ∷ xs) ≡ bad_behind false ids xs
blank-passed ids x xs e f = rw (e, f)

pub stray-breaks : (ids : List (List ℕ)) (x : JobLine) (xs : List JobLine) → is_heading x ≡ false → list_all is_white (text_of x) ≡ false → bad_behind false ids (x ∷ xs) ≡ Some x.number
stray-breaks ids x xs e f = rw (e, f)

-- What a heading is doesn't hang on an envelope before it, but for `%end`.
pub end-passed : (ids : List (List ℕ)) (x : JobLine) (xs : List JobLine) → is_heading x ≡ true → is_end (text_of x) ≡ true → bad_behind true ids (x ∷ xs) ≡ bad_behind false ids xs
end-passed ids x xs e f = rw (e, f, end-nameless (text_of x) f)

pub not-ended : (ids : List (List ℕ)) (x : JobLine) (xs : List JobLine) → is_heading x ≡ true → is_end (text_of x) ≡ false → bad_behind true ids (x ∷ xs) ≡ bad_behind false ids (x ∷ xs)
not-ended ids x xs e f = rw (e, f)

pub other-passed : (x : JobLine) (xs : List JobLine) → is_heading x ≡ false → envelopes_of (x ∷ xs) ≡ envelopes_of xs
unfolding envelopes_of
other-passed x xs e = ap (flat_map section_of) (pieces-line is_heading x xs ∙ ap (λ (t : Bool). cond t ((x ∷ before_cut is_heading xs) ∷ (cut_before is_heading xs).pieces) (cut_before is_heading xs).pieces) e)

-- None of the lines before a piece begins one.
pub before-none : (starts : JobLine → Bool) (lines : List JobLine) → list_any starts (before_cut starts lines) ≡ false
before-none starts [] = refl
before-none starts (x ∷ xs) = ap (list_any starts) (before-line starts x xs) ∙ at (starts x) refl (before-none starts xs) where
  at : (t : Bool) → starts x ≡ t → list_any starts (before_cut starts xs) ≡ false → list_any starts (cond t [] (x ∷ before_cut starts xs)) ≡ false
  at true e h = refl
  at false e h = rw e h

pub before-headings : (lines : List JobLine) → list_any is_heading (before_cut is_heading lines) ≡ false
before-headings lines = before-none is_heading lines

other-front : (x : JobLine) (xs : List JobLine) → list_any is_heading (x ∷ xs) ≡ false → (is_heading x ≡ false) × (list_any is_heading xs ≡ false)
other-front x xs h = neither-any (is_heading x) (list_any is_heading xs) h

all-passed : (content next : List JobLine) → list_any is_heading content ≡ false → envelopes_of (content ++ next) ≡ envelopes_of next
all-passed [] next h = refl
all-passed (x ∷ xs) next h = other-passed x (xs ++ next) (other-front x xs h).0 ∙ all-passed xs next (other-front x xs h).1

content-passed : (ids : List (List ℕ)) (content next : List JobLine) → list_any is_heading content ≡ false → bad_behind true ids (content ++ next) ≡ bad_behind true ids next
content-passed ids [] next h = refl
content-passed ids (x ∷ xs) next h = rw (other-front x xs h).0 (content-passed ids xs next (other-front x xs h).1)

-- What a pass over the sections knows before the heading that `rest` begins with.
pub record Scanned (all rest : List JobLine) (sections : List Section) (ids : List (List ℕ)) : Type 0 where
  pub known : List (List ℕ)
  pub seen : (q : List ℕ) → has_text known q ≡ has_text ids q
  pub unbroken : bad_behind false known rest ≡ bad_envelopes all
  pub found : sections ++ envelopes_of rest ≡ envelopes_of all

pub Scanned-start : (all rest : List JobLine) (sections : List Section) (ids : List (List ℕ)) → sections ≡ [] → ids ≡ [] → ((ids : List (List ℕ)) → bad_behind false ids all ≡ bad_behind false ids rest) → envelopes_of all ≡ envelopes_of rest → Scanned all rest sections ids
Scanned-start all rest sections ids none empty e f = record {
  known = [];
  seen = λ q. rw empty;
  unbroken = sym (bad-all all ∙ e []);
  found = rw none (sym f);
}

-- A line that begins a section is a heading.
pub heading-first : (lines : List JobLine) (x : JobLine) (xs : List JobLine) → lines ≡ x ∷ xs → before_cut is_heading lines ≡ [] → is_heading x ≡ true
heading-first lines x xs e h = at (is_heading x) refl (ap (before_cut is_heading) (sym e) ∙ h) where
  at : (t : Bool) → is_heading x ≡ t → before_cut is_heading (x ∷ xs) ≡ [] → is_heading x ≡ true
  at true f g = f
  at false f g = absurd (let is : x ∷ before_cut is_heading xs ≡ [] = sym (before-more is_heading x xs f) ∙ g in let no : ⊥ = cc in no)

pub Scanned-nameless : (all : List JobLine) (x : JobLine) (xs : List JobLine) (sections : List Section) (ids : List (List ℕ)) → Scanned all (x ∷ xs) sections ids → is_heading x ≡ true → id_of (text_of x) ≡ None → bad_envelopes all ≡ Some x.number
Scanned-nameless all x xs sections ids h e f = sym h.unbroken ∙ at (is_end (text_of x)) refl where
  at : (t : Bool) → is_end (text_of x) ≡ t → bad_behind false h.known (x ∷ xs) ≡ Some x.number
  at true g = rw (e, g)
  at false g = rw (e, g, f)

pub Scanned-repeated : (all : List JobLine) (x : JobLine) (xs : List JobLine) (sections : List Section) (ids : List (List ℕ)) (id : List ℕ) → Scanned all (x ∷ xs) sections ids → is_heading x ≡ true → id_of (text_of x) ≡ Some id → has_text ids id ≡ true → bad_envelopes all ≡ Some x.number
Scanned-repeated all x xs sections ids id h e f g = sym h.unbroken ∙ rw (e, named-begins (text_of x) id f, f, h.seen id ∙ g)

-- a heading, and the lines of its section behind it
abbrev pub section_at : JobLine → List ℕ → List JobLine → Section
section_at x id lines = record { line = x.number; id = id; bytes = raw_bytes (before_cut is_heading lines) }

at-heading : (x : JobLine) (xs : List JobLine) → is_heading x ≡ true → envelopes_of (x ∷ xs) ≡ section_of (x ∷ before_cut is_heading xs) ++ envelopes_of xs
unfolding envelopes_of
at-heading x xs e = ap (flat_map section_of) (pieces-line is_heading x xs ∙ ap (λ (t : Bool). cond t ((x ∷ before_cut is_heading xs) ∷ (cut_before is_heading xs).pieces) (cut_before is_heading xs).pieces) e)

pub heading-found : (x : JobLine) (xs : List JobLine) → is_heading x ≡ true → is_end (text_of x) ≡ false → envelopes_of (x ∷ xs) ≡ section_at x (id_or_none (id_of (text_of x))) xs ∷ envelopes_of xs
heading-found x xs e f = at-heading x xs e ∙ ap (λ (t : Bool). cond t [] (section_at x (id_or_none (id_of (text_of x))) xs ∷ []) ++ envelopes_of xs) f

pub end-found : (x : JobLine) (xs : List JobLine) → is_heading x ≡ true → is_end (text_of x) ≡ true → envelopes_of (x ∷ xs) ≡ envelopes_of xs
end-found x xs e f = at-heading x xs e ∙ ap (λ (t : Bool). cond t [] (section_at x (id_or_none (id_of (text_of x))) xs ∷ []) ++ envelopes_of xs) f

-- A heading with a new ID and the lines up to the next are passed.
module _ (all : List JobLine) (x : JobLine) (xs next : List JobLine) (sections : List Section) (ids : List (List ℕ)) (id : List ℕ) (h : Scanned all (x ∷ xs) sections ids) (e : is_heading x ≡ true) (f : id_of (text_of x) ≡ Some id)
    (fresh : has_text ids id ≡ false) (parted : xs ≡ before_cut is_heading xs ++ next) where
  passed : bad_envelopes all ≡ bad_behind true (id ∷ h.known) next
  passed = sym h.unbroken
      ∙ rw (e, named-begins (text_of x) id f, f, h.seen id ∙ fresh) (ap (bad_behind true (id ∷ h.known)) parted ∙ content-passed (id ∷ h.known) (before_cut is_heading xs) next (before-headings xs))

  pub Scanned-stray : (fault : RunFault) → ((ids : List (List ℕ)) → option_map BadJob (bad_behind true ids next) ≡ Some fault) → option_map BadJob (bad_envelopes all) ≡ Some fault
  Scanned-stray fault refused = ap (option_map BadJob) passed ∙ refused (id ∷ h.known)

  pub Scanned-taken : (after : List JobLine) (more : List Section) (added : List (List ℕ)) → ((q : List ℕ) → has_text added q ≡ (bytes_eq q id || has_text ids q)) → more ≡ sections ++ section_at x id xs ∷ []
      → ((ids : List (List ℕ)) → bad_behind true ids next ≡ bad_behind false ids after) → envelopes_of next ≡ envelopes_of after → Scanned all after more added
  Scanned-taken after more added adds is unbroken found = record {
    known = id ∷ h.known;
    seen = λ q. ap (λ (b : Bool). bytes_eq q id || b) (h.seen q) ∙ sym (adds q);
    unbroken = sym (passed ∙ unbroken (id ∷ h.known));
    found =
        ap (λ l. l ++ envelopes_of after) is
        ∙ append_assoc sections (section_at x id xs ∷ []) (envelopes_of after)
        ∙ ap (λ l. sections ++ section_at x id xs ∷ l) (sym (ap envelopes_of parted ∙ all-passed (before_cut is_heading xs) next (before-headings xs) ∙ found))
        ∙ ap (λ l. sections ++ l) (sym (heading-found x xs e (named-begins (text_of x) id f) ∙ ap (λ o. section_at x (id_or_none o) xs ∷ envelopes_of xs) f))
        ∙ h.found;
  }

pub Scanned-unbroken : (all rest : List JobLine) (sections : List Section) (ids : List (List ℕ)) → Scanned all rest sections ids → rest ≡ [] → bad_envelopes all ≡ None
Scanned-unbroken all rest sections ids h e = sym h.unbroken ∙ ap (bad_behind false h.known) e

pub Scanned-found : (all rest : List JobLine) (sections : List Section) (ids : List (List ℕ)) → Scanned all rest sections ids → rest ≡ [] → sections ≡ envelopes_of all
unfolding envelopes_of
Scanned-found all rest sections ids h e = sym (append-nil sections) ∙ rw e at h.found
