-- Joined files have the logical lines of each.
use Rattle.std.proofs.Common.{◌≡◌, ℕ, ◌+◌, Bool, true, false, not, cond, eqb, ◌&&◌, ◌||◌, ◌==◌, List, [], ◌∷◌, ◌++◌, map, refl, sym, ap, ◌∙◌, inl, inr, append_assoc}
use Rattle.std.specs.List.{flat_map, filter, before_first, enumerate_from}
use Rattle.std.proofs.lemmas.Bool.{true≢false}
use Rattle.std.proofs.lemmas.Grind.{flat_map-append}
use Rattle.std.proofs.lemmas.List.{append-nil, map-append}
use Rattle.relay_text.specs.Bytes.{is_white}
use Rattle.relay_text.specs.Lines.{raw_lines, physical_lines, line_text, without_cr, is_ignored, kept_lines, begins_logical_line, Cut, cut_before, joined, logical_lines_of}
use Rattle.relay_text.specs.declared.lines.Line.{Line}
use Rattle.relay_gather.specs.Source.{Answer, unknown, absent, failed, file}
use Rattle.relay_gather.specs.Sections.{with_end}
use Rattle.relay_gather.specs.JoinedFiles.{begins_white, is_beginning, is_continuing, apart_line, apart_lines, apart, behind, joined_files, logical_texts, logical_texts_in, AreApart}
use Rattle.relay_gather.specs.Origins.{first_lines, later_lines, AreLinesOfFiles}
use Rattle.relay_gather.proofs.Lines.{HasNoEnd, IsClosed, IsOpen, AreLines, raw_lines-are, closed_line, AllPlain, with_end-line, with_end-plain, lines_whole}
use Rattle.relay_gather.proofs.TextLines.{take_one, before_end, raw_first}

-- ---- logical lines by the texts of physical lines
abbrev starts : List ℕ → Bool
starts [] = false
starts (b ∷ bs) = not (is_white b)

starts-is : (l : Line) → begins_logical_line l ≡ starts l.text
starts-is l = at l.text refl where
  at : (t : List ℕ) → l.text ≡ t → begins_logical_line l ≡ starts l.text
  at [] e = rw e refl
  at (b ∷ bs) e = rw e refl

-- the texts of the lines that aren't ignored
abbrev kept : List (List ℕ) → List (List ℕ)
kept [] = []
kept (raw ∷ raws) = cond (is_ignored (line_text raw)) (kept raws) (line_text raw ∷ kept raws)

abbrev text_of : Line → List ℕ
text_of l = l.text

abbrev joined_texts : List (List ℕ) → List (List ℕ)
joined_texts [] = []
joined_texts (t ∷ ts) = flat_map (λ u. u) (t ∷ ts) ∷ []

abbrev lines_in : List (List ℕ) → List (List ℕ)
lines_in ts = flat_map joined_texts (cut_before starts ts).pieces

abbrev keeps : Line → Bool
keeps l = not (is_ignored l.text)

abbrev numbered : ℕ → List (List ℕ) → List Line
numbered n raws = map (λ p. record { number = p.0; text = p.1 }) (enumerate_from n (map line_text raws))

kept-is : (n : ℕ) (raws : List (List ℕ)) → map text_of (filter keeps (numbered n raws)) ≡ kept raws
kept-is n [] = refl
kept-is n (raw ∷ raws) = at (is_ignored (line_text raw)) (kept-is (n + 1) raws) where
  at : (b : Bool) → map text_of (filter keeps (numbered (n + 1) raws)) ≡ kept raws
      → map text_of (cond (not b) (record { number = n; text = line_text raw } ∷ filter keeps (numbered (n + 1) raws)) (filter keeps (numbered (n + 1) raws))) ≡ cond b (kept raws) (line_text raw ∷ kept raws)
  at true h = h
  at false h = ap (λ ts. line_text raw ∷ ts) h

abbrev texts_of_cut : Cut Line → Cut (List ℕ)
texts_of_cut c = record { before = map text_of c.before; pieces = map (map text_of) c.pieces }

abbrev cut_at : {X : Type 0} → Bool → X → Cut X → Cut X
cut_at b x rest = cond b (record { before = []; pieces = (x ∷ rest.before) ∷ rest.pieces }) (record { before = x ∷ rest.before; pieces = rest.pieces })

cut_texts : (ls : List Line) → cut_before starts (map text_of ls) ≡ texts_of_cut (cut_before begins_logical_line ls)
cut_texts [] = refl
cut_texts (l ∷ ls) =
    ap (λ (c : Cut (List ℕ)). cut_at (starts l.text) l.text c) (cut_texts ls)
    ∙ ap (λ (b : Bool). cut_at b l.text (texts_of_cut (cut_before begins_logical_line ls))) (sym (starts-is l))
    ∙ at (begins_logical_line l) where
      at : (b : Bool) → cut_at b l.text (texts_of_cut (cut_before begins_logical_line ls)) ≡ texts_of_cut (cut_at b l (cut_before begins_logical_line ls))
      at true = refl
      at false = refl

text_of_all : (ls : List Line) → flat_map text_of ls ≡ flat_map (λ (u : List ℕ). u) (map text_of ls)
text_of_all [] = refl
text_of_all (l ∷ ls) = ap (λ t. l.text ++ t) (text_of_all ls)

joined-is : (pieces : List (List Line)) → map text_of (flat_map joined pieces) ≡ flat_map joined_texts (map (map text_of) pieces)
joined-is [] = refl
joined-is ([] ∷ pieces) = joined-is pieces
joined-is ((l ∷ ls) ∷ pieces) = ap (λ t. t ∷ map text_of (flat_map joined pieces)) (text_of_all (l ∷ ls)) ∙ ap (λ ts. flat_map (λ (u : List ℕ). u) (map text_of (l ∷ ls)) ∷ ts) (joined-is pieces)

logical_texts-are : (text : List ℕ) → logical_texts text ≡ lines_in (kept (raw_lines text))
unfolding logical_lines_of
logical_texts-are text =
    joined-is (cut_before begins_logical_line (kept_lines text)).pieces
    ∙ ap (λ (c : Cut (List ℕ)). flat_map joined_texts c.pieces) (sym (cut_texts (kept_lines text)))
    ∙ ap lines_in (kept-is 1 (raw_lines text))

-- ---- lines behind others, of which the first begins a logical line
cut-behind : (ts us : List (List ℕ)) → (cut_before starts us).before ≡ []
    → cut_before starts (ts ++ us) ≡ record { before = (cut_before starts ts).before; pieces = (cut_before starts ts).pieces ++ (cut_before starts us).pieces }
cut-behind [] us h = ap (λ (ls : List (List ℕ)). record { before = ls; pieces = (cut_before starts us).pieces }) h
cut-behind (t ∷ ts) us h = ap (cut_at (starts t) t) (cut-behind ts us h) ∙ at (starts t) where
  at : (b : Bool) → cut_at b t (record { before = (cut_before starts ts).before; pieces = (cut_before starts ts).pieces ++ (cut_before starts us).pieces })
      ≡ record { before = (cut_at b t (cut_before starts ts)).before; pieces = (cut_at b t (cut_before starts ts)).pieces ++ (cut_before starts us).pieces }
  at true = refl
  at false = refl

lines_in-behind : (ts us : List (List ℕ)) → (cut_before starts us).before ≡ [] → lines_in (ts ++ us) ≡ lines_in ts ++ lines_in us
lines_in-behind ts us h =
    ap (λ (c : Cut (List ℕ)). flat_map joined_texts c.pieces) (cut-behind ts us h)
    ∙ flat_map-append joined_texts (cut_before starts ts).pieces (cut_before starts us).pieces

-- ---- physical lines and their texts

line_one : (b : ℕ) (bs : List ℕ) → eqb b 10 ≡ false → line_text (b ∷ bs) ≡ without_cr (b ∷ before_first (λ c. c == 10) bs)
line_one b bs e = rw e (ap without_cr (take_one _ b bs))

comment_ignored : (raw : List ℕ) → is_ignored (line_text (35 ∷ raw)) ≡ true
comment_ignored raw = ap is_ignored (line_one 35 raw refl) ∙ at (before_first (λ c. c == 10) raw) where
  at : (t : List ℕ) → is_ignored (without_cr (35 ∷ t)) ≡ true
  at [] = refl
  at (c ∷ cs) = refl

white_first : (b : ℕ) (bs : List ℕ) → begins_white (b ∷ bs) ≡ is_white b
white_first b bs = at (eqb b 32) (eqb b 9) where
  at : (p q : Bool) → ((p && true) || (q && true)) ≡ (p || q)
  at true q = refl
  at false true = refl
  at false false = refl

-- a line that isn't ignored begins as its text does
kept_begins : (raw : List ℕ) → is_ignored (line_text raw) ≡ false → starts (line_text raw) ≡ not (begins_white raw)
kept_begins [] e = absurd (true≢false e)
kept_begins (b ∷ bs) e = at (eqb b 10) refl where
  text : (t : List ℕ) → is_ignored (without_cr (b ∷ t)) ≡ false → starts (without_cr (b ∷ t)) ≡ not (begins_white (b ∷ bs))
  text [] f = one (eqb b 13) f where
    one : (k : Bool) → is_ignored (cond k [] (b ∷ [])) ≡ false → starts (cond k [] (b ∷ [])) ≡ not (begins_white (b ∷ bs))
    one true f = absurd (true≢false f)
    one false f = ap not (sym (white_first b bs))
  text (c ∷ cs) f = ap not (sym (white_first b bs))

  at : (k : Bool) → eqb b 10 ≡ k → starts (line_text (b ∷ bs)) ≡ not (begins_white (b ∷ bs))
  at true f = absurd (true≢false (sym (none f) ∙ e)) where
    none : eqb b 10 ≡ true → is_ignored (line_text (b ∷ bs)) ≡ true
    none f = rw f refl
  at false f = ap starts (line_one b bs f) ∙ text (before_first (λ c. c == 10) bs) (ap is_ignored (sym (line_one b bs f)) ∙ e)

-- ---- a later file begins with a logical line
record IsApart (raws : List (List ℕ)) : Type 0 where
  pub begun : (cut_before starts (kept (apart_lines raws))).before ≡ []
  pub pieces : (cut_before starts (kept (apart_lines raws))).pieces ≡ (cut_before starts (kept raws)).pieces

abbrev cut_kept : List (List ℕ) → Cut (List ℕ)
cut_kept raws = cut_before starts (kept raws)

apart_cases : (white ignored : Bool) (raw : List ℕ) (raws : List (List ℕ)) → begins_white raw ≡ white → is_ignored (line_text raw) ≡ ignored → IsApart raws → IsApart (raw ∷ raws)
apart_cases false false raw raws e f h =
    let first : apart_lines (raw ∷ raws) ≡ raw ∷ raws = rw (e, f) refl in
    let begins : starts (line_text raw) ≡ true = kept_begins raw f ∙ ap not e in
    let cut : cut_kept (raw ∷ raws) ≡ record { before = []; pieces = (line_text raw ∷ (cut_kept raws).before) ∷ (cut_kept raws).pieces } =
    ap (λ (b : Bool). cut_before starts (cond b (kept raws) (line_text raw ∷ kept raws))) f ∙ ap (λ (b : Bool). cut_at b (line_text raw) (cut_kept raws)) begins in
    record {
      begun = ap (λ ls. (cut_kept ls).before) first ∙ ap (λ (c : Cut (List ℕ)). c.before) cut;
      pieces = ap (λ ls. (cut_kept ls).pieces) first;
    }
apart_cases true false raw raws e f h =
    let first : apart_lines (raw ∷ raws) ≡ (35 ∷ raw) ∷ apart_lines raws = rw (e, f) refl in
    let gone : kept (apart_lines (raw ∷ raws)) ≡ kept (apart_lines raws) = ap kept first ∙ ap (λ (b : Bool). cond b (kept (apart_lines raws)) (line_text (35 ∷ raw) ∷ kept (apart_lines raws))) (comment_ignored raw) in
    let goes_on : starts (line_text raw) ≡ false = kept_begins raw f ∙ ap not e in
    let cut : (cut_kept (raw ∷ raws)).pieces ≡ (cut_kept raws).pieces =
    ap (λ (b : Bool). (cut_before starts (cond b (kept raws) (line_text raw ∷ kept raws))).pieces) f ∙ ap (λ (b : Bool). (cut_at b (line_text raw) (cut_kept raws)).pieces) goes_on in
    record {
      begun = ap (λ ts. (cut_before starts ts).before) gone ∙ h.begun;
      pieces = ap (λ ts. (cut_before starts ts).pieces) gone ∙ h.pieces ∙ sym cut;
    }
apart_cases white true raw raws e f h =
    let first : apart_lines (raw ∷ raws) ≡ raw ∷ apart_lines raws = rw (e, f) (ignored white) in
    let gone : kept (apart_lines (raw ∷ raws)) ≡ kept (apart_lines raws) = ap kept first ∙ ap (λ (b : Bool). cond b (kept (apart_lines raws)) (line_text raw ∷ kept (apart_lines raws))) f in
    let cut : (cut_kept (raw ∷ raws)).pieces ≡ (cut_kept raws).pieces = ap (λ (b : Bool). (cut_before starts (cond b (kept raws) (line_text raw ∷ kept raws))).pieces) f in
    record {
      begun = ap (λ ts. (cut_before starts ts).before) gone ∙ h.begun;
      pieces = ap (λ ts. (cut_before starts ts).pieces) gone ∙ h.pieces ∙ sym cut;
    } where
      ignored : (w : Bool) → cond (not w && false) (raw ∷ raws) (cond (w && false) (35 ∷ raw) raw ∷ apart_lines raws) ≡ raw ∷ apart_lines raws
      ignored true = refl
      ignored false = refl

is_apart : (raws : List (List ℕ)) → IsApart raws
is_apart [] = record { begun = refl; pieces = refl }
is_apart (raw ∷ raws) = apart_cases (begins_white raw) (is_ignored (line_text raw)) raw raws refl refl (is_apart raws)

-- ---- a text and its physical lines
raw_plain : (b : ℕ) (bs : List ℕ) → HasNoEnd (b ∷ bs) → raw_lines (b ∷ bs) ≡ (b ∷ bs) ∷ []
raw_plain b [] h = rw h.0 refl
raw_plain b (c ∷ bs) h = rw h.0 (ap (λ ls. onto b ls) (raw_plain c bs h.1)) where
  onto : ℕ → List (List ℕ) → List (List ℕ)
  onto = Rattle.std.specs.List.onto_first

raw_again : (ls : List (List ℕ)) → AreLines ls → raw_lines (flat_map (λ l. l) ls) ≡ ls
raw_again [] h = refl
raw_again (l ∷ []) h =
    ap raw_lines (append-nil l) ∙ elim h [
      | inl closed ↦ ap raw_lines closed.is ∙ raw_first closed.text [] closed.plain ∙ ap (λ t. t ∷ []) (sym closed.is)
      | inr bare ↦ ap raw_lines bare.is ∙ raw_plain bare.first bare.more bare.plain ∙ ap (λ t. t ∷ []) (sym bare.is)
    ]
raw_again (l ∷ m ∷ ls) h =
    let rest : List ℕ = flat_map (λ l. l) (m ∷ ls) in
    ap (λ t. raw_lines (t ++ rest)) h.0.is ∙ ap raw_lines (append_assoc h.0.text (10 ∷ []) rest) ∙ raw_first h.0.text rest h.0.plain
    ∙ ap (λ t. t ∷ raw_lines rest) (sym h.0.is) ∙ ap (λ ls. l ∷ ls) (raw_again (m ∷ ls) h.1)

marked_closed : (raw : List ℕ) → IsClosed raw → IsClosed (apart_line raw)
marked_closed raw h = at (is_continuing raw) where
  at : (b : Bool) → IsClosed (cond b (35 ∷ raw) raw)
  at true = record { text = 35 ∷ h.text; plain = (refl, h.plain); is = ap (λ t. 35 ∷ t) h.is }
  at false = h

marked_open : (raw : List ℕ) → IsOpen raw → IsOpen (apart_line raw)
marked_open raw h = at (is_continuing raw) where
  at : (b : Bool) → IsOpen (cond b (35 ∷ raw) raw)
  at true = record { first = 35; more = h.first ∷ h.more; plain = (refl, h.plain); is = ap (λ t. 35 ∷ t) h.is }
  at false = h

closed_before : (l : List ℕ) (ls : List (List ℕ)) → IsClosed l → AreLines ls → AreLines (l ∷ ls)
closed_before l [] h g = inl h
closed_before l (m ∷ ls) h g = (h, g)

apart_lines-are : (ls : List (List ℕ)) → AreLines ls → AreLines (apart_lines ls)
apart_lines-are [] h = tt
apart_lines-are (l ∷ []) h = at (is_beginning l) where
  at : (b : Bool) → AreLines (cond b (l ∷ []) (apart_line l ∷ []))
  at true = h
  at false = elim h [ inl closed ↦ inl (marked_closed l closed) | inr bare ↦ inr (marked_open l bare) ]
apart_lines-are (l ∷ m ∷ ls) h = at (is_beginning l) (apart_lines-are (m ∷ ls) h.1) where
  at : (b : Bool) → AreLines (apart_lines (m ∷ ls)) → AreLines (cond b (l ∷ m ∷ ls) (apart_line l ∷ apart_lines (m ∷ ls)))
  at true g = h
  at false g = closed_before (apart_line l) (apart_lines (m ∷ ls)) (marked_closed l h.0) g

apart_raw : (text : List ℕ) → raw_lines (apart text) ≡ apart_lines (raw_lines text)
apart_raw text = raw_again (apart_lines (raw_lines text)) (apart_lines-are (raw_lines text) (raw_lines-are text))

-- ---- a file with its last LF, and what stands behind it
record EndedLines (ls : List (List ℕ)) : Type 0 where
  pub texts : List (List ℕ)
  pub plain : AllPlain texts
  pub ended : with_end (flat_map (λ l. l) ls) ≡ flat_map closed_line texts
  pub same : kept ls ≡ kept (map closed_line texts)
  pub lines : map line_text ls ≡ map line_text (map closed_line texts)

no_lines : EndedLines []
no_lines = record { texts = []; plain = tt; ended = refl; same = refl; lines = refl }

kept_first : (l m : List ℕ) (ls ms : List (List ℕ)) → line_text l ≡ line_text m → kept ls ≡ kept ms → kept (l ∷ ls) ≡ kept (m ∷ ms)
kept_first l m ls ms e h = ap (λ (t : List ℕ). cond (is_ignored t) (kept ls) (t ∷ kept ls)) e ∙ ap (λ (ts : List (List ℕ)). cond (is_ignored (line_text m)) ts (line_text m ∷ ts)) h

line_more : (l : List ℕ) (ls : List (List ℕ)) → IsClosed l → EndedLines ls → EndedLines (l ∷ ls)
line_more l ls h r = record {
  texts = h.text ∷ r.texts;
  plain = (h.plain, r.plain);
  ended =
      ap (λ t. with_end (t ++ flat_map (λ l. l) ls)) h.is ∙ ap with_end (append_assoc h.text (10 ∷ []) (flat_map (λ l. l) ls)) ∙ with_end-line h.text (flat_map (λ l. l) ls)
      ∙ sym (append_assoc h.text (10 ∷ []) (with_end (flat_map (λ l. l) ls))) ∙ ap (λ t. closed_line h.text ++ t) r.ended;
  same = kept_first l (closed_line h.text) ls (map closed_line r.texts) (ap line_text h.is) r.same;
  lines = ap (λ t. line_text t ∷ map line_text ls) h.is ∙ ap (λ ts. line_text (closed_line h.text) ∷ ts) r.lines;
}

before_plain : (text : List ℕ) → HasNoEnd text → before_first (λ b. b == 10) text ≡ text
before_plain [] h = refl
before_plain (b ∷ bs) h = rw h.0 (take_one _ b bs ∙ ap (λ t. b ∷ t) (before_plain bs h.1))

same_open : (l : List ℕ) (h : IsOpen l) → line_text l ≡ line_text (closed_line (h.first ∷ h.more))
same_open l h = ap line_text h.is ∙ ap without_cr (before_plain (h.first ∷ h.more) h.plain) ∙ sym (ap without_cr (before_end (h.first ∷ h.more) h.plain))

line_open : (l : List ℕ) → IsOpen l → EndedLines (l ∷ [])
line_open l h = record {
  texts = (h.first ∷ h.more) ∷ [];
  plain = (h.plain, tt);
  ended = ap with_end (append-nil l ∙ h.is) ∙ with_end-plain h.first h.more h.plain ∙ sym (append-nil (closed_line (h.first ∷ h.more)));
  same = kept_first l (closed_line (h.first ∷ h.more)) [] [] (same_open l h) refl;
  lines = ap (λ t. t ∷ []) (same_open l h);
}

ended_lines : (ls : List (List ℕ)) → AreLines ls → EndedLines ls
ended_lines [] h = no_lines
ended_lines (l ∷ []) h = elim h [ inl closed ↦ line_more l [] closed no_lines | inr bare ↦ line_open l bare ]
ended_lines (l ∷ m ∷ ls) h = line_more l (m ∷ ls) h.0 (ended_lines (m ∷ ls) h.1)

raw_closed : (ts : List (List ℕ)) (rest : List ℕ) → AllPlain ts → raw_lines (flat_map closed_line ts ++ rest) ≡ map closed_line ts ++ raw_lines rest
raw_closed [] rest h = refl
raw_closed (t ∷ ts) rest h =
    ap raw_lines (append_assoc (closed_line t) (flat_map closed_line ts) rest ∙ append_assoc t (10 ∷ []) (flat_map closed_line ts ++ rest))
    ∙ raw_first t (flat_map closed_line ts ++ rest) h.0 ∙ ap (λ ls. closed_line t ∷ ls) (raw_closed ts rest h.1)

kept-append : (xs ys : List (List ℕ)) → kept (xs ++ ys) ≡ kept xs ++ kept ys
kept-append [] ys = refl
kept-append (x ∷ xs) ys = at (is_ignored (line_text x)) (kept-append xs ys) where
  at : (b : Bool) → kept (xs ++ ys) ≡ kept xs ++ kept ys → cond b (kept (xs ++ ys)) (line_text x ∷ kept (xs ++ ys)) ≡ cond b (kept xs) (line_text x ∷ kept xs) ++ kept ys
  at true h = h
  at false h = ap (λ ts. line_text x ∷ ts) h

kept_behind : (text more : List ℕ) → kept (raw_lines (with_end text ++ more)) ≡ kept (raw_lines text) ++ kept (raw_lines more)
kept_behind text more =
    let r = ended_lines (raw_lines text) (raw_lines-are text) in
    ap (λ t. kept (raw_lines (with_end t ++ more))) (sym (lines_whole text)) ∙ ap (λ t. kept (raw_lines (t ++ more))) r.ended
    ∙ ap kept (raw_closed r.texts more r.plain) ∙ kept-append (map closed_line r.texts) (raw_lines more) ∙ ap (λ ts. ts ++ kept (raw_lines more)) (sym r.same)

-- the logical lines of a file and one behind it
pub apart_texts : (text more : List ℕ) → logical_texts (with_end text ++ apart more) ≡ logical_texts text ++ logical_texts more
apart_texts text more =
    let a = is_apart (raw_lines more) in
    let ks : List (List ℕ) = kept (raw_lines text) in
    logical_texts-are (with_end text ++ apart more) ∙ ap lines_in (kept_behind text (apart more))
    ∙ ap (λ ls. lines_in (ks ++ kept ls)) (apart_raw more)
    ∙ lines_in-behind ks (kept (apart_lines (raw_lines more))) a.begun
    ∙ ap (λ ps. lines_in ks ++ flat_map joined_texts ps) a.pieces
    ∙ ap (λ ts. ts ++ lines_in (kept (raw_lines more))) (sym (logical_texts-are text)) ∙ ap (λ ts. logical_texts text ++ ts) (sym (logical_texts-are more))

-- the physical lines of a file and one behind it
physical_behind : (text more : List ℕ) → physical_lines (with_end text ++ more) ≡ physical_lines text ++ physical_lines more
physical_behind text more =
    let r = ended_lines (raw_lines text) (raw_lines-are text) in
    ap (λ t. physical_lines (with_end t ++ more)) (sym (lines_whole text)) ∙ ap (λ t. physical_lines (t ++ more)) r.ended
    ∙ ap (map line_text) (raw_closed r.texts more r.plain) ∙ map-append line_text (map closed_line r.texts) (raw_lines more)
    ∙ ap (λ ts. ts ++ physical_lines more) (sym r.lines)

apart_physical : (text more : List ℕ) → physical_lines (with_end text ++ apart more) ≡ physical_lines text ++ map line_text (apart_lines (raw_lines more))
apart_physical text more = physical_behind text (apart more) ∙ ap (λ ls. physical_lines text ++ map line_text ls) (apart_raw more)

-- ---- some files
module _ (answer : List ℕ → Answer) where
  absent_later : (paths : List (List ℕ)) → joined_files answer absent paths ≡ absent
  absent_later [] = refl
  absent_later (p ∷ ps) = absent_later ps

  failed_later : (paths : List (List ℕ)) → joined_files answer failed paths ≡ failed
  failed_later [] = refl
  failed_later (p ∷ ps) = failed_later ps

  unknown_later : (paths : List (List ℕ)) → joined_files answer unknown paths ≡ unknown
  unknown_later [] = refl
  unknown_later (p ∷ ps) = unknown_later ps

  pub are_apart : (first : List ℕ) (paths : List (List ℕ)) (whole : List ℕ) → AreApart answer first paths whole
  are_apart first [] whole h = let is : first ≡ whole = cc in ap logical_texts (sym is) ∙ sym (append-nil (logical_texts first))
  are_apart first (p ∷ ps) whole h = at (answer p) h (λ more. are_apart (with_end first ++ apart more) ps whole) where
    rest : List (List ℕ)
    rest = flat_map (λ path. logical_texts_in (answer path)) ps

    at : (a : Answer) → joined_files answer (behind (file first) a) ps ≡ file whole → ((more : List ℕ) → AreApart answer (with_end first ++ apart more) ps whole)
        → logical_texts whole ≡ logical_texts first ++ (logical_texts_in a ++ rest)
    at (file more) e later =
        later more e ∙ ap (λ ts. ts ++ rest) (apart_texts first more)
        ∙ append_assoc (logical_texts first) (logical_texts more) rest
    at absent e later = absurd (let no : absent ≡ file whole = sym (absent_later ps) ∙ e in let none : ⊥ = cc in none)
    at failed e later = absurd (let no : failed ≡ file whole = sym (failed_later ps) ∙ e in let none : ⊥ = cc in none)
    at unknown e later = absurd (let no : unknown ≡ file whole = sym (unknown_later ps) ∙ e in let none : ⊥ = cc in none)

  lines_behind : (first : List ℕ) (paths : List (List ℕ)) (whole : List ℕ) → joined_files answer (file first) paths ≡ file whole
      → physical_lines whole ≡ physical_lines first ++ flat_map (λ p. later_lines (answer p)) paths
  lines_behind first [] whole h = let is : first ≡ whole = cc in ap physical_lines (sym is) ∙ sym (append-nil (physical_lines first))
  lines_behind first (p ∷ ps) whole h = at (answer p) h (λ more. lines_behind (with_end first ++ apart more) ps whole) where
    rest : List (List ℕ)
    rest = flat_map (λ q. later_lines (answer q)) ps

    at : (a : Answer) → joined_files answer (behind (file first) a) ps ≡ file whole
        → ((more : List ℕ) → joined_files answer (file (with_end first ++ apart more)) ps ≡ file whole → physical_lines whole ≡ physical_lines (with_end first ++ apart more) ++ rest)
        → physical_lines whole ≡ physical_lines first ++ (later_lines a ++ rest)
    at (file more) e later =
        later more e ∙ ap (λ ts. ts ++ rest) (apart_physical first more)
        ∙ append_assoc (physical_lines first) (map line_text (apart_lines (raw_lines more))) rest
    at absent e later = absurd (let no : absent ≡ file whole = sym (absent_later ps) ∙ e in let none : ⊥ = cc in none)
    at failed e later = absurd (let no : failed ≡ file whole = sym (failed_later ps) ∙ e in let none : ⊥ = cc in none)
    at unknown e later = absurd (let no : unknown ≡ file whole = sym (unknown_later ps) ∙ e in let none : ⊥ = cc in none)

pub lines_of_files : (answer : List ℕ → Answer) (path : List ℕ) (paths : List (List ℕ)) (whole : List ℕ) → AreLinesOfFiles answer path paths whole
lines_of_files answer path paths whole = at (answer path) where
  at : (a : Answer) → joined_files answer a paths ≡ file whole → physical_lines whole ≡ first_lines a ++ flat_map (λ p. later_lines (answer p)) paths
  at (file text) h = lines_behind answer text paths whole h
  at absent h = absurd (let no : absent ≡ file whole = sym (absent_later answer paths) ∙ h in let none : ⊥ = cc in none)
  at failed h = absurd (let no : failed ≡ file whole = sym (failed_later answer paths) ∙ h in let none : ⊥ = cc in none)
  at unknown h = absurd (let no : unknown ≡ file whole = sym (unknown_later answer paths) ∙ h in let none : ⊥ = cc in none)
