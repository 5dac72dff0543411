-- The lines of a file, and how a job has them.
use Rattle.std.proofs.Common.{◌≡◌, ℕ, ◌-◌, Bool, true, false, cond, eqb, List, [], ◌∷◌, ◌++◌, length, drop, refl, sym, ap, ◌∙◌, ◌⊎◌, inl, inr, append_assoc, arith, suc}
use Rattle.std.specs.List.{flat_map, onto_first}
use Rattle.std.specs.Str.{bytes_eq}
use Rattle.std.proofs.lemmas.Bool.Decides.{Decides-eqb}
use Rattle.std.proofs.lemmas.List.{append-nil}
use Rattle.relay_text.specs.Bytes.{begins_with, ends_with}
use Rattle.relay_text.specs.Lines.{raw_lines}
use Rattle.relay_gather.specs.Sections.{escaped_line, with_end, section_body}
use Rattle.relay_gather.specs.Gathered.{percent, lacking_end, written_line}

-- a text without LF
abbrev pub HasNoEnd : List ℕ → Type 0
HasNoEnd [] = Unit {0}
HasNoEnd (b ∷ bs) = (eqb b 10 ≡ false) × HasNoEnd bs

-- a line with its LF, and a last line that lacks it
pub record IsClosed (raw : List ℕ) : Type 0 where
  pub text : List ℕ
  pub plain : HasNoEnd text
  pub is : raw ≡ text ++ 10 ∷ []

pub record IsOpen (raw : List ℕ) : Type 0 where
  pub first : ℕ
  pub more : List ℕ
  pub plain : HasNoEnd (first ∷ more)
  pub is : raw ≡ first ∷ more

abbrev pub AreLines : List (List ℕ) → Type 0
AreLines [] = Unit {0}
AreLines (l ∷ []) = IsClosed l ⊎ IsOpen l
AreLines (l ∷ m ∷ ls) = IsClosed l × AreLines (m ∷ ls)

is_lf : (b : ℕ) → eqb b 10 ≡ true → b ≡ 10
is_lf b e = (Decides-eqb b 10).0 e

lone_end : (b : ℕ) → eqb b 10 ≡ true → IsClosed (b ∷ [])
lone_end b e = record { text = []; plain = tt; is = ap (λ c. c ∷ []) (is_lf b e) }

longer_closed : (b : ℕ) (l : List ℕ) → eqb b 10 ≡ false → IsClosed l → IsClosed (b ∷ l)
longer_closed b l e h = record { text = b ∷ h.text; plain = (e, h.plain); is = ap (λ t. b ∷ t) h.is }

longer_open : (b : ℕ) (l : List ℕ) → eqb b 10 ≡ false → IsOpen l → IsOpen (b ∷ l)
longer_open b l e h = record { first = b; more = h.first ∷ h.more; plain = (e, h.plain); is = ap (λ t. b ∷ t) h.is }

ended_first : (b : ℕ) (ls : List (List ℕ)) → eqb b 10 ≡ true → AreLines ls → AreLines ((b ∷ []) ∷ ls)
ended_first b [] e h = inl (lone_end b e)
ended_first b (m ∷ ls) e h = (lone_end b e, h)

other_first : (b : ℕ) (ls : List (List ℕ)) → eqb b 10 ≡ false → AreLines ls → AreLines (onto_first b ls)
other_first b [] e h = inr (record { first = b; more = []; plain = (e, tt); is = refl })
other_first b (l ∷ []) e h = elim h [ inl closed ↦ inl (longer_closed b l e closed) | inr bare ↦ inr (longer_open b l e bare) ]
other_first b (l ∷ m ∷ ls) e h = (longer_closed b l e h.0, h.1)

pub raw_lines-are : (text : List ℕ) → AreLines (raw_lines text)
raw_lines-are [] = tt
raw_lines-are (b ∷ bs) = at (eqb b 10) refl (raw_lines-are bs) where
  at : (t : Bool) → eqb b 10 ≡ t → AreLines (raw_lines bs) → AreLines (cond t ((b ∷ []) ∷ raw_lines bs) (onto_first b (raw_lines bs)))
  at true e h = ended_first b (raw_lines bs) e h
  at false e h = other_first b (raw_lines bs) e h

-- ---- the end of a text
ends_more : (b c : ℕ) (bs : List ℕ) → ends_with (10 ∷ []) (b ∷ c ∷ bs) ≡ ends_with (10 ∷ []) (c ∷ bs)
ends_more b c bs =
    let e : length (b ∷ c ∷ bs) - 1 ≡ suc (length (c ∷ bs) - 1) = omega arith in
    ap (λ k. bytes_eq (drop k (b ∷ c ∷ bs)) (10 ∷ [])) e

with_end-more : (b c : ℕ) (bs : List ℕ) → with_end (b ∷ c ∷ bs) ≡ b ∷ with_end (c ∷ bs)
with_end-more b c bs = rw (ends_more b c bs) (at (ends_with (10 ∷ []) (c ∷ bs))) where
  at : (t : Bool) → cond t (b ∷ c ∷ bs) (b ∷ c ∷ bs ++ 10 ∷ []) ≡ b ∷ cond t (c ∷ bs) (c ∷ bs ++ 10 ∷ [])
  at true = refl
  at false = refl

with_end-lf : (ys : List ℕ) → with_end (10 ∷ ys) ≡ 10 ∷ with_end ys
with_end-lf [] = refl
with_end-lf (y ∷ ys) = with_end-more 10 y ys

pub with_end-line : (text ys : List ℕ) → with_end (text ++ 10 ∷ ys) ≡ text ++ 10 ∷ with_end ys
with_end-line [] ys = with_end-lf ys
with_end-line (b ∷ []) ys = with_end-more b 10 ys ∙ ap (λ t. b ∷ t) (with_end-lf ys)
with_end-line (b ∷ c ∷ text) ys = with_end-more b c (text ++ 10 ∷ ys) ∙ ap (λ t. b ∷ t) (with_end-line (c ∷ text) ys)

with_end-one : (b : ℕ) → eqb b 10 ≡ false → with_end (b ∷ []) ≡ b ∷ 10 ∷ []
with_end-one b e = rw e

pub with_end-plain : (b : ℕ) (bs : List ℕ) → HasNoEnd (b ∷ bs) → with_end (b ∷ bs) ≡ b ∷ bs ++ 10 ∷ []
with_end-plain b [] h = with_end-one b h.0
with_end-plain b (c ∷ bs) h = with_end-more b c bs ∙ ap (λ t. b ∷ t) (with_end-plain c bs h.1)

ends_with-line : (text : List ℕ) → ends_with (10 ∷ []) (text ++ 10 ∷ []) ≡ true
ends_with-line [] = refl
ends_with-line (b ∷ []) = refl
ends_with-line (b ∷ c ∷ text) = ends_more b c (text ++ 10 ∷ []) ∙ ends_with-line (c ∷ text)

ends_with-plain : (b : ℕ) (bs : List ℕ) → HasNoEnd (b ∷ bs) → ends_with (10 ∷ []) (b ∷ bs) ≡ false
ends_with-plain b [] h = rw h.0
ends_with-plain b (c ∷ bs) h = ends_more b c bs ∙ ends_with-plain c bs h.1

-- ---- one line
pub escaped_line-is : (raw : List ℕ) → escaped_line raw ≡ percent raw ++ raw
escaped_line-is raw = at (begins_with (37 ∷ []) raw) where
  at : (t : Bool) → cond t (37 ∷ raw) raw ≡ cond t (37 ∷ []) [] ++ raw
  at true = refl
  at false = refl

pub percent_plain : (raw text : List ℕ) → HasNoEnd text → HasNoEnd (percent raw ++ text)
percent_plain raw text h = at (begins_with (37 ∷ []) raw) where
  at : (t : Bool) → HasNoEnd (cond t (37 ∷ []) [] ++ text)
  at true = (refl, h)
  at false = h

pub written_closed : (raw : List ℕ) → IsClosed raw → written_line raw ≡ escaped_line raw
written_closed raw h =
    let e : lacking_end raw ≡ [] = ap (λ t. cond t [] (10 ∷ [])) (ap (ends_with (10 ∷ [])) h.is ∙ ends_with-line h.text) in
    ap (λ t. percent raw ++ raw ++ t) e ∙ append-nil (percent raw ++ raw) ∙ sym (escaped_line-is raw)

pub written_open : (raw : List ℕ) → IsOpen raw → written_line raw ≡ escaped_line raw ++ 10 ∷ []
written_open raw h =
    let e : lacking_end raw ≡ 10 ∷ [] = ap (λ t. cond t [] (10 ∷ [])) (ap (ends_with (10 ∷ [])) h.is ∙ ends_with-plain h.first h.more h.plain) in
    ap (λ t. percent raw ++ raw ++ t) e ∙ ap (λ t. t ++ 10 ∷ []) (sym (escaped_line-is raw))

with_end-closed : (raw ys : List ℕ) → IsClosed raw → with_end (escaped_line raw ++ ys) ≡ escaped_line raw ++ with_end ys
with_end-closed raw ys h =
    let is : escaped_line raw ≡ (percent raw ++ h.text) ++ 10 ∷ [] = escaped_line-is raw ∙ ap (λ t. percent raw ++ t) h.is ∙ sym (append_assoc (percent raw) h.text (10 ∷ [])) in
    let cut : (zs : List ℕ) → escaped_line raw ++ zs ≡ (percent raw ++ h.text) ++ 10 ∷ zs = λ zs. ap (λ t. t ++ zs) is ∙ append_assoc (percent raw ++ h.text) (10 ∷ []) zs in
    ap with_end (cut ys) ∙ with_end-line (percent raw ++ h.text) ys ∙ sym (cut (with_end ys))

with_end-open : (raw : List ℕ) → IsOpen raw → with_end (escaped_line raw) ≡ escaped_line raw ++ 10 ∷ []
with_end-open raw h =
    let is : escaped_line raw ≡ percent raw ++ h.first ∷ h.more = escaped_line-is raw ∙ ap (λ t. percent raw ++ t) h.is in
    ap with_end is ∙ at (begins_with (37 ∷ []) raw) ∙ ap (λ t. t ++ 10 ∷ []) (sym is) where
      at : (t : Bool) → with_end (cond t (37 ∷ []) [] ++ h.first ∷ h.more) ≡ (cond t (37 ∷ []) [] ++ h.first ∷ h.more) ++ 10 ∷ []
      at true = with_end-plain 37 (h.first ∷ h.more) (refl, h.plain)
      at false = with_end-plain h.first h.more h.plain

-- ---- all lines
written : (ls : List (List ℕ)) → AreLines ls → with_end (flat_map escaped_line ls) ≡ flat_map written_line ls
written [] h = refl
written (l ∷ []) h =
    elim h [
      | inl closed ↦ with_end-closed l [] closed ∙ ap (λ t. t ++ []) (sym (written_closed l closed))
      | inr bare ↦ ap with_end (append-nil (escaped_line l)) ∙ with_end-open l bare ∙ sym (written_open l bare) ∙ sym (append-nil (written_line l))
    ]
written (l ∷ m ∷ ls) h =
    with_end-closed l (flat_map escaped_line (m ∷ ls)) h.0 ∙ ap (λ t. escaped_line l ++ t) (written (m ∷ ls) h.1)
    ∙ ap (λ t. t ++ flat_map written_line (m ∷ ls)) (sym (written_closed l h.0))

pub section_body-is : (text : List ℕ) → section_body text ≡ flat_map written_line (raw_lines text)
section_body-is text = written (raw_lines text) (raw_lines-are text)

-- ---- lines by their texts
abbrev pub marked_line : List ℕ → List ℕ
marked_line text = (percent text ++ text) ++ 10 ∷ []

abbrev pub closed_line : List ℕ → List ℕ
closed_line text = text ++ 10 ∷ []

abbrev pub AllPlain : List (List ℕ) → Type 0
AllPlain [] = Unit {0}
AllPlain (t ∷ ts) = HasNoEnd t × AllPlain ts

-- the texts of a file's lines: the lines that a job has, and those of the file with its last LF
record TextsOf (ls : List (List ℕ)) : Type 0 where
  pub texts : List (List ℕ)
  pub plain : AllPlain texts
  pub body : flat_map written_line ls ≡ flat_map marked_line texts
  pub ended : with_end (flat_map (λ l. l) ls) ≡ flat_map closed_line texts

percent-closed : (text : List ℕ) → percent (text ++ 10 ∷ []) ≡ percent text
percent-closed [] = refl
percent-closed (b ∷ bs) = refl

written_marked : (l : List ℕ) (h : IsClosed l) → written_line l ≡ marked_line h.text
written_marked l h =
    written_closed l h ∙ escaped_line-is l ∙ ap (λ t. percent t ++ t) h.is ∙ ap (λ t. t ++ (h.text ++ 10 ∷ [])) (percent-closed h.text)
    ∙ sym (append_assoc (percent h.text) h.text (10 ∷ []))

written_marked_open : (l : List ℕ) (h : IsOpen l) → written_line l ≡ marked_line (h.first ∷ h.more)
written_marked_open l h = written_open l h ∙ ap (λ t. t ++ 10 ∷ []) (escaped_line-is l ∙ ap (λ t. percent t ++ t) h.is)

one_more : (l : List ℕ) (ls : List (List ℕ)) → IsClosed l → TextsOf ls → TextsOf (l ∷ ls)
one_more l ls h r = record {
  texts = h.text ∷ r.texts;
  plain = (h.plain, r.plain);
  body = ap (λ t. t ++ flat_map written_line ls) (written_marked l h) ∙ ap (λ t. marked_line h.text ++ t) r.body;
  ended =
      ap (λ t. with_end (t ++ flat_map (λ l. l) ls)) h.is ∙ ap with_end (append_assoc h.text (10 ∷ []) (flat_map (λ l. l) ls)) ∙ with_end-line h.text (flat_map (λ l. l) ls)
      ∙ sym (append_assoc h.text (10 ∷ []) (with_end (flat_map (λ l. l) ls))) ∙ ap (λ t. closed_line h.text ++ t) r.ended;
}

no_texts : TextsOf []
no_texts = record { texts = []; plain = tt; body = refl; ended = refl }

open_text : (l : List ℕ) → IsOpen l → TextsOf (l ∷ [])
open_text l h = record {
  texts = (h.first ∷ h.more) ∷ [];
  plain = (h.plain, tt);
  body = ap (λ t. t ++ []) (written_marked_open l h);
  ended = ap with_end (append-nil l ∙ h.is) ∙ with_end-plain h.first h.more h.plain ∙ sym (append-nil (closed_line (h.first ∷ h.more)));
}

texts_in : (ls : List (List ℕ)) → AreLines ls → TextsOf ls
texts_in [] h = no_texts
texts_in (l ∷ []) h = elim h [ inl closed ↦ one_more l [] closed no_texts | inr bare ↦ open_text l bare ]
texts_in (l ∷ m ∷ ls) h = one_more l (m ∷ ls) h.0 (texts_in (m ∷ ls) h.1)

pub lines_whole : (text : List ℕ) → flat_map (λ l. l) (raw_lines text) ≡ text
lines_whole [] = refl
lines_whole (b ∷ bs) = at (eqb b 10) (lines_whole bs) where
  onto : (ls : List (List ℕ)) → flat_map (λ l. l) (onto_first b ls) ≡ b ∷ flat_map (λ l. l) ls
  onto [] = refl
  onto (l ∷ ls) = refl

  at : (t : Bool) → flat_map (λ l. l) (raw_lines bs) ≡ bs → flat_map (λ l. l) (cond t ((b ∷ []) ∷ raw_lines bs) (onto_first b (raw_lines bs))) ≡ b ∷ bs
  at true h = ap (λ t. b ∷ t) h
  at false h = onto (raw_lines bs) ∙ ap (λ t. b ∷ t) h

pub record HasTexts (file : List ℕ) : Type 0 where
  pub texts : List (List ℕ)
  pub plain : AllPlain texts
  pub body : section_body file ≡ flat_map marked_line texts
  pub ended : with_end file ≡ flat_map closed_line texts

pub has_texts : (file : List ℕ) → HasTexts file
has_texts file =
    let r = texts_in (raw_lines file) (raw_lines-are file) in
    record { texts = r.texts; plain = r.plain; body = section_body-is file ∙ r.body; ended = ap with_end (sym (lines_whole file)) ∙ r.ended }
