-- The lines of sections that are asked for are no headings.
use Rattle.std.proofs.Common.{◌≡◌, ◌<◌, ◌≤◌, ℕ, ◌+◌, suc, Bool, true, false, not, cond, ◌==◌, ◌&&◌, ◌||◌, inl, inr, eqb, List, [], ◌∷◌, ◌++◌, length, take, codes, Option, Some, None, refl, sym, ap, subst, ◌∙◌, arith}
use Rattle.std.specs.List.{Contains, list_any, flat_map, onto_first, before_first}
use Rattle.std.proofs.lemmas.Bool.{le-ltb}
use Rattle.std.proofs.lemmas.List.{length-append, append-nil}
use Rattle.std.proofs.lemmas.List.Concat.{flat_map-append}
use Rattle.std.proofs.lemmas.List.Elements.{Contains-append_cases, Contains-push_cases}
use Rattle.std.proofs.lemmas.List.Folds.{list_any-append}
use Rattle.relay_text.specs.Bytes.{begins_with}
use Rattle.relay_text.specs.Lines.{raw_lines, line_text, without_cr}
use Rattle.relay_job.specs.JobText.{JobLine, job_lines, text_of, is_heading}
use Rattle.relay_job.specs.Places.{numbered_from}
use Rattle.relay_job.specs.Envelopes.{EndsWithLine, HasNoHeading}
use Rattle.relay_job.proofs.JoinedLines.{raw_lines-append}
use Rattle.relay_envelopes.specs.declared.kind.LineKind.{LineKind}
use Rattle.relay_envelopes.specs.declared.kind.LineKind.TheVariants.{Tables, Envelope, End, Blank, Other}
use Rattle.relay_envelopes.specs.Headings.{id_of}
use Rattle.relay_envelopes.specs.Kinds.{is_long, kind_of}
use Rattle.relay_envelopes.specs.Sections.{Section}
use Rattle.relay_envelopes.proofs.JoiningFacts.{IsWhole, AreLines, of-text, behind-whole, tail-lines, ends-append}
use Rattle.aliasplan_each.specs.Asks.{Ask, planned, asked_at, section_of, content_of, stray, begun_by, with_line, behind, asks_from, sections_in}
use Rattle.aliasplan_each.specs.Asks.Ask.{change}
use Rattle.aliasplan_each.proofs.PieceFacts.{some-line}

-- whether a line is a heading, whatever its number
abbrev heads : List ℕ → Bool
heads raw = is_heading (record { number = 0; raw = raw })

any-heads : (n : ℕ) (raws : List (List ℕ)) → list_any is_heading (numbered_from n raws) ≡ list_any heads raws
any-heads n [] = refl
any-heads n (x ∷ xs) = ap (λ t. heads x || t) (any-heads (n + 1) xs)

-- a text whose lines are no headings
abbrev IsPlain : List ℕ → Type 0
IsPlain text = list_any heads (raw_lines text) ≡ false

plain-append : (a b : List ℕ) → EndsWithLine a → IsPlain a → IsPlain b → IsPlain (a ++ b)
plain-append a b ends f g = ap (list_any heads) (raw_lines-append a b ends) ∙ list_any-append heads (raw_lines a) (raw_lines b) ∙ rw (f, g) refl

take_one : (n b : ℕ) (bs : List ℕ) → take (1 + n) (b ∷ bs) ≡ b ∷ take n bs
take_one n b bs = ap (λ k. take k (b ∷ bs)) (let e : 1 + n ≡ suc n = omega arith in e)

line_one : (b : ℕ) (bs : List ℕ) → eqb b 10 ≡ false → line_text (b ∷ bs) ≡ without_cr (b ∷ before_first (λ c. c == 10) bs)
line_one b bs e = rw e (ap without_cr (take_one _ b bs))

line_two : (b : ℕ) (bs : List ℕ) → eqb b 10 ≡ false → line_text (37 ∷ b ∷ bs) ≡ 37 ∷ line_text (b ∷ bs)
line_two b bs e =
    let first : before_first (λ c. c == 10) (b ∷ bs) ≡ b ∷ before_first (λ c. c == 10) bs = rw e (take_one _ b bs) in
    line_one 37 (b ∷ bs) refl ∙ ap (λ (l : List ℕ). without_cr (37 ∷ l)) first ∙ ap (λ (l : List ℕ). 37 ∷ l) (sym (line_one b bs e))

-- A heading with one more `%` is none.
abbrev heads_text : List ℕ → Bool
heads_text text = begins_with (codes "%") text && not (begins_with (codes "%%") text)

doubled_text : (text : List ℕ) → heads_text text ≡ true → heads_text (37 ∷ text) ≡ false
doubled_text [] h = absurd (let no : ⊥ = cc in no)
doubled_text (c ∷ cs) h = at (eqb c 37) refl where
  at : (t : Bool) → eqb c 37 ≡ t → heads_text (37 ∷ c ∷ cs) ≡ false
  at true e = rw e refl
  at false e = absurd (let none : heads_text (c ∷ cs) ≡ false = rw e refl in let no : ⊥ = cc in no)

doubled : (raw : List ℕ) → heads raw ≡ true → heads (37 ∷ raw) ≡ false
doubled [] h = absurd (let no : ⊥ = cc in no)
doubled (b ∷ bs) h = at (eqb b 10) refl where
  at : (t : Bool) → eqb b 10 ≡ t → heads (37 ∷ b ∷ bs) ≡ false
  at true e = absurd (let none : heads (b ∷ bs) ≡ false = rw e refl in let no : ⊥ = cc in no)
  at false e = ap heads_text (line_two b bs e) ∙ doubled_text (line_text (b ∷ bs)) h

-- the line of a section that a line is: one line, and no heading
record IsContent (c : List ℕ) : Type 0 where
  one : raw_lines c ≡ c ∷ []
  plain : heads c ≡ false

content-is : (max : ℕ) (l : JobLine) → raw_lines l.raw ≡ l.raw ∷ [] → length l.raw ≤ max → IsContent (content_of max l)
content-is max l one short = at (is_heading l) refl where
  at : (t : Bool) → is_heading l ≡ t → IsContent (content_of max l)
  at true e = rw (le-ltb _ _ short, e) (record { one = ap (onto_first 37) one; plain = doubled l.raw e })
  at false e = rw (le-ltb _ _ short, e) (record { one = one; plain = e })

content-longer : (max : ℕ) (l : JobLine) → length l.raw ≤ length (content_of max l)
content-longer max l = at (not (is_long max l) && is_heading l) where
  at : (t : Bool) → length l.raw ≤ length (cond t (37 ∷ l.raw) l.raw)
  at true = omega arith
  at false = omega arith

content-ends : (max : ℕ) (l : JobLine) → EndsWithLine l.raw → 0 < length l.raw → EndsWithLine (content_of max l)
content-ends max l ends some = at (not (is_long max l) && is_heading l) l.raw ends some where
  at : (t : Bool) (raw : List ℕ) → EndsWithLine raw → 0 < length raw → EndsWithLine (cond t (37 ∷ raw) raw)
  at true [] ends some = absurd (omega arith)
  at true (b ∷ bs) ends some = ends
  at false raw ends some = ends

-- What holds of the section that goes on, where it isn't too long: its lines are no headings, and, where others come, the last has its end.
module _ (max : ℕ) where
  abbrev Plain : Option Section → Type 0
  Plain None = Unit {0}
  Plain (Some s) = length s.bytes ≤ max → IsPlain s.bytes

  abbrev Ended : Option Section → Type 0
  Ended None = Unit {0}
  Ended (Some s) = EndsWithLine s.bytes

  stray-plain : (l : JobLine) → raw_lines l.raw ≡ l.raw ∷ [] → Plain (Some (stray max l))
  stray-plain l one short =
      let c : IsContent (content_of max l) = content-is max l one (let less = content-longer max l in omega (arith, less, short)) in
      ap (list_any heads) c.one ∙ rw c.plain refl

  with-plain : (begun : Option Section) (l : JobLine) → raw_lines l.raw ≡ l.raw ∷ [] → Plain begun → Ended begun → Plain (with_line max begun l)
  with-plain None l one h ends = stray-plain l one
  with-plain (Some s) l one h ends = λ short.
      let less = content-longer max l in
      let c : IsContent (content_of max l) = content-is max l one (omega (arith, length-append s.bytes (content_of max l), less, short)) in
      plain-append s.bytes (content_of max l) ends (h (omega (arith, length-append s.bytes (content_of max l), short))) (ap (list_any heads) c.one ∙ rw c.plain refl)

  with-ended : (begun : Option Section) (l : JobLine) → EndsWithLine l.raw → 0 < length l.raw → Ended begun → Ended (with_line max begun l)
  with-ended None l whole some ends = content-ends max l whole some
  with-ended (Some s) l whole some ends = ends-append s.bytes (content_of max l) ends (content-ends max l whole some)

  begun-plain : (l : JobLine) → raw_lines l.raw ≡ l.raw ∷ [] → Plain (Some (begun_by max l))
  begun-plain l one = at (id_of (text_of l)) refl where
    at : (o : Option (List ℕ)) → id_of (text_of l) ≡ o → Plain (Some (begun_by max l))
    at (Some id) e = rw e (λ short. refl)
    at None e = rw e (stray-plain l one)

  begun-ended : (l : JobLine) → EndsWithLine l.raw → 0 < length l.raw → Ended (Some (begun_by max l))
  begun-ended l whole some = at (id_of (text_of l)) refl where
    at : (o : Option (List ℕ)) → id_of (text_of l) ≡ o → Ended (Some (begun_by max l))
    at (Some id) e = rw e tt
    at None e = rw e (content-ends max l whole some)

  behind-plain : (kind : LineKind) (begun : Option Section) (l : JobLine) → raw_lines l.raw ≡ l.raw ∷ [] → Plain begun → Ended begun → Plain (behind max kind begun l)
  behind-plain Tables begun l one h ends = tt
  behind-plain Envelope begun l one h ends = begun-plain l one
  behind-plain End None l one h ends = stray-plain l one
  behind-plain End (Some s) l one h ends = tt
  behind-plain Blank None l one h ends = tt
  behind-plain Blank (Some s) l one h ends = with-plain (Some s) l one h ends
  behind-plain Other begun l one h ends = with-plain begun l one h ends

  behind-ended : (kind : LineKind) (begun : Option Section) (l : JobLine) → EndsWithLine l.raw → 0 < length l.raw → Ended begun → Ended (behind max kind begun l)
  behind-ended Tables begun l whole some ends = tt
  behind-ended Envelope begun l whole some ends = begun-ended l whole some
  behind-ended End None l whole some ends = content-ends max l whole some
  behind-ended End (Some s) l whole some ends = tt
  behind-ended Blank None l whole some ends = tt
  behind-ended Blank (Some s) l whole some ends = with-ended (Some s) l whole some ends
  behind-ended Other begun l whole some ends = with-ended begun l whole some ends

  -- what holds of each section that is asked for
  abbrev ArePlain : List Ask → Type 0
  ArePlain asks = (s : Section) → Contains (flat_map section_of asks) s → length s.bytes ≤ max → HasNoHeading s.bytes

  plain-append_asks : (a b : List Ask) → ArePlain a → ArePlain b → ArePlain (a ++ b)
  plain-append_asks a b f g s h = elim (Contains-append_cases (flat_map section_of a) (flat_map section_of b) s (rw (flat_map-append section_of a b) at h)) [
    | inl first ↦ f s first
    | inr more ↦ g s more
  ]

  plain-none : ArePlain []
  plain-none s h = absurd (let no : ⊥ = omega (arith, h.1) in no)

  plain-planned : (begun : Option Section) → Plain begun → ArePlain (planned begun)
  plain-planned None h s c = plain-none s c
  plain-planned (Some q) h s c = elim (Contains-push_cases [] q s c) [
    | inl none ↦ absurd (let no : ⊥ = omega (arith, none.1) in no)
    | inr is ↦ (λ short. any-heads 1 (raw_lines s.bytes) ∙ subst (λ (x : Section). length x.bytes ≤ max → IsPlain x.bytes) is h short)
  ]

  plain-asked : (kind : LineKind) (begun : Option Section) → Plain begun → ArePlain (asked_at kind begun)
  plain-asked Tables begun h = plain-append_asks (planned begun) (change ∷ []) (plain-planned begun h) plain-none
  plain-asked Envelope begun h = plain-planned begun h
  plain-asked End begun h = plain-planned begun h
  plain-asked Blank begun h = plain-none
  plain-asked Other begun h = plain-none

  plain-from : (begun : Option Section) (lines : List JobLine) → AreLines lines → Plain begun → Ended begun → ArePlain (asks_from max begun lines)
  plain-from begun [] are h ends = plain-planned begun h
  plain-from begun (x ∷ []) are h ends = plain-append_asks (asked_at (kind_of max x) begun) (planned (behind max (kind_of max x) begun x)) (plain-asked (kind_of max x) begun h)
      (plain-planned (behind max (kind_of max x) begun x) (behind-plain (kind_of max x) begun x (rw (append-nil x.raw) at are) h ends))
  plain-from begun (x ∷ y ∷ ys) are h ends =
      let whole : IsWhole x.raw = behind-whole x y ys are in
      plain-append_asks (asked_at (kind_of max x) begun) (asks_from max (behind max (kind_of max x) begun x) (y ∷ ys)) (plain-asked (kind_of max x) begun h)
      (plain-from (behind max (kind_of max x) begun x) (y ∷ ys) (tail-lines x (y ∷ ys) are)
      (behind-plain (kind_of max x) begun x whole.1 h ends)
      (behind-ended (kind_of max x) begun x whole.0 (some-line x.raw x.raw [] whole.1) ends))

  pub sections-plain : (input : List ℕ) (s : Section) → Contains (sections_in max input) s → length s.bytes ≤ max → HasNoHeading s.bytes
  sections-plain input s c short = plain-from None (job_lines input) (of-text input) tt tt s c short
