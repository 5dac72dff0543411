-- What a line does to what is to come.
use Rattle.std.proofs.Common.{◌≡◌, ◌<◌, ◌≤◌, ℕ, zero, suc, ◌+◌, ◌-◌, ◌^◌, Bool, true, false, ltb, inl, inr, List, [], ◌∷◌, ◌++◌, length, map, take, Option, Some, None, refl, sym, ap, ◌∙◌, arith, append_assoc}
use Rattle.std.specs.Prelude.{codes}
use Rattle.std.specs.List.{flat_map}
use Rattle.std.specs.Option.{IfSome}
use Rattle.std.specs.Io.KnownBytes.{Keeps, IsAtEnd}
use Rattle.std.proofs.lemmas.Bool.{lt-ltb, cases_lt}
use Rattle.std.proofs.lemmas.List.{append-nil, map-append, take-take, take_all, length-take, length-append}
use Rattle.relay_text.specs.Lines.{raw_lines}
use Rattle.relay_job.specs.JobText.{JobLine}
use Rattle.relay_job.specs.Places.{numbered_from}
use Rattle.relay_envelopes.proofs.SectionFacts.{joined-lines}
use Rattle.relay_envelopes.specs.declared.kind.LineKind.{LineKind}
use Rattle.relay_envelopes.specs.declared.kind.LineKind.TheVariants.{Tables, Envelope, End, Blank, Other}
use Rattle.relay_envelopes.specs.Kinds.{kind_of}
use Rattle.relay_envelopes.specs.Sections.{Section}
use Rattle.aliasplan_each.specs.Asks.{Ask, planned, content_of, stray, begun_by, with_line, asked_at, behind, asks_from}
use Rattle.aliasplan_each.specs.Asks.Ask.{plan, change}
use Rattle.aliasplan_each.specs.Feeding.{kept, kept_some, kept_ask, AreAlike, turned, to_come, Leads, LeadsKnown, room}
use Rattle.aliasplan_each.specs.Pieces.{LosesLine}
use Rattle.aliasplan_each.proofs.PieceFacts.{take-front, some-line}

-- Of what is put together, some first elements are those of what some first elements of each make.
take-back : {X : Type 0} (m n : ℕ) (a b : List X) → m ≤ n → take m (a ++ take n b) ≡ take m (a ++ b)
take-back m n [] b h = take-take m n b h
take-back zero n (x ∷ xs) b h = refl
take-back (suc m) n (x ∷ xs) b h = ap (λ l. x ∷ l) (take-back m n xs b (omega (arith, h)))

pub take-both : (n : ℕ) (a b c d : List ℕ) → take n a ≡ take n b → take n c ≡ take n d → take n (a ++ c) ≡ take n (b ++ d)
take-both n a b c d e f =
    sym (take-front n a c) ∙ ap (λ l. take n (l ++ c)) e ∙ take-front n b c
    ∙ sym (take-back n n b c (omega arith)) ∙ ap (λ l. take n (b ++ l)) f ∙ take-back n n b d (omega arith)

module _ (max : ℕ) where
  abbrev made : ℕ → List ℕ → List ℕ → Section
  made number id bytes = record { line = number; id = id; bytes = bytes }

  -- the same line, but for what isn't kept of it
  record SameLine (x y : JobLine) : Type 0 where
    number : x.number ≡ y.number
    kinds : kind_of max x ≡ kind_of max y
    contents : take (max + 1) (content_of max x) ≡ take (max + 1) (content_of max y)
    begins : kind_of max x ≡ Envelope → kept max (begun_by max x) ≡ kept max (begun_by max y)

  same-line : (x : JobLine) → SameLine x x
  same-line x = record { number = refl; kinds = refl; contents = refl; begins = λ e. refl }

  stray-same : (x y : JobLine) → SameLine x y → kept max (stray max x) ≡ kept max (stray max y)
  stray-same x y h = ap (λ (n : ℕ). made n (codes "?") (take (max + 1) (content_of max x))) h.number ∙ ap (λ (l : List ℕ). made y.number (codes "?") l) h.contents

  with-same : (begun other : Option Section) (x y : JobLine) → kept_some max begun ≡ kept_some max other → SameLine x y → kept_some max (with_line max begun x) ≡ kept_some max (with_line max other y)
  with-same None None x y e h = ap (λ (s : Section). Some s) (stray-same x y h)
  with-same (Some s) (Some t) x y e h =
      let same : kept max s ≡ kept max t = cc in
      let line : s.line ≡ t.line = ap (λ (q : Section). q.line) same in
      let id : s.id ≡ t.id = ap (λ (q : Section). q.id) same in
      let bytes : take (max + 1) s.bytes ≡ take (max + 1) t.bytes = ap (λ (q : Section). q.bytes) same in
      ap (λ (l : List ℕ). Some (made s.line s.id l)) (take-both (max + 1) s.bytes t.bytes (content_of max x) (content_of max y) bytes h.contents)
      ∙ ap (λ (n : ℕ). Some (made n s.id (take (max + 1) (t.bytes ++ content_of max y)))) line
      ∙ ap (λ (l : List ℕ). Some (made t.line l (take (max + 1) (t.bytes ++ content_of max y)))) id
  with-same None (Some t) x y e h = absurd (let no : ⊥ = cc in no)
  with-same (Some s) None x y e h = absurd (let no : ⊥ = cc in no)

  planned-same : (begun other : Option Section) → kept_some max begun ≡ kept_some max other → AreAlike max (planned begun) (planned other)
  planned-same None None e = refl
  planned-same (Some s) (Some t) e = let same : kept max s ≡ kept max t = cc in ap (λ (s : Section). plan s ∷ []) same
  planned-same None (Some t) e = absurd (let no : ⊥ = cc in no)
  planned-same (Some s) None e = absurd (let no : ⊥ = cc in no)

  AreAlike-both : (a b c d : List Ask) → AreAlike max a b → AreAlike max c d → AreAlike max (a ++ c) (b ++ d)
  AreAlike-both a b c d e f =
      map-append (kept_ask max) a c ∙ ap (λ l. l ++ map (kept_ask max) c) e ∙ ap (λ l. map (kept_ask max) b ++ l) f ∙ sym (map-append (kept_ask max) b d)

  behind-same : (kind : LineKind) (begun other : Option Section) (x y : JobLine) → kind_of max x ≡ kind → kept_some max begun ≡ kept_some max other → SameLine x y → kept_some max (behind max kind begun x) ≡ kept_some max (behind max kind other y)
  behind-same Tables begun other x y k e h = refl
  behind-same Envelope begun other x y k e h = ap (λ (s : Section). Some s) (h.begins k)
  behind-same End None None x y k e h = with-same None None x y e h
  behind-same End (Some s) (Some t) x y k e h = refl
  behind-same End None (Some t) x y k e h = absurd (let no : ⊥ = cc in no)
  behind-same End (Some s) None x y k e h = absurd (let no : ⊥ = cc in no)
  behind-same Blank None None x y k e h = refl
  behind-same Blank (Some s) (Some t) x y k e h = with-same (Some s) (Some t) x y e h
  behind-same Blank None (Some t) x y k e h = absurd (let no : ⊥ = cc in no)
  behind-same Blank (Some s) None x y k e h = absurd (let no : ⊥ = cc in no)
  behind-same Other begun other x y k e h = with-same begun other x y e h

  asked-same : (kind : LineKind) (begun other : Option Section) → kept_some max begun ≡ kept_some max other → AreAlike max (asked_at kind begun) (asked_at kind other)
  asked-same Tables begun other e = AreAlike-both (planned begun) (planned other) (change ∷ []) (change ∷ []) (planned-same begun other e) refl
  asked-same Envelope begun other e = planned-same begun other e
  asked-same End begun other e = planned-same begun other e
  asked-same Blank begun other e = refl
  asked-same Other begun other e = refl

  -- What isn't kept of a section that goes on changes nothing.
  asks-same : (begun other : Option Section) (lines : List JobLine) → kept_some max begun ≡ kept_some max other → AreAlike max (asks_from max begun lines) (asks_from max other lines)
  asks-same begun other [] e = planned-same begun other e
  asks-same begun other (x ∷ xs) e =
      AreAlike-both (asked_at (kind_of max x) begun) (asked_at (kind_of max x) other) _ _ (asked-same (kind_of max x) begun other e)
      (asks-same (behind max (kind_of max x) begun x) (behind max (kind_of max x) other x) xs (behind-same (kind_of max x) begun other x x refl e (same-line x)))

  -- A line of which no more is had is the same.
  cut-line : (number : ℕ) (raw : List ℕ) → SameLine (record { number = number; raw = take (max + 1) raw }) (record { number = number; raw = raw })
  cut-line number raw = elim (cases_lt max (length raw)) [
    | inl long ↦ (
        let cut : max < length (take (max + 1) raw) = omega (arith, length-take (max + 1) raw, long) in
        let whole : ltb max (length raw) ≡ true = lt-ltb _ _ long in
        let part : ltb max (length (take (max + 1) raw)) ≡ true = lt-ltb _ _ cut in
        record {
          number = refl;
          kinds = rw (whole, part) refl;
          contents = rw (whole, part) (take-take (max + 1) (max + 1) raw (omega arith));
          begins = λ e. absurd (let other : Other ≡ Envelope = rw part at e in let no : ⊥ = cc in no);
        }
        )
    | inr short ↦ (
        let same : take (max + 1) raw ≡ raw = take_all (max + 1) raw (omega (arith, short)) in
        rw same (same-line (record { number = number; raw = raw }))
        )
  ]

pub LeadsKnown-start : (max number : ℕ) (asked : Bool) (begun : Option Section) (bytes : Option (List ℕ)) → LeadsKnown max number asked begun bytes [] number asked begun bytes
LeadsKnown-start max number asked begun None = tt
LeadsKnown-start max number asked begun (Some bytes) = record { asks = refl; fewer = omega arith }

-- A line is taken, where nothing has been given yet.
module _ (max number : ℕ) (raw line : List ℕ) (begun given after : Option Section) (turns : Bool) (coming : List Ask) (left : List JobLine) (cut : line ≡ take (max + 1) raw)
    (asks : planned given ++ turned turns ≡ asked_at (kind_of max (record { number = number; raw = line })) begun)
    (goes : after ≡ kept_some max (behind max (kind_of max (record { number = number; raw = line })) begun (record { number = number; raw = line }))) where
  abbrev x : JobLine
  x = record { number = number; raw = line }

  abbrev y : JobLine
  y = record { number = number; raw = raw }

  same : SameLine max x y
  same = rw cut (cut-line max number raw)

  again : (o : Option Section) → kept_some max (kept_some max o) ≡ kept_some max o
  again None = refl
  again (Some s) = ap (λ (l : List ℕ). Some (made max s.line s.id l)) (take-take (max + 1) (max + 1) s.bytes (omega arith))

  behind-like : kept_some max after ≡ kept_some max (behind max (kind_of max y) begun y)
  behind-like =
      ap (kept_some max) goes ∙ again (behind max (kind_of max x) begun x)
      ∙ behind-same max (kind_of max x) begun begun x y refl refl same ∙ ap (λ (k : LineKind). kept_some max (behind max k begun y)) same.kinds

  taken : AreAlike max coming (asks_from max begun (y ∷ left)) → AreAlike max coming (planned given ++ (turned turns ++ asks_from max after left))
  taken h =
      h ∙ sym (
      ap (map (kept_ask max)) (sym (append_assoc (planned given) (turned turns) (asks_from max after left)) ∙ ap (λ l. l ++ asks_from max after left) asks)
      ∙ AreAlike-both max (asked_at (kind_of max x) begun) (asked_at (kind_of max y) begun) (asks_from max after left) (asks_from max (behind max (kind_of max y) begun y) left)
      (ap (λ (k : LineKind). map (kept_ask max) (asked_at k begun)) same.kinds)
      (asks-same max after (behind max (kind_of max y) begun y) left behind-like))

-- bytes that lose a line have fewer
fewer-bytes : (old new raw : List ℕ) → raw_lines old ≡ raw ∷ raw_lines new → length new < length old
fewer-bytes old new raw e =
    let joined : old ≡ raw ++ new = sym (joined-lines old) ∙ ap (flat_map (λ (l : List ℕ). l)) e ∙ ap (λ l. raw ++ l) (joined-lines new) in
    omega (arith, ap length joined, length-append raw new, some-line old raw (raw_lines new) e)

module _ (max first : ℕ) (asked : Bool) (start : Option Section) (all : Option (List ℕ)) where
  pub LeadsKnown-line : (number next : ℕ) (was : Bool) (line : List ℕ) (begun given after : Option Section) (turns : Bool) (old new : Option (List ℕ)) → LeadsKnown max first asked start all [] number was begun old → was ≡ false → LosesLine max old line new → next ≡ number + 1
      → planned given ++ turned turns ≡ asked_at (kind_of max (record { number = number + 1; raw = line })) begun
      → after ≡ kept_some max (behind max (kind_of max (record { number = number + 1; raw = line })) begun (record { number = number + 1; raw = line }))
      → LeadsKnown max first asked start all (planned given) next turns after new
  LeadsKnown-line number next was line begun given after turns old new h w k n asks goes = rw n (at all old new (rw w at h) k) where
    at : (all old new : Option (List ℕ)) → LeadsKnown max first asked start all [] number false begun old → LosesLine max old line new → LeadsKnown max first asked start all (planned given) (number + 1) turns after new
    at None old new h k = tt
    at (Some bytes) None new h k = absurd h
    at (Some bytes) (Some xs) None h k = absurd k
    at (Some bytes) (Some xs) (Some ys) h k = record {
      asks = taken max (number + 1) k.raw line begun given after turns (to_come max first asked start bytes) (numbered_from (number + 1 + 1) (raw_lines ys)) k.had asks goes (rw k.lines at h.asks);
      fewer = omega (arith, h.fewer, fewer-bytes xs ys k.raw k.lines);
    }

  -- The input has ended.
  pub LeadsKnown-end : (begun : Option Section) (m : ℕ) (was : Bool) (old new : Option (List ℕ)) → LeadsKnown max first asked start all [] m was begun old → was ≡ false → IsAtEnd old → IsAtEnd new → Keeps old new → LeadsKnown max first asked start all (planned begun) m was None new
  LeadsKnown-end begun m was old new h w e f k = rw w (at all old new (rw w at h) e f k) where
    at : (all old new : Option (List ℕ)) → LeadsKnown max first asked start all [] m false begun old → IsAtEnd old → IsAtEnd new → Keeps old new → LeadsKnown max first asked start all (planned begun) m false None new
    at None old new h e f k = tt
    at (Some bytes) None new h e f k = absurd h
    at (Some bytes) (Some xs) None h e f k = absurd k
    at (Some bytes) (Some xs) (Some ys) h e f k = rw f (
        let ended : Leads max (to_come max first asked start bytes) [] (planned begun) (first + length bytes) (m + 0) = rw e at h in
        record { asks = ended.asks ∙ ap (map (kept_ask max)) (sym (append-nil (planned begun))); fewer = ended.fewer })

  -- There are more bytes than can be counted.
  pub long-known : (number : ℕ) (was : Bool) (begun : Option Section) (old : Option (List ℕ)) → LeadsKnown max first asked start all [] number was begun old → IfSome old (λ bytes. 2 ^ 64 - 1 ≤ number + length bytes) → IfSome all (λ bytes. 2 ^ 64 - 1 ≤ first + length bytes)
  long-known number was begun old h p = at all old h p where
    at : (all old : Option (List ℕ)) → LeadsKnown max first asked start all [] number was begun old → IfSome old (λ bytes. 2 ^ 64 - 1 ≤ number + length bytes) → IfSome all (λ bytes. 2 ^ 64 - 1 ≤ first + length bytes)
    at None old h p = tt
    at (Some bytes) None h p = absurd h
    at (Some bytes) (Some xs) h p = omega (arith, h.fewer, p)

-- Each line that is taken leaves fewer to come.
pub fewer-line : (number next : ℕ) (was : Bool) (begun given after : Option Section) (turns : Bool) (all : ℕ) (kind : LineKind) (line : JobLine) (max : ℕ) → planned given ++ turned turns ≡ asked_at kind begun → after ≡ kept_some max (behind max kind begun line) → next ≡ number + 1 → number + 1 < 2 ^ 64 → room number was begun ≤ all → length (planned given) + room next turns after ≤ all
fewer-line number next was begun given after turns all kind line max asks goes e within h = omega (arith, length-append (planned given) (turned turns), ap length asks, e, within, h, at kind begun, ap (λ o. length (planned o)) goes) where
  at : (kind : LineKind) (begun : Option Section) → length (asked_at kind begun) + length (planned (kept_some max (behind max kind begun line))) ≤ length (planned begun) + 1
  at Tables None = omega arith
  at Tables (Some s) = omega arith
  at Envelope None = omega arith
  at Envelope (Some s) = omega arith
  at End None = omega arith
  at End (Some s) = omega arith
  at Blank None = omega arith
  at Blank (Some s) = omega arith
  at Other None = omega arith
  at Other (Some s) = omega arith

pub no-more : (left all : ℕ) → 0 + left ≤ all → left ≤ all
no-more left all h = omega arith

-- and fewer numbers
pub smaller-line : (number next : ℕ) → next ≡ number + 1 → number + 1 < 2 ^ 64 → 2 ^ 64 - next < 2 ^ 64 - number
smaller-line number next e within = omega arith
