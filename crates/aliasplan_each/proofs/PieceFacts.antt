-- Lines of bytes that come in pieces.
use Rattle.std.proofs.Common.{◌≡◌, ◌<◌, ◌≤◌, ℕ, zero, suc, ◌+◌, ◌-◌, ◌^◌, Bool, true, false, not, cond, ◌||◌, eqb, List, [], ◌∷◌, ◌++◌, length, take, drop, get_or, Option, Some, None, refl, sym, ap, ◌∙◌, arith, append_assoc}
use Rattle.std.specs.List.{position_or_len, onto_first, slice_range}
use Rattle.std.specs.Option.{IfSome}
use Rattle.std.specs.Io.KnownBytes.{Keeps, IsAtEnd, prepend_known}
use Rattle.std.proofs.KnownBytes.{Keeps-trans}
use Rattle.std.proofs.Math.Seq.{get_or-append_seam, drop-append_seam}
use Rattle.std.proofs.lemmas.Bool.{eqb-true}
use Rattle.std.proofs.lemmas.List.{append-nil, length-append, length-take, drop-take, drop-drop}
use Rattle.std.proofs.lemmas.List.Folds.{list_any-append, list_any_at}
use Rattle.relay_text.specs.Lines.{raw_lines}
use Rattle.aliasplan_each.specs.Pieces.{has_feed, end_of, IsMoved, LosesLine}

abbrev is_feed : ℕ → Bool
is_feed b = eqb b 10

-- The first line of a text: bytes without an LF, and an LF or nothing.
record IsPiece (piece : List ℕ) : Type 0 where
  front : List ℕ
  whole : Bool
  feedless : has_feed front ≡ false
  is : piece ≡ front ++ end_of whole
  some : 0 < length piece

longer : (b : ℕ) (x : List ℕ) → is_feed b ≡ false → IsPiece x → IsPiece (b ∷ x)
longer b x e p = record {
  front = b ∷ p.front;
  whole = p.whole;
  feedless = rw e p.feedless;
  is = ap (λ l. b ∷ l) p.is;
  some = omega arith;
}

first_piece : (text piece : List ℕ) (more : List (List ℕ)) → raw_lines text ≡ piece ∷ more → IsPiece piece
first_piece [] piece more e = absurd (let no : ⊥ = cc in no)
first_piece (b ∷ bs) piece more e = at (eqb b 10) (raw_lines bs) refl e (first_piece bs) where
  at : (t : Bool) (lines : List (List ℕ)) → eqb b 10 ≡ t → cond t ((b ∷ []) ∷ lines) (onto_first b lines) ≡ piece ∷ more
      → ((x : List ℕ) (xs : List (List ℕ)) → lines ≡ x ∷ xs → IsPiece x) → IsPiece piece
  at true lines t e later =
      let is : piece ≡ b ∷ [] = cc in
      let feed : b ≡ 10 = eqb-true _ _ t in
      rw is (record { front = []; whole = true; feedless = refl; is = ap (λ c. c ∷ []) feed; some = omega arith })
  at false [] t e later =
      let is : piece ≡ b ∷ [] = cc in
      rw is (record { front = b ∷ []; whole = false; feedless = rw t refl; is = refl; some = omega arith })
  at false (x ∷ xs) t e later = let is : piece ≡ b ∷ x = cc in rw is (longer b x t (later x xs refl))

pub some-line : (text line : List ℕ) (more : List (List ℕ)) → raw_lines text ≡ line ∷ more → 0 < length line
some-line text line more e = let p : IsPiece line = first_piece text line more e in p.some

-- A piece's last byte is an LF where it ends a line.
last_byte : (front : List ℕ) (whole : Bool) → has_feed front ≡ false → 0 < length (front ++ end_of whole) → eqb (get_or (front ++ end_of whole) (length (front ++ end_of whole) - 1) 0) 10 ≡ whole
last_byte front true e some =
    let at : length (front ++ 10 ∷ []) - 1 ≡ length front = omega (arith, length-append front (10 ∷ [])) in
    ap (λ (k : ℕ). eqb (get_or (front ++ 10 ∷ []) k 0) 10) at ∙ ap (λ (b : ℕ). eqb b 10) (get_or-append_seam front 10 [] 0)
last_byte front false e some = ap (λ (l : List ℕ). eqb (get_or l (length l - 1) 0) 10) (append-nil front) ∙ at (eqb (get_or front (length front - 1) 0) 10) refl where
  at : (t : Bool) → eqb (get_or front (length front - 1) 0) 10 ≡ t → eqb (get_or front (length front - 1) 0) 10 ≡ false
  at true f = absurd (let there : has_feed front ≡ true = list_any_at is_feed front (length front - 1) 0 (omega (arith, length-append front [], some)) f in let no : ⊥ = cc in no)
  at false f = f

pub moved : (test : Bool) (old new before after piece rest : List ℕ) → raw_lines old ≡ piece ∷ raw_lines rest → old ≡ piece ++ rest → test ≡ eqb (get_or piece (length piece - 1) 0) 10 → after ≡ before ++ piece → new ≡ rest → IsMoved test old new before after
moved test old new before after piece rest lines cut tests grown left =
    let p : IsPiece piece = first_piece old piece (raw_lines rest) lines in
    let some : 0 < length (p.front ++ end_of p.whole) = rw p.is at p.some in
    let is_whole : test ≡ p.whole = tests ∙ ap (λ (l : List ℕ). eqb (get_or l (length l - 1) 0) 10) p.is ∙ last_byte p.front p.whole p.feedless some in
    rw is_whole (record {
      front = p.front;
      feedless = p.feedless;
      some = some;
      taken = cut ∙ ap (λ l. l ++ rest) p.is ∙ ap (λ l. (p.front ++ end_of p.whole) ++ l) (sym left);
      grown = grown ∙ ap (λ l. before ++ l) p.is;
    })

-- what is behind a piece of a part of some bytes
pub rest_behind : (room piece rest : List ℕ) (used held : ℕ) → slice_range room used held ≡ piece ++ rest → slice_range room (used + length piece) held ≡ rest
rest_behind room piece rest used held e =
    let n = length piece in
    let within : n ≤ held - used = omega (arith, ap length e, length-append piece rest, length-take (held - used) (drop used room)) in
    let more : held - used ≡ n + (held - (used + n)) = omega arith in
    ap (take (held - (used + n))) (sym (drop-drop n used room))
    ∙ sym (drop-take n (held - (used + n)) (drop used room))
    ∙ ap (λ (m : ℕ). drop n (take m (drop used room))) (sym more)
    ∙ ap (drop n) e ∙ drop-append_seam piece rest

-- The first line of a text that begins with bytes without an LF.
raw_whole : (front rest : List ℕ) → has_feed front ≡ false → raw_lines ((front ++ 10 ∷ []) ++ rest) ≡ (front ++ 10 ∷ []) ∷ raw_lines rest
raw_whole [] rest h = refl
raw_whole (b ∷ bs) rest h = at (eqb b 10) h (raw_whole bs rest) where
  at : (t : Bool) → (t || has_feed bs) ≡ false → (has_feed bs ≡ false → raw_lines ((bs ++ 10 ∷ []) ++ rest) ≡ (bs ++ 10 ∷ []) ∷ raw_lines rest)
      → cond t ((b ∷ []) ∷ raw_lines ((bs ++ 10 ∷ []) ++ rest)) (onto_first b (raw_lines ((bs ++ 10 ∷ []) ++ rest))) ≡ (b ∷ (bs ++ 10 ∷ [])) ∷ raw_lines rest
  at true h later = absurd (let no : ⊥ = cc in no)
  at false h later = ap (onto_first b) (later h)

raw_last : (line : List ℕ) → has_feed line ≡ false → 0 < length line → raw_lines line ≡ line ∷ []
raw_last [] h some = absurd (omega arith)
raw_last (b ∷ []) h some = at (eqb b 10) h where
  at : (t : Bool) → (t || false) ≡ false → cond t ((b ∷ []) ∷ []) ((b ∷ []) ∷ []) ≡ (b ∷ []) ∷ []
  at true h = refl
  at false h = refl
raw_last (b ∷ d ∷ ds) h some = at (eqb b 10) h (raw_last (d ∷ ds)) where
  at : (t : Bool) → (t || has_feed (d ∷ ds)) ≡ false → (has_feed (d ∷ ds) ≡ false → 0 < length (d ∷ ds) → raw_lines (d ∷ ds) ≡ (d ∷ ds) ∷ [])
      → cond t ((b ∷ []) ∷ raw_lines (d ∷ ds)) (onto_first b (raw_lines (d ∷ ds))) ≡ (b ∷ d ∷ ds) ∷ []
  at true h later = absurd (let no : ⊥ = cc in no)
  at false h later = ap (onto_first b) (later h (omega arith))

none : (n : ℕ) (line : List ℕ) → line ≡ [] → line ≡ take n []
none zero line e = e
none (suc n) line e = e

-- Of what is put together, some first elements are those of what some first elements of the front make.
pub take-front : {X : Type 0} (n : ℕ) (a b : List X) → take n (take n a ++ b) ≡ take n (a ++ b)
take-front zero a b = refl
take-front (suc n) [] b = refl
take-front (suc n) (x ∷ xs) b = ap (λ l. x ∷ l) (take-front n xs b)

ends_once : (front : List ℕ) (whole : Bool) → has_feed front ≡ false → length (front ++ end_of whole) ≤ position_or_len (λ b. eqb b 10) (front ++ end_of whole) + 1
ends_once [] true h = omega arith
ends_once [] false h = omega arith
ends_once (b ∷ bs) whole h = at (eqb b 10) h (ends_once bs whole) where
  at : (t : Bool) → (t || has_feed bs) ≡ false → (has_feed bs ≡ false → length (bs ++ end_of whole) ≤ position_or_len is_feed (bs ++ end_of whole) + 1)
      → suc (length (bs ++ end_of whole)) ≤ cond (not t) (1 + position_or_len is_feed (bs ++ end_of whole)) 0 + 1
  at true h later = absurd (let no : ⊥ = cc in no)
  at false h later = omega (arith, later h)

once-cut : (n : ℕ) (l : List ℕ) → length l ≤ position_or_len (λ b. eqb b 10) l + 1 → length (take n l) ≤ position_or_len (λ b. eqb b 10) (take n l) + 1
once-cut zero l h = omega arith
once-cut (suc n) [] h = omega arith
once-cut (suc n) (b ∷ bs) h = at (eqb b 10) h (once-cut n bs) where
  at : (t : Bool) → suc (length bs) ≤ cond (not t) (1 + position_or_len is_feed bs) 0 + 1 → (length bs ≤ position_or_len is_feed bs + 1 → length (take n bs) ≤ position_or_len is_feed (take n bs) + 1)
      → suc (length (take n bs)) ≤ cond (not t) (1 + position_or_len is_feed (take n bs)) 0 + 1
  at true h later = let none : length (take n bs) ≤ length bs = omega (arith, length-take n bs) in omega (arith, h, none)
  at false h later = let less = later (omega (arith, h)) in omega (arith, less)

-- What is known of a line that is read in part, of so many pieces at least: it has no LF yet, and it and what is to come are what was to come
-- at first.
pub record IsBegun (max count : ℕ) (first : Option (List ℕ)) (line : List ℕ) (left : Option (List ℕ)) : Type 0 where
  pub raw : List ℕ
  pub joined : Keeps first (prepend_known raw left)
  pub feedless : has_feed raw ≡ false
  pub had : line ≡ take (max + 1) raw
  pub counted : count ≤ length raw

prepended : (line : List ℕ) (a b : Option (List ℕ)) → Keeps a b → Keeps (prepend_known line a) (prepend_known line b)
prepended line None b h = tt
prepended line (Some xs) None h = absurd h
prepended line (Some xs) (Some ys) h = ap (λ l. line ++ l) h

pub IsBegun-start : (max : ℕ) (left : Option (List ℕ)) (line : List ℕ) → line ≡ [] → IsBegun max 0 left line left
IsBegun-start max None line e = record { raw = []; joined = tt; feedless = refl; had = none (max + 1) line e; counted = omega arith }
IsBegun-start max (Some xs) line e = record { raw = []; joined = refl; feedless = refl; had = none (max + 1) line e; counted = omega arith }

pub IsBegun-kept : (max count : ℕ) (first a b : Option (List ℕ)) (line : List ℕ) → IsBegun max count first line a → Keeps a b → IsBegun max count first line b
IsBegun-kept max count first a b line h k = record { raw = h.raw; joined = Keeps-trans first _ _ h.joined (prepended h.raw a b k); feedless = h.feedless; had = h.had; counted = h.counted }

-- A piece goes over to the line.
record IsGrown (max count : ℕ) (whole : Bool) (first : Option (List ℕ)) (after : List ℕ) (left : Option (List ℕ)) : Type 0 where
  front : List ℕ
  feedless : has_feed front ≡ false
  had : after ≡ take (max + 1) (front ++ end_of whole)
  joined : Keeps first (prepend_known (front ++ end_of whole) left)
  counted : count + 1 ≤ length (front ++ end_of whole)

regrouped : (line piece new : List ℕ) (remaining : Option (List ℕ)) → Keeps (prepend_known line (prepend_known (piece ++ new) remaining)) (prepend_known (line ++ piece) (prepend_known new remaining))
regrouped line piece new None = tt
regrouped line piece new (Some xs) = append_assoc line piece (new ++ xs) ∙ ap (λ l. line ++ l) (sym (append_assoc piece new xs))

grown : (max count : ℕ) (whole : Bool) (first remaining : Option (List ℕ)) (line after cut old new : List ℕ) → IsBegun max count first line (prepend_known old remaining) → IsMoved whole old new line after → cut ≡ take (max + 1) after → IsGrown max count whole first cut (prepend_known new remaining)
grown max count whole first remaining line after cut old new h m e =
    let piece = m.front ++ end_of whole in
    let is : (h.raw ++ m.front) ++ end_of whole ≡ h.raw ++ piece = append_assoc h.raw m.front (end_of whole) in
    record {
      front = h.raw ++ m.front;
      feedless = list_any-append is_feed h.raw m.front ∙ rw h.feedless m.feedless;
      had = e ∙ ap (take (max + 1)) (m.grown ∙ ap (λ l. l ++ piece) h.had) ∙ take-front (max + 1) h.raw piece ∙ ap (take (max + 1)) (sym is);
      joined = rw is (Keeps-trans first _ _ (rw m.taken at h.joined) (regrouped h.raw piece new remaining));
      counted = omega (arith, h.counted, m.some, ap length is, length-append h.raw piece);
    }

pub IsBegun-more : (max count : ℕ) (whole : Bool) (first remaining : Option (List ℕ)) (line after cut old new : List ℕ) → IsBegun max count first line (prepend_known old remaining) → IsMoved whole old new line after → cut ≡ take (max + 1) after → whole ≡ false → IsBegun max (count + 1) first cut (prepend_known new remaining)
IsBegun-more max count whole first remaining line after cut old new h m c e =
    let g : IsGrown max count false first cut (prepend_known new remaining) = rw e at (grown max count whole first remaining line after cut old new h m c) in
    record { raw = g.front; joined = rw (append-nil g.front) at g.joined; feedless = g.feedless; had = g.had ∙ ap (take (max + 1)) (append-nil g.front); counted = omega (arith, g.counted, ap length (append-nil g.front)) }

loses : (max : ℕ) (first left : Option (List ℕ)) (raw line : List ℕ) → line ≡ take (max + 1) raw → Keeps first (prepend_known raw left) → ((rest : List ℕ) → raw_lines (raw ++ rest) ≡ raw ∷ raw_lines rest) → LosesLine max first line left
loses max None left raw line c k h = tt
loses max (Some xs) None raw line c k h = absurd k
loses max (Some xs) (Some ys) raw line c k h = record { raw = raw; lines = ap raw_lines (sym k) ∙ h ys; had = c }

pub LosesLine-whole : (max count : ℕ) (whole : Bool) (first remaining : Option (List ℕ)) (line after cut old new : List ℕ) → IsBegun max count first line (prepend_known old remaining) → IsMoved whole old new line after → cut ≡ take (max + 1) after → whole ≡ true → LosesLine max first cut (prepend_known new remaining)
LosesLine-whole max count whole first remaining line after cut old new h m c e =
    let g : IsGrown max count true first cut (prepend_known new remaining) = rw e at (grown max count whole first remaining line after cut old new h m c) in
    loses max first _ (g.front ++ 10 ∷ []) cut g.had g.joined (λ rest. raw_whole g.front rest g.feedless)

pub ends_once-moved : (max count : ℕ) (whole : Bool) (first remaining : Option (List ℕ)) (line after cut old new : List ℕ) → IsBegun max count first line (prepend_known old remaining) → IsMoved whole old new line after → cut ≡ take (max + 1) after → length cut ≤ position_or_len (λ b. eqb b 10) cut + 1
ends_once-moved max count whole first remaining line after cut old new h m c =
    let g : IsGrown max count whole first cut (prepend_known new remaining) = grown max count whole first remaining line after cut old new h m c in
    rw g.had (once-cut (max + 1) (g.front ++ end_of whole) (ends_once g.front whole g.feedless))

-- The input has ended: the line is all that was left of it.
pub LosesLine-last : (max count : ℕ) (first remaining : Option (List ℕ)) (line pending : List ℕ) → IsBegun max count first line (prepend_known pending remaining) → pending ≡ [] → IsAtEnd remaining → 0 < length line → LosesLine max first line (prepend_known pending remaining)
LosesLine-last max count first remaining line pending h e end some = at first remaining h.joined end where
  more : 0 < length h.raw
  more = omega (arith, ap length h.had, length-take (max + 1) h.raw, some)

  at : (first remaining : Option (List ℕ)) → Keeps first (prepend_known h.raw (prepend_known pending remaining)) → IsAtEnd remaining → LosesLine max first line (prepend_known pending remaining)
  at None remaining k end = tt
  at (Some xs) None k end = absurd k
  at (Some xs) (Some ys) k end =
      let none : pending ++ ys ≡ [] = rw (e, end) refl in
      record {
        raw = h.raw;
        lines = ap raw_lines (sym k ∙ ap (λ l. h.raw ++ l) none ∙ append-nil h.raw) ∙ raw_last h.raw h.feedless more ∙ ap (λ l. h.raw ∷ raw_lines l) (sym none);
        had = h.had;
      }

pub ends_once-last : (max count : ℕ) (first left : Option (List ℕ)) (line : List ℕ) → IsBegun max count first line left → length line ≤ position_or_len (λ b. eqb b 10) line + 1
ends_once-last max count first left line h = rw h.had (once-cut (max + 1) h.raw (rw (append-nil h.raw) at (ends_once h.raw false h.feedless)))

pub nothing_left : (max count : ℕ) (first remaining : Option (List ℕ)) (line pending : List ℕ) → IsBegun max count first line (prepend_known pending remaining) → pending ≡ [] → IsAtEnd remaining → length line ≡ 0 → IsAtEnd first × IsAtEnd (prepend_known pending remaining)
nothing_left max count first remaining line pending h e end none = at first remaining h.joined end where
  less : length h.raw ≡ 0
  less = omega (arith, ap length h.had, length-take (max + 1) h.raw, none)

  empty : (raw : List ℕ) → length raw ≡ 0 → raw ≡ []
  empty [] e = refl
  empty (b ∷ bs) e = absurd (omega arith)

  at : (first remaining : Option (List ℕ)) → Keeps first (prepend_known h.raw (prepend_known pending remaining)) → IsAtEnd remaining → IsAtEnd first × IsAtEnd (prepend_known pending remaining)
  at None None k end = (tt, tt)
  at None (Some ys) k end = (tt, rw (e, end) refl)
  at (Some xs) None k end = absurd k
  at (Some xs) (Some ys) k end = let left : pending ++ ys ≡ [] = rw (e, end) refl in (sym k ∙ ap (λ l. l ++ (pending ++ ys)) (empty h.raw less) ∙ left, left)

-- a line of more pieces than can be counted
pub long-first : (max count : ℕ) (first left : Option (List ℕ)) (line : List ℕ) → IsBegun max count first line left → 2 ^ 64 - 1 ≤ count → IfSome first (λ bytes. 2 ^ 64 - 1 ≤ length bytes)
long-first max count first left line h p = at first left h.joined where
  at : (first left : Option (List ℕ)) → Keeps first (prepend_known h.raw left) → IfSome first (λ bytes. 2 ^ 64 - 1 ≤ length bytes)
  at None left k = tt
  at (Some xs) None k = absurd k
  at (Some xs) (Some ys) k = omega (arith, h.counted, p, ap length k, length-append h.raw ys)
