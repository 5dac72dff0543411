-- Lemmas on the texts that ends cut out of bytes.
use Rattle.std.proofs.Common.{◌≡◌, ℕ, zero, suc, ◌+◌, ◌-◌, ◌<◌, ◌≤◌, Some, List, [], ◌∷◌, ◌++◌, length, get_or, take, drop, slice_get, arith, sym, refl, ap, ◌∙◌, ⊎_elim}
use Rattle.std.specs.Prelude.{slice_range}
use Rattle.std.proofs.lemmas.Bool.{cases_lt}
use Rattle.std.proofs.lemmas.List.{take-append-le, drop-append-le, length-drop, drop_at, take_all, length_push, length-append, get_or_push, get_or_append_left}
use Rattle.std.proofs.lemmas.Option.{slice_get-get_or}
use Rattle.relay_chains.specs.Interner.{texts_from, AreCut}

pub length-texts : (bytes : List ℕ) (start : ℕ) (ends : List ℕ) → length (texts_from bytes start ends) ≡ length ends
length-texts bytes start [] = refl
length-texts bytes start (end ∷ ends) = ap suc (length-texts bytes end ends)

pub text-at : (bytes : List ℕ) (start : ℕ) (ends : List ℕ) (number : ℕ) → number < length ends
    → get_or (texts_from bytes start ends) number [] ≡ slice_range bytes (get_or (start ∷ ends) number 0) (get_or ends number 0)
text-at bytes start [] number below = absurd (omega arith)
text-at bytes start (end ∷ ends) zero below = refl
text-at bytes start (end ∷ ends) (suc number) below = text-at bytes end ends number (omega arith)

drop_first : (count start : ℕ) (bytes more : List ℕ) → start ≤ length bytes
    → take count (drop start (bytes ++ more)) ≡ take count (drop start bytes ++ more)
drop_first count start bytes more from = ap (take count) (drop-append-le start bytes more from)

-- more bytes at the end change no part before them
range-more : (bytes more : List ℕ) (start end : ℕ) → end ≤ length bytes → slice_range (bytes ++ more) start end ≡ slice_range bytes start end
range-more bytes more start end within =
    ⊎_elim
    (λ past. let none : end - start ≡ 0 = omega arith in rw none refl)
    (λ from.
    drop_first (end - start) start bytes more from
    ∙ take-append-le (end - start) (drop start bytes) more (omega (arith, length-drop start bytes)))
    (cases_lt (length bytes) start)

-- the bytes past an end, up to the end of all
range-last : (bytes more : List ℕ) → slice_range (bytes ++ more) (length bytes) (length (bytes ++ more)) ≡ more
range-last bytes more =
    ap (take (length (bytes ++ more) - length bytes)) (drop_at bytes more (length bytes) refl)
    ∙ take_all (length (bytes ++ more) - length bytes) more (omega (arith, length-append bytes more))

-- a text put at the end
pub texts-push : (bytes text : List ℕ) (start : ℕ) (ends : List ℕ)
    → ((number : ℕ) → number < length ends → get_or ends number 0 ≤ length bytes) → get_or (start ∷ ends) (length ends) 0 ≡ length bytes
    → texts_from (bytes ++ text) start (ends ++ length (bytes ++ text) ∷ []) ≡ texts_from bytes start ends ++ text ∷ []
texts-push bytes text start [] within whole =
    ap (λ (t : List ℕ). t ∷ []) (ap (λ (from : ℕ). slice_range (bytes ++ text) from (length (bytes ++ text))) whole ∙ range-last bytes text)
texts-push bytes text start (end ∷ ends) within whole =
    let first : slice_range (bytes ++ text) start end ≡ slice_range bytes start end = range-more bytes text start end (within 0 (omega arith)) in
    let rest : texts_from (bytes ++ text) end (ends ++ length (bytes ++ text) ∷ []) ≡ texts_from bytes end ends ++ text ∷ [] =
    texts-push bytes text end ends (λ number below. within (suc number) (omega arith)) whole in
    cc

pub cut-push : (bytes text ends : List ℕ) → AreCut bytes ends → AreCut (bytes ++ text) (ends ++ length (bytes ++ text) ∷ [])
cut-push bytes text ends cut =
    let more = length-append bytes text in
    let count = length_push ends (length (bytes ++ text)) in
    record {
      rising = λ number below. ⊎_elim
          (λ old. omega (
            arith,
            cut.rising number old,
            get_or_append_left ends (length (bytes ++ text) ∷ []) 0 number old,
            get_or_append_left (0 ∷ ends) (length (bytes ++ text) ∷ []) 0 number (omega arith),
          ))
          (λ new. let at : number ≡ length ends = omega arith in
          rw at (omega (
            arith,
            cut.whole,
            more,
            get_or_push ends (length (bytes ++ text)) 0 (length ends) refl,
            get_or_append_left (0 ∷ ends) (length (bytes ++ text) ∷ []) 0 (length ends) (omega arith),
          )))
          (cases_lt number (length ends));
      within = λ number below. ⊎_elim
          (λ old. omega (arith, cut.within number old, more, get_or_append_left ends (length (bytes ++ text) ∷ []) 0 number old))
          (λ new. let at : number ≡ length ends = omega arith in
          rw at (omega (arith, get_or_push ends (length (bytes ++ text)) 0 (length ends) refl)))
          (cases_lt number (length ends));
      whole = rw count (get_or_push (0 ∷ ends) (length (bytes ++ text)) 0 (length ends + 1) (omega arith));
    }

-- what a part of the bytes is, as the text of a number
pub text-found : (bytes ends : List ℕ) (number start end : ℕ) → number < length ends
    → start ≡ get_or (0 ∷ ends) number 0 → end ≡ get_or ends number 0
    → slice_get (texts_from bytes 0 ends) number ≡ Some (slice_range bytes start end)
text-found bytes ends number start end below from to =
    slice_get-get_or (texts_from bytes 0 ends) number [] (omega (arith, length-texts bytes 0 ends))
    ∙ ap Some (text-at bytes 0 ends number below ∙ ap (λ (s : ℕ). slice_range bytes s (get_or ends number 0)) (sym from) ∙ ap (slice_range bytes start) (sym to))
