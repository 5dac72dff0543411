-- Runs of bytes joined by dots, read in one pass.
use Rattle.std.proofs.Common.{◌≡◌, ℕ, suc, ◌+◌, ◌<◌, ◌≤◌, Bool, true, false, eqb, not, ◌&&◌, ◌||◌, List, [], ◌∷◌, length, take, drop, get_or, refl, sym, ap, ◌∙◌, inl, inr, arith}
use Rattle.std.specs.Bool.{if◌then◌else◌}
use Rattle.std.specs.List.{prefix_len, list_all}
use Rattle.std.proofs.lemmas.Bool.{cases_Bool, and_parts, or_left, or_right, or_from, and_from}
use Rattle.std.proofs.lemmas.Bool.Decides.{same_from_decides, Decides-eqb}
use Rattle.std.proofs.lemmas.List.{at_drop_more, at_drop_all, take_all}
use Rattle.relay_text.specs.Addresses.{is_dot}
use Rattle.relay_text.specs.Runs.{part_byte, run_in, is_joined}
use Rattle.relay_text.specs.declared.run.Part.{Part}
use Rattle.relay_text.proofs.Writing.{runs_on, runs_from, and_assoc}

-- the bytes at the front that pass a test
pub take_more : (q : ℕ → Bool) (b : ℕ) (bs : List ℕ) → q b ≡ true → take (prefix_len q (b ∷ bs)) (b ∷ bs) ≡ b ∷ take (prefix_len q bs) bs
take_more q b bs h = rw h (let more : 1 + prefix_len q bs ≡ suc (prefix_len q bs) = omega arith in ap (λ k. take k (b ∷ bs)) more)

take_none : (q : ℕ → Bool) (b : ℕ) (bs : List ℕ) → q b ≡ false → take (prefix_len q (b ∷ bs)) (b ∷ bs) ≡ []
take_none q b bs h = rw h refl

pub front_passes : (q : ℕ → Bool) (xs : List ℕ) → list_all q (take (prefix_len q xs) xs) ≡ true
front_passes q [] = refl
front_passes q (b ∷ bs) = elim (cases_Bool (q b)) [
  | inl e ↦ ap (list_all q) (take_more q b bs e) ∙ and_from (q b) (list_all q (take (prefix_len q bs) bs)) e (front_passes q bs)
  | inr e ↦ ap (list_all q) (take_none q b bs e)
]

-- a text of which every byte passes is as long as its front that passes, and no other text is
pub whole_front : (q : ℕ → Bool) (xs : List ℕ) → list_all q xs ≡ true → prefix_len q xs ≡ length xs
whole_front q [] all = refl
whole_front q (x ∷ xs) all =
    let parts = and_parts (q x) (list_all q xs) all in
    rw parts.0 (omega (arith, whole_front q xs parts.1))

pub all_by_front : (q : ℕ → Bool) (xs : List ℕ) → eqb (prefix_len q xs) (length xs) ≡ list_all q xs
all_by_front q xs =
    let whole : prefix_len q xs ≡ length xs → list_all q xs ≡ true = λ e. sym (ap (list_all q) (take_all (prefix_len q xs) xs (omega arith))) ∙ front_passes q xs in
    same_from_decides _ _ (Decides-eqb (prefix_len q xs) (length xs)) (whole_front q xs, whole)

-- whether what is left goes on so, past bytes that were sound or not, of which the last was a dot or not
abbrev pub joined_from : (ℕ → Bool) → Bool → Bool → List ℕ → Bool
joined_from p sound fresh [] = sound && not fresh
joined_from p sound fresh (b ∷ bs) = if is_dot b then joined_from p (sound && not fresh) true bs else (if p b then joined_from p sound false bs else (sound && not fresh))

pub joined_from-is : (p : ℕ → Bool) (sound fresh : Bool) (text : List ℕ) → joined_from p sound fresh text ≡ (sound && runs_on p is_dot fresh (take (prefix_len (λ b. p b || is_dot b) text) text))
joined_from-is p sound fresh [] = refl
joined_from-is p sound fresh (b ∷ bs) =
    let q : ℕ → Bool = λ c. p c || is_dot c in
    let rest : List ℕ = take (prefix_len q bs) bs in
    elim (cases_Bool (is_dot b)) [
      | inl d ↦
          let here : joined_from p sound fresh (b ∷ bs) ≡ joined_from p (sound && not fresh) true bs = rw d refl in
          let runs : runs_on p is_dot fresh (b ∷ rest) ≡ (not fresh && runs_on p is_dot true rest) = rw d refl in
          here ∙ joined_from-is p (sound && not fresh) true bs ∙ and_assoc sound (not fresh) (runs_on p is_dot true rest)
          ∙ ap (λ r. sound && r) (sym runs) ∙ ap (λ t. sound && runs_on p is_dot fresh t) (sym (take_more q b bs (or_right (p b) (is_dot b) d)))
      | inr n ↦ elim (cases_Bool (p b)) [
        | inl t ↦
            let here : joined_from p sound fresh (b ∷ bs) ≡ joined_from p sound false bs = rw (n, t) refl in
            let runs : runs_on p is_dot fresh (b ∷ rest) ≡ runs_on p is_dot false rest = rw (n, t) refl in
            here ∙ joined_from-is p sound false bs
            ∙ ap (λ r. sound && r) (sym runs) ∙ ap (λ t. sound && runs_on p is_dot fresh t) (sym (take_more q b bs (or_left (p b) (is_dot b) t)))
        | inr u ↦
            let here : joined_from p sound fresh (b ∷ bs) ≡ (sound && not fresh) = rw (n, u) refl in
            here ∙ ap (λ t. sound && runs_on p is_dot fresh t) (sym (take_none q b bs (or_from (p b) (is_dot b) u n)))
      ]
    ]

pub joined_is : (part : Part) (text : List ℕ) → joined_from (part_byte part) true true text ≡ is_joined part (run_in part text)
joined_is part text = joined_from-is (part_byte part) true true text ∙ sym (runs_from (part_byte part) is_dot (run_in part text))

-- what a reader found where the run ends, before another byte and at the end of the text
pub stopped : (part : Part) (sound fresh : Bool) (text : List ℕ) (len : ℕ) → len < length text → is_dot (get_or text len 0) ≡ false → part_byte part (get_or text len 0) ≡ false
    → joined_from (part_byte part) sound fresh (drop len text) ≡ joined_from (part_byte part) true true text → (sound && not fresh) ≡ is_joined part (run_in part text)
stopped part sound fresh text len within other bad kept =
    let here : joined_from (part_byte part) sound fresh (drop len text) ≡ (sound && not fresh) =
    at_drop_more (joined_from (part_byte part) sound fresh) text len 0 within ∙ rw (other, bad) refl in
    sym here ∙ kept ∙ joined_is part text

pub ended : (part : Part) (sound fresh : Bool) (text : List ℕ) (len : ℕ) → length text ≤ len
    → joined_from (part_byte part) sound fresh (drop len text) ≡ joined_from (part_byte part) true true text → (sound && not fresh) ≡ is_joined part (run_in part text)
ended part sound fresh text len past kept = sym (at_drop_all (joined_from (part_byte part) sound fresh) text len past) ∙ kept ∙ joined_is part text
