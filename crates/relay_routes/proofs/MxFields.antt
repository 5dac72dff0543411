-- The fields of a line, one after another.
use Rattle.std.proofs.Common.{◌≡◌, ℕ, suc, ◌+◌, ◌<◌, Bool, true, false, not, cond, List, [], ◌∷◌, length, take, drop, refl, sym, ap, ◌∙◌, filter, arith, ◌⊎◌, inl, inr}
use Rattle.std.specs.List.{slice_split, onto_first, prefix_len, position_or_len}
use Rattle.relay_text.specs.Bytes.{is_white, trimmed_start}
use Rattle.relay_text.specs.Addresses.{is_empty}
use Rattle.relay_routes.specs.Exchanges.{fields_of}

abbrev some_piece : List ℕ → Bool
some_piece piece = not (is_empty piece)

fields_white : (b : ℕ) (bs : List ℕ) → is_white b ≡ true → fields_of (b ∷ bs) ≡ fields_of bs
fields_white b bs h = ap (λ t. filter some_piece (cond t ([] ∷ slice_split is_white bs) (onto_first b (slice_split is_white bs)))) h

fields_trimmed : (text : List ℕ) → fields_of text ≡ fields_of (trimmed_start text)
fields_trimmed [] = refl
fields_trimmed (b ∷ bs) = at (is_white b) refl (fields_trimmed bs) where
  at : (t : Bool) → is_white b ≡ t → fields_of bs ≡ fields_of (trimmed_start bs) → fields_of (b ∷ bs) ≡ fields_of (drop (cond t (1 + prefix_len is_white bs) 0) (b ∷ bs))
  at true h later =
      let e : 1 + prefix_len is_white bs ≡ suc (prefix_len is_white bs) = omega arith in
      fields_white b bs h ∙ later ∙ ap (λ n. fields_of (drop n (b ∷ bs))) (sym e)
  at false h later = refl

first_not_white : (text : List ℕ) → (trimmed_start text ≡ []) ⊎ ((b : ℕ) × (bs : List ℕ) × (trimmed_start text ≡ b ∷ bs) × (is_white b ≡ false))
first_not_white [] = inl refl
first_not_white (b ∷ bs) = at (is_white b) refl (first_not_white bs) where
  at : (t : Bool) → is_white b ≡ t → (trimmed_start bs ≡ []) ⊎ ((a : ℕ) × (more : List ℕ) × (trimmed_start bs ≡ a ∷ more) × (is_white a ≡ false))
      → (drop (cond t (1 + prefix_len is_white bs) 0) (b ∷ bs) ≡ []) ⊎ ((a : ℕ) × (more : List ℕ) × (drop (cond t (1 + prefix_len is_white bs) 0) (b ∷ bs) ≡ a ∷ more) × (is_white a ≡ false))
  at true h later =
      let e : 1 + prefix_len is_white bs ≡ suc (prefix_len is_white bs) = omega arith in
      rw e later
  at false h later = inr (b, bs, refl, h)

-- A text is cut at its first white space.
first_piece : (text : List ℕ) → (pieces : List (List ℕ)) × (slice_split is_white text ≡ take (position_or_len is_white text) text ∷ pieces)
    × (filter some_piece pieces ≡ fields_of (drop (position_or_len is_white text) text))
first_piece [] = ([], refl, refl)
first_piece (b ∷ bs) = at (is_white b) refl (first_piece bs) where
  at : (t : Bool) → is_white b ≡ t
      → (pieces : List (List ℕ)) × (slice_split is_white bs ≡ take (position_or_len is_white bs) bs ∷ pieces) × (filter some_piece pieces ≡ fields_of (drop (position_or_len is_white bs) bs))
      → (pieces : List (List ℕ)) × (cond t ([] ∷ slice_split is_white bs) (onto_first b (slice_split is_white bs)) ≡ take (cond (not t) (1 + position_or_len is_white bs) 0) (b ∷ bs) ∷ pieces)
      × (filter some_piece pieces ≡ fields_of (drop (cond (not t) (1 + position_or_len is_white bs) 0) (b ∷ bs)))
  at true h later = (slice_split is_white bs, refl, sym (fields_white b bs h))
  at false h later =
      let e : 1 + position_or_len is_white bs ≡ suc (position_or_len is_white bs) = omega arith in
      rw e (later.0, ap (onto_first b) later.1, later.2)

-- a text whose first byte isn't white begins with a field
field_and_rest : (b : ℕ) (bs : List ℕ) → is_white b ≡ false
    → fields_of (b ∷ bs) ≡ take (position_or_len is_white (b ∷ bs)) (b ∷ bs) ∷ fields_of (drop (position_or_len is_white (b ∷ bs)) (b ∷ bs))
field_and_rest b bs h = at (is_white b) h (first_piece bs) where
  at : (t : Bool) → t ≡ false
      → (pieces : List (List ℕ)) × (slice_split is_white bs ≡ take (position_or_len is_white bs) bs ∷ pieces) × (filter some_piece pieces ≡ fields_of (drop (position_or_len is_white bs) bs))
      → filter some_piece (cond t ([] ∷ slice_split is_white bs) (onto_first b (slice_split is_white bs)))
      ≡ take (cond (not t) (1 + position_or_len is_white bs) 0) (b ∷ bs) ∷ fields_of (drop (cond (not t) (1 + position_or_len is_white bs) 0) (b ∷ bs))
  at true f cut = absurd (let no : ⊥ = cc in no)
  at false f cut =
      let e : 1 + position_or_len is_white bs ≡ suc (position_or_len is_white bs) = omega arith in
      rw e (ap (λ ps. filter some_piece (onto_first b ps)) cut.1 ∙ ap (λ fs. (b ∷ take (position_or_len is_white bs) bs) ∷ fs) cut.2)

pub no_field : (text start : List ℕ) → start ≡ trimmed_start text → length start ≡ 0 → fields_of text ≡ []
no_field text [] e none = fields_trimmed text ∙ ap fields_of (sym e)
no_field text (b ∷ bs) e none = absurd (omega arith)

pub some_field : (text start : List ℕ) (n : ℕ) → start ≡ trimmed_start text → 0 < length start → n ≡ position_or_len is_white start → fields_of text ≡ take n start ∷ fields_of (drop n start)
some_field text start n e some place = at (first_not_white text) where
  at : (trimmed_start text ≡ []) ⊎ ((b : ℕ) × (bs : List ℕ) × (trimmed_start text ≡ b ∷ bs) × (is_white b ≡ false)) → fields_of text ≡ take n start ∷ fields_of (drop n start)
  at (inl none) = absurd (omega (arith, ap length (e ∙ none)))
  at (inr found) =
      let is : start ≡ found.0 ∷ found.1 = e ∙ found.2 in
      fields_trimmed text ∙ ap fields_of (sym e) ∙ rw (place, is) (field_and_rest found.0 found.1 found.3)
