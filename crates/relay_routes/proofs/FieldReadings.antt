-- What one reading of a field finds.
use Rattle.std.proofs.Common.{◌≡◌, ℕ, suc, ◌+◌, ◌<◌, ◌≤◌, Bool, true, false, not, ◌&&◌, ◌==◌, nat_lt, List, [], ◌∷◌, length, take, drop, get_or, refl, sym, ap, ◌∙◌, inl, inr, arith}
use Rattle.std.specs.List.{position_or_len}
use Rattle.std.specs.Char.{is_ascii_uppercase, to_ascii_lowercase}
use Rattle.std.proofs.lemmas.Bool.{cases_Bool, true≢false}
use Rattle.std.proofs.lemmas.Bool.Decides.{nat_tests}
use Rattle.std.proofs.lemmas.List.{at_drop_more, at_drop_all}
use Rattle.relay_text.specs.Bytes.{is_white, folded}
use Rattle.relay_text.specs.Addresses.{is_dot, is_domain_name}
use Rattle.relay_text.proofs.Writing.{runs_on, runs_from}
use Rattle.relay_routes.specs.Fields.{front_field}
use Rattle.relay_routes.specs.FieldReadings.{is_label_byte, is_small, front_len, labels_from, capital_from}

small_not_white : (b : ℕ) → is_small b ≡ true → is_white b ≡ false
small_not_white b h = grind (arith, nat_tests)

small_label : (b : ℕ) → is_small b ≡ true → is_label_byte b ≡ true
small_label b h = grind (arith, nat_tests)

small_kept : (b : ℕ) → is_small b ≡ true → to_ascii_lowercase b ≡ b
small_kept b h = grind (arith, nat_tests)

capital_label : (b : ℕ) → is_ascii_uppercase b ≡ true → is_label_byte b ≡ true
capital_label b h = grind (arith, nat_tests)

label_not_dot : (b : ℕ) → is_label_byte b ≡ true → is_dot b ≡ false
label_not_dot b h = grind (arith, nat_tests)

no_label : (b : ℕ) → is_small b ≡ false → is_ascii_uppercase b ≡ false → is_label_byte b ≡ false
no_label b h u = grind (arith, nat_tests)

other_kept : (b : ℕ) → is_ascii_uppercase b ≡ false → to_ascii_lowercase b ≡ b
other_kept b h = grind (arith, nat_tests)

front_white : (b : ℕ) (bs : List ℕ) → is_white b ≡ true → front_field (b ∷ bs) ≡ []
front_white b bs h = rw h refl

front_more : (b : ℕ) (bs : List ℕ) → is_white b ≡ false → front_field (b ∷ bs) ≡ b ∷ front_field bs
front_more b bs h = rw h (let more : 1 + position_or_len is_white bs ≡ suc (position_or_len is_white bs) = omega arith in ap (λ k. take k (b ∷ bs)) more)

pub front_len-is : (text : List ℕ) → front_len text ≡ position_or_len is_white text
front_len-is [] = refl
front_len-is (b ∷ bs) = elim (cases_Bool (is_small b)) [
  | inl s ↦ rw (s, small_not_white b s) (ap (λ n. 1 + n) (front_len-is bs))
  | inr n ↦ elim (cases_Bool (is_white b)) [
    | inl w ↦ rw (n, w) refl
    | inr v ↦ rw (n, v) (ap (λ n. 1 + n) (front_len-is bs))
  ]
]

-- a byte of a label goes on with the label
label_on : (fresh : Bool) (b : ℕ) (bs : List ℕ) → is_label_byte b ≡ true → runs_on is_label_byte is_dot fresh (b ∷ bs) ≡ runs_on is_label_byte is_dot false bs
label_on fresh b bs h = rw (label_not_dot b h, h) refl

and_over : (a b c d : Bool) → (((a && b) && c) && d) ≡ (a && (b && (c && d)))
and_over true true c d = refl
and_over true false c d = refl
and_over false b c d = refl

-- another byte ends it, and is a dot behind a label or a fault
other_on : (joined fresh : Bool) (b : ℕ) (bs : List ℕ) → is_label_byte b ≡ false
    → ((joined && is_dot b && not fresh) && runs_on is_label_byte is_dot true bs) ≡ (joined && runs_on is_label_byte is_dot fresh (b ∷ bs))
other_on joined fresh b bs h = elim (cases_Bool (is_dot b)) [
  | inl d ↦ rw d (and_over joined true (not fresh) (runs_on is_label_byte is_dot true bs))
  | inr n ↦ rw (n, h) (and_over joined false (not fresh) (runs_on is_label_byte is_dot true bs))
]

pub labels_from-is : (joined fresh : Bool) (text : List ℕ) → labels_from joined fresh text ≡ (joined && runs_on is_label_byte is_dot fresh (front_field text))
labels_from-is joined fresh [] = refl
labels_from-is joined fresh (b ∷ bs) =
    let on : List ℕ → Bool = λ t. joined && runs_on is_label_byte is_dot fresh t in
    elim (cases_Bool (is_small b)) [
      | inl s ↦
          let here : labels_from joined fresh (b ∷ bs) ≡ labels_from joined false bs = rw s refl in
          here ∙ labels_from-is joined false bs
          ∙ ap (λ r. joined && r) (sym (label_on fresh b (front_field bs) (small_label b s))) ∙ ap on (sym (front_more b bs (small_not_white b s)))
      | inr n ↦ elim (cases_Bool (is_white b)) [
        | inl w ↦
            let here : labels_from joined fresh (b ∷ bs) ≡ (joined && not fresh) = rw (n, w) refl in
            here ∙ ap on (sym (front_white b bs w))
        | inr v ↦ elim (cases_Bool (is_ascii_uppercase b)) [
          | inl u ↦
              let here : labels_from joined fresh (b ∷ bs) ≡ labels_from joined false bs = rw (n, v, u) refl in
              here ∙ labels_from-is joined false bs
              ∙ ap (λ r. joined && r) (sym (label_on fresh b (front_field bs) (capital_label b u))) ∙ ap on (sym (front_more b bs v))
          | inr l ↦
              let here : labels_from joined fresh (b ∷ bs) ≡ labels_from (joined && is_dot b && not fresh) true bs = rw (n, v, l) refl in
              here ∙ labels_from-is (joined && is_dot b && not fresh) true bs
              ∙ other_on joined fresh b (front_field bs) (no_label b n l) ∙ ap on (sym (front_more b bs v))
        ]
      ]
    ]

pub labels_are : (text : List ℕ) → labels_from true true text ≡ is_domain_name (front_field text)
labels_are text = labels_from-is true true text ∙ sym (runs_from is_label_byte is_dot (front_field text))

seen_stays : (text : List ℕ) → capital_from true text ≡ true
seen_stays [] = refl
seen_stays (b ∷ bs) = elim (cases_Bool (is_small b)) [
  | inl s ↦ rw s (seen_stays bs)
  | inr n ↦ elim (cases_Bool (is_white b)) [
    | inl w ↦ rw (n, w) refl
    | inr v ↦ elim (cases_Bool (is_ascii_uppercase b)) [
      | inl u ↦ rw (n, v, u) (seen_stays bs)
      | inr l ↦ rw (n, v, l) (seen_stays bs)
    ]
  ]
]

both_kept : (b : ℕ) (bs : List ℕ) → to_ascii_lowercase b ≡ b → folded bs ≡ bs → folded (b ∷ bs) ≡ b ∷ bs
both_kept b bs h more = ap (λ x. x ∷ folded bs) h ∙ ap (λ xs. b ∷ xs) more

-- Folding keeps a field without a capital.
pub small_stays : (text : List ℕ) → capital_from false text ≡ false → folded (front_field text) ≡ front_field text
small_stays [] h = refl
small_stays (b ∷ bs) h = elim (cases_Bool (is_small b)) [
  | inl s ↦
      let here : capital_from false (b ∷ bs) ≡ capital_from false bs = rw s refl in
      rw (front_more b bs (small_not_white b s)) (both_kept b (front_field bs) (small_kept b s) (small_stays bs (sym here ∙ h)))
  | inr n ↦ elim (cases_Bool (is_white b)) [
    | inl w ↦ rw (front_white b bs w) refl
    | inr v ↦ elim (cases_Bool (is_ascii_uppercase b)) [
      | inl u ↦
          let here : capital_from false (b ∷ bs) ≡ capital_from true bs = rw (n, v, u) refl in
          absurd (true≢false (sym (here ∙ seen_stays bs) ∙ h))
      | inr l ↦
          let here : capital_from false (b ∷ bs) ≡ capital_from false bs = rw (n, v, l) refl in
          rw (front_more b bs v) (both_kept b (front_field bs) (other_kept b l) (small_stays bs (sym here ∙ h)))
    ]
  ]
]

-- what the reading found where a field ends: before white space
pub white_at : (text : List ℕ) (len : ℕ) (joined fresh seen : Bool) → len < length text → is_small (get_or text len 0) ≡ false → is_white (get_or text len 0) ≡ true
    → len + front_len (drop len text) ≡ front_len text → labels_from joined fresh (drop len text) ≡ labels_from true true text → capital_from seen (drop len text) ≡ capital_from false text
    → (len ≡ position_or_len is_white text) × ((joined && not fresh) ≡ is_domain_name (front_field text)) × (seen ≡ false → folded (front_field text) ≡ front_field text)
white_at text len joined fresh seen within other white passed name capital =
    let none : front_len (drop len text) ≡ 0 = at_drop_more front_len text len 0 within ∙ rw (other, white) refl in
    let here : labels_from joined fresh (drop len text) ≡ (joined && not fresh) = at_drop_more (labels_from joined fresh) text len 0 within ∙ rw (other, white) refl in
    let saw : capital_from seen (drop len text) ≡ seen = at_drop_more (capital_from seen) text len 0 within ∙ rw (other, white) refl in
    let whole : len + 0 ≡ len = omega arith in (
      sym whole ∙ ap (λ n. len + n) (sym none) ∙ passed ∙ front_len-is text,
      sym here ∙ name ∙ labels_are text,
      λ h. small_stays text (sym capital ∙ saw ∙ h),
    )

-- and at the end of the text
pub end_at : (text : List ℕ) (len : ℕ) (joined fresh seen : Bool) → length text ≡ len
    → len + front_len (drop len text) ≡ front_len text → labels_from joined fresh (drop len text) ≡ labels_from true true text → capital_from seen (drop len text) ≡ capital_from false text
    → (len ≡ position_or_len is_white text) × ((joined && not fresh) ≡ is_domain_name (front_field text)) × (seen ≡ false → folded (front_field text) ≡ front_field text)
end_at text len joined fresh seen end passed name capital =
    let past : length text ≤ len = omega arith in
    let none : front_len (drop len text) ≡ 0 = at_drop_all front_len text len past in
    let here : labels_from joined fresh (drop len text) ≡ (joined && not fresh) = at_drop_all (labels_from joined fresh) text len past in
    let saw : capital_from seen (drop len text) ≡ seen = at_drop_all (capital_from seen) text len past in
    let whole : len + 0 ≡ len = omega arith in (
      sym whole ∙ ap (λ n. len + n) (sym none) ∙ passed ∙ front_len-is text,
      sym here ∙ name ∙ labels_are text,
      λ h. small_stays text (sym capital ∙ saw ∙ h),
    )

-- whether bytes stand behind the last one that is in no label
pub some_behind : (m n : ℕ) → m ≤ n → nat_lt m n ≡ not (m == n)
some_behind m n h = grind (arith, nat_tests)

-- what is left behind a byte that stands in no label
pub other_at : (text : List ℕ) (len : ℕ) (joined fresh seen next again : Bool) → len < length text → is_small (get_or text len 0) ≡ false → is_white (get_or text len 0) ≡ false → is_ascii_uppercase (get_or text len 0) ≡ false
    → next ≡ (joined && is_dot (get_or text len 0) && not fresh) → again ≡ true
    → len + front_len (drop len text) ≡ front_len text → labels_from joined fresh (drop len text) ≡ labels_from true true text → capital_from seen (drop len text) ≡ capital_from false text
    → (len + 1 + front_len (drop (len + 1) text) ≡ front_len text) × (labels_from next again (drop (len + 1) text) ≡ labels_from true true text) × (capital_from seen (drop (len + 1) text) ≡ capital_from false text)
other_at text len joined fresh seen next again within other dark small is anew passed name capital =
    let more : front_len (drop len text) ≡ 1 + front_len (drop (len + 1) text) = at_drop_more front_len text len 0 within ∙ rw (other, dark) refl in
    let here : labels_from joined fresh (drop len text) ≡ labels_from (joined && is_dot (get_or text len 0) && not fresh) true (drop (len + 1) text) =
    at_drop_more (labels_from joined fresh) text len 0 within ∙ rw (other, dark, small) refl in
    let saw : capital_from seen (drop len text) ≡ capital_from seen (drop (len + 1) text) = at_drop_more (capital_from seen) text len 0 within ∙ rw (other, dark, small) refl in (
      omega (arith, more, passed),
      rw (is, anew) (sym here ∙ name),
      sym saw ∙ capital,
    )
