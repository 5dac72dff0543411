-- Which local parts no delimiter splits.
use Rattle.std.proofs.Common.{◌≡◌, ℕ, ◌-◌, Bool, List, length, drop, Some, None, refl, inl, inr, sym, ap, ◌∙◌}
use Rattle.std.specs.Bool.{IsTrue}
use Rattle.std.specs.List.{slice_range}
use Rattle.std.specs.Char.{to_ascii_lowercase}
use Rattle.std.proofs.lemmas.Bool.{cases_Bool}
use Rattle.std.proofs.lemmas.Bool.Decides.{same_from_decides}
use Rattle.std.proofs.lemmas.List.{drop-map, length-map, take_rest}
use Rattle.std.proofs.lemmas.Slice.Eq.{bytes_eq-Decides}
use Rattle.std.specs.Str.{bytes_eq}
use Rattle.relay_text.specs.Bytes.{folded, ends_with}
use Rattle.relay_text.specs.Addresses.{is_unsplit, leftmost_inside, split_place_of}

-- the end of a text, folded before or after it's cut off
pub folded_end : (n : ℕ) (text : List ℕ) → folded (drop (length text - n) text) ≡ drop (length (folded text) - n) (folded text)
folded_end n text = sym (drop-map to_ascii_lowercase (length text - n) text)
    ∙ ap (λ m. drop (m - n) (folded text)) (sym (length-map text to_ascii_lowercase))

pub end_is : (word text : List ℕ) (r : Bool)
    → (IsTrue r → folded (slice_range text (length text - length word) (length text)) ≡ word)
    → (folded (slice_range text (length text - length word) (length text)) ≡ word → IsTrue r)
    → r ≡ ends_with word (folded text)
end_is word text r gives shows =
    same_from_decides r (bytes_eq (folded (slice_range text (length text - length word) (length text))) word) (gives, shows) (bytes_eq-Decides (folded (slice_range text (length text - length word) (length text))) word)
    ∙ ap (λ (end : List ℕ). bytes_eq (folded end) word) (take_rest text (length text - length word))
    ∙ ap (λ (end : List ℕ). bytes_eq end word) (folded_end (length word) text)

pub unsplit_none : (delimiter : ℕ) (local : List ℕ) → leftmost_inside delimiter local ≡ None → split_place_of local (Some delimiter) ≡ None
unfolding split_place_of
unsplit_none delimiter local none = elim (cases_Bool (is_unsplit delimiter local)) [ inl e ↦ rw e refl | inr e ↦ rw e none ]
