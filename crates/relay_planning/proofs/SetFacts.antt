-- What a list of texts has.
use Rattle.std.proofs.Common.{◌≡◌, ℕ, true, List, [], ◌∷◌, sym, inl, inr}
use Rattle.std.specs.Prelude.{IsTrue, Contains}
use Rattle.std.specs.Str.{bytes_eq}
use Rattle.std.proofs.lemmas.Bool.{or_cases, or_left, or_right, true≢false}
use Rattle.std.proofs.lemmas.Slice.Eq.{bytes_eq-Decides}
use Rattle.relay_text.specs.Bytes.{has_text}
use Rattle.relay_planning.proofs.Members.{In, in_from, contains_in}

has_in : (texts : List (List ℕ)) (q : List ℕ) → has_text texts q ≡ true → In texts q
has_in [] q h = absurd (true≢false (sym h))
has_in (t ∷ ts) q h =
    elim (or_cases (bytes_eq q t) (has_text ts q) h) [
      | inl here ↦ inl (sym ((bytes_eq-Decides q t).0 here))
      | inr later ↦ inr (has_in ts q later)
    ]

in_has : (texts : List (List ℕ)) (q : List ℕ) → In texts q → has_text texts q ≡ true
in_has [] q h = elim h [ ]
in_has (t ∷ ts) q h =
    elim h [
      | inl here ↦ or_left (bytes_eq q t) (has_text ts q) ((bytes_eq-Decides q t).1 (sym here))
      | inr later ↦ or_right (bytes_eq q t) (has_text ts q) (in_has ts q later)
    ]

pub Contains-has_text : (texts : List (List ℕ)) (q : List ℕ) → IsTrue (has_text texts q) → Contains texts q
Contains-has_text texts q h = contains_in texts q (has_in texts q h)

pub has_text-Contains : (texts : List (List ℕ)) (q : List ℕ) → Contains texts q → IsTrue (has_text texts q)
has_text-Contains texts q c = in_has texts q (in_from texts q c)
