-- Lists of texts, each beside the one that is wanted.
use Rattle.std.proofs.Common.{◌≡◌, ℕ, Bool, ◌&&◌, List, [], ◌∷◌, length, map, refl, ap, Bor, arith}
use Rattle.std.specs.List.{list_all, zip}
use Rattle.std.specs.Str.{bytes_eq}
use Rattle.std.specs.Cmp.Lexicographic.{pointwise}

pub list_all-zip_texts : (xs : List (List ℕ)) (ys : List (Bor (List ℕ))) → length xs ≡ length ys → list_all (λ p. bytes_eq p.0 p.1.now) (zip xs ys) ≡ pointwise bytes_eq xs (map (λ y. y.now) ys)
list_all-zip_texts [] [] h = refl
list_all-zip_texts [] (y ∷ ys) h = absurd (omega arith)
list_all-zip_texts (x ∷ xs) [] h = absurd (omega arith)
list_all-zip_texts (x ∷ xs) (y ∷ ys) h = let later : length xs ≡ length ys = omega arith in ap (λ (r : Bool). bytes_eq x y.now && r) (list_all-zip_texts xs ys later)
