-- Lists that are made of others.
use Rattle.std.proofs.Common.{◌≡◌, ℕ, ◌+◌, ◌<◌, List, [], ◌∷◌, ◌++◌, length, map, take, get_or, sym, ap, refl, ◌∙◌, append_assoc}
use Rattle.std.specs.List.{concat}
use Rattle.std.proofs.lemmas.List.{map-append, take_more, append-nil}

concat-one : (xss : List (List ℕ)) (xs : List ℕ) → concat (xss ++ xs ∷ []) ≡ concat xss ++ xs
concat-one [] xs = append-nil xs
concat-one (ys ∷ xss) xs = ap (λ l. ys ++ l) (concat-one xss xs) ∙ sym (append_assoc ys (concat xss) xs)

-- one more of a list
pub mapped_more : {X Y : Type 0} (f : X → Y) (xs : List X) (i : ℕ) (x : X) → i < length xs → x ≡ get_or xs i x → map f (take i xs) ++ f x ∷ [] ≡ map f (take (i + 1) xs)
mapped_more f xs i x inside is =
    ap (λ z. map f (take i xs) ++ f z ∷ []) is ∙ sym (map-append f (take i xs) (get_or xs i x ∷ [])) ∙ ap (map f) (sym (take_more xs i x inside))

pub joined_more : {X : Type 0} (f : X → List ℕ) (xs : List X) (i : ℕ) (x : X) (out : List ℕ) → i < length xs → x ≡ get_or xs i x → out ≡ concat (map f (take i xs)) → out ++ f x ≡ concat (map f (take (i + 1) xs))
joined_more f xs i x out inside is h =
    ap (λ l. l ++ f x) h ∙ sym (concat-one (map f (take i xs)) (f x)) ∙ ap concat (mapped_more f xs i x inside is)
