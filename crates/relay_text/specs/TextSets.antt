-- Texts, and the order of their bytes.
use Rattle.std.specs.Prelude.{◌≡◌, ℕ, List, map, AllPairs, Vec}
use Rattle.std.specs.declared.cmp.Ordering.{Ordering}
use Rattle.std.specs.declared.cmp.Ordering.TheVariants.{Less}
use Rattle.std.specs.Ordering.{nat_cmp}
use Rattle.std.specs.Cmp.Lexicographic.{slice_cmp}

-- the bytes of each text
abbrev pub texts_of : {Z : Type 0} → List (Vec ℕ Z) → List (List ℕ)
texts_of {Z} texts = map (λ (text : Vec ℕ Z). text.items) texts

-- texts by their bytes
abbrev pub text_cmp : List ℕ → List ℕ → Ordering
text_cmp = slice_cmp nat_cmp

-- strictly ascending by a comparison
abbrev pub IsAscendingBy : {X : Type 0} → (X → X → Ordering) → List X → Type 0
IsAscendingBy cmp xs = AllPairs (λ x y. cmp x y ≡ Less) xs
