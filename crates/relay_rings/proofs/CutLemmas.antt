-- One turn of a walk, and one more transaction of a ring.
use Rattle.std.proofs.Common.{◌≡◌, ℕ, ◌+◌, ◌<◌, ◌≤◌, min, Option, Some, None, List, [], ◌∷◌, ◌++◌, length, get_or, map, take, drop, refl, sym, ap, ◌∙◌, arith, MatchOption, IsSome}
use Rattle.std.proofs.lemmas.List.{append-nil, append_assoc, drop_more, take_more, drop_min, take_min, length-drop, nil_from_length}
use Rattle.relay_rings.specs.Batches.{transactions_of}
use Rattle.relay_rings.specs.declared.batching.Transaction.{Transaction}
use Rattle.relay_rings.proofs.Parts.{parts_of-nil, parts_of-more}

-- what a call of `next` says of the items that were left and those that are
abbrev pub IsTurn : List ℕ → Option ℕ → List ℕ → Type 0
IsTurn rest r later = MatchOption r ((rest ≡ []) × (later ≡ [])) (λ x. rest ≡ x ∷ later)

pub turn_some : (rest : List ℕ) (r : Option ℕ) (later whole : List ℕ) (i n : ℕ) → IsTurn rest r later → rest ≡ drop i whole → i < n → n ≤ length whole → IsSome r
turn_some rest None later whole i n t e l b = absurd (omega (arith, ap length t.0, ap length e, length-drop i whole))
turn_some rest (Some x) later whole i n t e l b = refl

pub turn_takes : (rest : List ℕ) (r : Option ℕ) (later whole : List ℕ) (i x : ℕ) → IsTurn rest r later → r ≡ Some x → rest ≡ drop i whole → (take (i + 1) whole ≡ take i whole ++ x ∷ []) × (later ≡ drop (i + 1) whole)
turn_takes rest None later whole i x t is e = cc
turn_takes rest (Some y) later whole i x t is e =
    let same : y ≡ x = cc in
    let cut : drop i whole ≡ y ∷ later = sym e ∙ t in
    let b : i < length whole = omega (arith, ap length cut, length-drop i whole) in
    let split = drop_more whole i 0 b in
    let first : get_or whole i 0 ≡ x = cc in
    (take_more whole i 0 b ∙ ap (λ z. take i whole ++ z ∷ []) first, cc)

-- ---- transactions of a key
abbrev of_key : ℕ → List ℕ → Transaction
of_key key part = record { key = key; items = part }

pub transactions_of-nil : (key limit : ℕ) → 0 < limit → transactions_of key limit [] ≡ []
transactions_of-nil key limit pos = ap (map (of_key key)) (parts_of-nil limit pos)

pub transactions_of-more : (key limit : ℕ) (rest : List ℕ) → 0 < limit → 0 < length rest → transactions_of key limit rest ≡ of_key key (take limit rest) ∷ transactions_of key limit (drop limit rest)
transactions_of-more key limit rest pos some = ap (map (of_key key)) (parts_of-more limit rest pos some)

pub cut_more : (key limit : ℕ) (rest items later : List ℕ) (made more : List Transaction) (left count : ℕ) → 0 < limit → left ≡ length rest → 0 < left → count ≡ min left limit → items ≡ take count rest → later ≡ drop count rest → more ≡ made ++ of_key key items ∷ [] → more ++ transactions_of key limit later ≡ made ++ transactions_of key limit rest
cut_more key limit rest items later made more left count pos long some count_is items_is later_is more_is =
    let least : count ≡ min limit (length rest) = omega arith in
    let front : items ≡ take limit rest = items_is ∙ ap (λ n. take n rest) least ∙ take_min limit rest in
    let behind : later ≡ drop limit rest = later_is ∙ ap (λ n. drop n rest) least ∙ drop_min limit rest in
    ap (λ ts. ts ++ transactions_of key limit later) more_is
    ∙ append_assoc made (of_key key items ∷ []) (transactions_of key limit later)
    ∙ ap (λ xs. made ++ (of_key key xs ∷ transactions_of key limit later)) front
    ∙ ap (λ xs. made ++ (of_key key (take limit rest) ∷ transactions_of key limit xs)) behind
    ∙ sym (ap (λ ts. made ++ ts) (transactions_of-more key limit rest pos (omega arith)))

pub cut_end : (key limit : ℕ) (rest : List ℕ) (made : List Transaction) (left : ℕ) → 0 < limit → left ≡ length rest → left ≤ 0 → made ≡ made ++ transactions_of key limit rest
cut_end key limit rest made left pos long none =
    let nothing : rest ≡ [] = nil_from_length rest (omega arith) in
    sym (ap (λ xs. made ++ transactions_of key limit xs) nothing ∙ ap (λ ts. made ++ ts) (transactions_of-nil key limit pos) ∙ append-nil made)
