-- Domains: what stands between brackets, and that folding keeps a domain a domain.
use Rattle.std.proofs.Common.{◌≡◌, ℕ, suc, ◌+◌, ◌-◌, ◌≤◌, Bool, true, false, ◌==◌, ◌⊎◌, List, [], ◌∷◌, ◌++◌, length, take, get_or, refl, sym, ◌∙◌, arith, subst}
use Rattle.std.specs.List.{list_all}
use Rattle.std.specs.Str.{bytes_eq}
use Rattle.std.proofs.lemmas.Slice.Eq.{bytes_eq-Decides}
use Rattle.std.proofs.lemmas.List.{take_more, take_all, get_or_at, length-append}
use Rattle.std.proofs.lemmas.Bool.{false_from_ne_true, or_left, or_cases, and_parts}
use Rattle.relay_text.specs.Addresses.{inside, is_run_of, is_domain, is_domain_name, is_literal, is_literal_content}

pub is_run_of_some : (test : ℕ → Bool) (xs : List ℕ) → (length xs == 0) ≡ false → is_run_of test xs ≡ list_all test xs
is_run_of_some test [] h = cc
is_run_of_some test (x ∷ xs) h = refl

-- a nonempty list is its front and its last element
pub front_and_last : (xs : List ℕ) (n : ℕ) → length xs ≡ suc n → xs ≡ take n xs ++ get_or xs n 0 ∷ []
front_and_last xs n h =
    let whole : xs ≡ take (n + 1) xs = sym (take_all (n + 1) xs (omega arith)) in
    whole ∙ take_more xs n 0 (omega arith)

-- a text that begins with one byte and ends with another
pub is_inside : (text : List ℕ) (first last : ℕ) → 2 ≤ length text → get_or text 0 0 ≡ first → get_or text (length text - 1) 0 ≡ last → text ≡ first ∷ [] ++ inside text ++ last ∷ []
is_inside [] first last h f l = absurd (omega arith)
is_inside (x ∷ []) first last h f l = absurd (omega arith)
is_inside (x ∷ y ∷ ys) first last h f l =
    let inner : suc (suc (length ys)) - 1 - 1 ≡ length ys = omega arith in
    let place : suc (suc (length ys)) - 1 ≡ suc (length ys) = omega arith in
    let P : ℕ → Type 0 = λ k. get_or (x ∷ y ∷ ys) k 0 ≡ last in
    let ends : get_or (y ∷ ys) (length ys) 0 ≡ last = subst P place l in
    let parts : y ∷ ys ≡ take (length ys) (y ∷ ys) ++ get_or (y ∷ ys) (length ys) 0 ∷ [] = front_and_last (y ∷ ys) (length ys) refl in
    rw inner (cc)

pub bytes_eq-inside : (text : List ℕ) (first last : ℕ) → 2 ≤ length text → get_or text 0 0 ≡ first → get_or text (length text - 1) 0 ≡ last → bytes_eq text (first ∷ [] ++ inside text ++ last ∷ []) ≡ true
bytes_eq-inside text first last h f l = (bytes_eq-Decides _ _).1 (is_inside text first last h f l)

-- what a text between two bytes begins and ends with
pub ends_from : (text middle : List ℕ) (first last : ℕ) → text ≡ first ∷ [] ++ middle ++ last ∷ [] → (2 ≤ length text) × (get_or text 0 0 ≡ first) × (get_or text (length text - 1) 0 ≡ last)
ends_from text middle first last e =
    let P : List ℕ → Type 0 = λ t. (2 ≤ length t) × (get_or t 0 0 ≡ first) × (get_or t (length t - 1) 0 ≡ last) in
    let place : suc (length middle) ≡ suc (length (middle ++ last ∷ [])) - 1 = omega (arith, length-append middle (last ∷ [])) in
    let Q : ℕ → Type 0 = λ k. get_or (first ∷ (middle ++ last ∷ [])) k 0 ≡ last in
    subst P (sym e) (omega (arith, length-append middle (last ∷ [])), refl, subst Q place (get_or_at middle last [] 0 (length middle) refl))

pub bytes_eq-not_inside : (text : List ℕ) (first last : ℕ) → ((2 ≤ length text) × (get_or text 0 0 ≡ first) × (get_or text (length text - 1) 0 ≡ last) → ⊥) → bytes_eq text (first ∷ [] ++ inside text ++ last ∷ []) ≡ false
bytes_eq-not_inside text first last h = false_from_ne_true _ (λ e. h (ends_from text (inside text) first last ((bytes_eq-Decides _ _).0 e)))

-- a domain from its parts
pub is_domain-from_name : (text : List ℕ) → is_domain_name text ≡ true → is_domain text ≡ true
unfolding is_domain
is_domain-from_name text h = or_left (is_domain_name text) (is_literal text) h

pub is_domain-cases : (text : List ℕ) → is_domain text ≡ true → (is_domain_name text ≡ true) ⊎ (is_literal text ≡ true)
unfolding is_domain
is_domain-cases text h = or_cases (is_domain_name text) (is_literal text) h

-- an address literal is its content in brackets
pub is_literal-content : (text : List ℕ) → is_literal text ≡ true → (text ≡ 91 ∷ [] ++ inside text ++ 93 ∷ []) × (is_literal_content (inside text) ≡ true)
is_literal-content text h =
    let parts = and_parts (bytes_eq text (91 ∷ [] ++ inside text ++ 93 ∷ [])) (is_literal_content (inside text)) h in
    ((bytes_eq-Decides _ _).0 parts.0, parts.1)
