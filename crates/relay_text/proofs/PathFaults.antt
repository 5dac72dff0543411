-- Paths: what stands between the angle brackets decides.
use Rattle.std.proofs.Common.{◌≡◌, ℕ, Bool, true, false, ◌==◌, List, [], ◌∷◌, ◌++◌, length, refl, ap, ◌∙◌, Some, None, Ok, Err, Option, Result}
use Rattle.std.specs.Bool.{if◌then◌else◌}
use Rattle.std.specs.Str.{bytes_eq}
use Rattle.relay_text.specs.AddressParts.{AddressParts}
use Rattle.relay_text.specs.Addresses.{is_empty, inside, path_inside, path_of, address_of, result_map, Fails}
use Rattle.relay_text.specs.declared.fault.TextFault.{TextFault}
use Rattle.relay_text.specs.declared.fault.TextFault.TheVariants.{Empty, BadByte, BadQuote, BadDomain, TooLong, Memory}
use Rattle.relay_text.proofs.Spellings.{is_empty_is}

-- what stands in angle brackets, where a text does
abbrev pub in_angles : List ℕ → Option (List ℕ)
in_angles text = if bytes_eq text (60 ∷ [] ++ inside text ++ 62 ∷ []) then Some (inside text) else None

none_false : (t : Bool) (xs : List ℕ) → None ≡ (if t then Some xs else None) → t ≡ false
none_false true xs h = cc
none_false false xs h = refl

some_true : (t : Bool) (xs ys : List ℕ) → Some ys ≡ (if t then Some xs else None) → (t ≡ true) × (ys ≡ xs)
some_true true xs ys h = (refl, cc)
some_true false xs ys h = cc

pub path-empty : (origin text : List ℕ) → (length text == 0) ≡ true → path_of origin text ≡ Err Empty
unfolding path_of
path-empty origin text h =
    let e : is_empty text ≡ true = is_empty_is text ∙ h in
    rw e refl

pub path-no_angles : (origin text : List ℕ) → (length text == 0) ≡ false → None ≡ in_angles text → path_of origin text ≡ Err BadByte
unfolding path_of
path-no_angles origin text h n =
    let e : is_empty text ≡ false = is_empty_is text ∙ h in
    let angles : bytes_eq text (60 ∷ [] ++ inside text ++ 62 ∷ []) ≡ false = none_false _ (inside text) n in
    rw (e, angles) refl

path-angles : (origin text found : List ℕ) → (length text == 0) ≡ false → Some found ≡ in_angles text → path_of origin text ≡ path_inside origin found
unfolding path_of
path-angles origin text found h s =
    let e : is_empty text ≡ false = is_empty_is text ∙ h in
    let both = some_true (bytes_eq text (60 ∷ [] ++ inside text ++ 62 ∷ [])) (inside text) found s in
    rw (e, both.0, both.1) refl

inside-nothing : (origin found : List ℕ) → is_empty found ≡ true → path_inside origin found ≡ Ok None
inside-nothing origin [] h = refl
inside-nothing origin (b ∷ bs) h = cc

inside-something : (origin found : List ℕ) → is_empty found ≡ false → path_inside origin found ≡ result_map (λ a. Some a) (address_of origin found)
inside-something origin [] h = cc
inside-something origin (b ∷ bs) h = refl

pub path-null : (origin text found : List ℕ) → (length text == 0) ≡ false → Some found ≡ in_angles text → (length found == 0) ≡ true → path_of origin text ≡ Ok None
path-null origin text found h s n = path-angles origin text found h s ∙ inside-nothing origin found (is_empty_is found ∙ n)

pub path-address : (origin text found : List ℕ) → (length text == 0) ≡ false → Some found ≡ in_angles text → (length found == 0) ≡ false → path_of origin text ≡ result_map (λ a. Some a) (address_of origin found)
path-address origin text found h s n = path-angles origin text found h s ∙ inside-something origin found (is_empty_is found ∙ n)

-- a path has the fault of the address text in it
pub fails_in_path : (fault : TextFault) (given : Result AddressParts TextFault) (path : Result (Option AddressParts) TextFault) → path ≡ result_map (λ a. Some a) given → Fails fault given → Fails fault path
fails_in_path Empty given path h f = h ∙ ap (result_map (λ a. Some a)) f
fails_in_path BadByte given path h f = h ∙ ap (result_map (λ a. Some a)) f
fails_in_path BadQuote given path h f = h ∙ ap (result_map (λ a. Some a)) f
fails_in_path BadDomain given path h f = h ∙ ap (result_map (λ a. Some a)) f
fails_in_path TooLong given path h f = h ∙ ap (result_map (λ a. Some a)) f
fails_in_path Memory given path h f = tt
