-- What writing a local part reckons: whether it's a Dot-string, and how long it is between quotes.
use Rattle.std.proofs.Common.{◌≡◌, ℕ, suc, ◌+◌, ◌<◌, ◌≤◌, Bool, true, false, not, ◌&&◌, cond, ltb, List, [], ◌∷◌, ◌++◌, length, flat_map, take, drop, get_or, filter, Option, Some, None, refl, ap, ◌∙◌, inl, inr, arith}
use Rattle.std.specs.Bool.{IsTrue}
use Rattle.std.specs.List.{list_all, slice_split, onto_first, count_by}
use Rattle.std.specs.Option.{SomeIff, IfSome, IfNone, IsSome}
use Rattle.std.proofs.lemmas.Bool.{cases_Bool, or_parts, ltb-false}
use Rattle.std.proofs.lemmas.List.Sums.{length-filter, count_by-le-length}
use Rattle.std.proofs.lemmas.List.{append-nil, length-append, drop_more, take_more}
use Rattle.std.proofs.lemmas.Grind.{flat_map-append}
use Rattle.relay_text.specs.Addresses.{quoted_byte, is_atext, is_dot, is_run_of, is_dot_string, is_address, local_text_of, path_text_of}
use Rattle.relay_text.specs.AddressParts.{AddressParts}
use Rattle.relay_text.proofs.Paths.{is_special, GoodParts, good_parts}

-- Whether the rest of a text goes on as runs joined by single dots, where a run has just begun or not.
abbrev pub runs_on : (ℕ → Bool) → (ℕ → Bool) → Bool → List ℕ → Bool
runs_on p d fresh [] = not fresh
runs_on p d fresh (b ∷ bs) = cond (d b) (not fresh && runs_on p d true bs) (p b && runs_on p d false bs)

-- the same of the parts that follow, of which the first goes on with the run
abbrev pub goes_on : (ℕ → Bool) → List (List ℕ) → Bool
goes_on p [] = true
goes_on p (run ∷ runs) = list_all p run && list_all (is_run_of p) runs

pub and_assoc : (x y z : Bool) → ((x && y) && z) ≡ (x && (y && z))
and_assoc x y z = elim x as (λ v. ((v && y) && z) ≡ (v && (y && z))) [ true ↦ refl | false ↦ refl ]

onto_run : (p : ℕ → Bool) (b : ℕ) (runs : List (List ℕ)) → list_all (is_run_of p) (onto_first b runs) ≡ (p b && goes_on p runs)
onto_run p b [] = and_assoc (p b) true true
onto_run p b (run ∷ runs) = and_assoc (p b) (list_all p run) (list_all (is_run_of p) runs)

onto_more : (p : ℕ → Bool) (b : ℕ) (runs : List (List ℕ)) → goes_on p (onto_first b runs) ≡ (p b && goes_on p runs)
onto_more p b [] = and_assoc (p b) true true
onto_more p b (run ∷ runs) = and_assoc (p b) (list_all p run) (list_all (is_run_of p) runs)

mutual
  pub runs_from : (p d : ℕ → Bool) (text : List ℕ) → list_all (is_run_of p) (slice_split d text) ≡ runs_on p d true text
  runs_from p d [] = refl
  runs_from p d (b ∷ bs) = elim (cases_Bool (d b)) [
    | inl e ↦ rw e refl
    | inr e ↦ rw e (onto_run p b (slice_split d bs) ∙ ap (λ rest. p b && rest) (more_from p d bs))
  ]

  pub more_from : (p d : ℕ → Bool) (text : List ℕ) → goes_on p (slice_split d text) ≡ runs_on p d false text
  more_from p d [] = refl
  more_from p d (b ∷ bs) = elim (cases_Bool (d b)) [
    | inl e ↦ rw e (runs_from p d bs)
    | inr e ↦ rw e (onto_more p b (slice_split d bs) ∙ ap (λ rest. p b && rest) (more_from p d bs))
  ]

pub dot_string_from : (text : List ℕ) → is_dot_string text ≡ runs_on is_atext is_dot true text
dot_string_from text = runs_from is_atext is_dot text

quoted_byte_length : (b : ℕ) → length (quoted_byte b) ≡ 1 + length (filter is_special (b ∷ []))
quoted_byte_length b = elim (cases_Bool (is_special b)) [ inl e ↦ rw e refl | inr e ↦ rw e refl ]

filter_length : (b : ℕ) (bs : List ℕ) → length (filter is_special (b ∷ bs)) ≡ length (filter is_special (b ∷ [])) + length (filter is_special bs)
filter_length b bs = elim (cases_Bool (is_special b)) [ inl e ↦ rw e (omega arith) | inr e ↦ rw e (omega arith) ]

pub quoted_length : (l : List ℕ) → length (flat_map quoted_byte l) ≡ length l + length (filter is_special l)
quoted_length [] = refl
quoted_length (b ∷ bs) =
    let rest : length (flat_map quoted_byte bs) ≡ length bs + length (filter is_special bs) = quoted_length bs in
    let joined : length (quoted_byte b ++ flat_map quoted_byte bs) ≡ length (quoted_byte b) + length (flat_map quoted_byte bs) = length-append (quoted_byte b) (flat_map quoted_byte bs) in
    let here : length (quoted_byte b) ≡ 1 + length (filter is_special (b ∷ [])) = quoted_byte_length b in
    let all : length (filter is_special (b ∷ bs)) ≡ length (filter is_special (b ∷ [])) + length (filter is_special bs) = filter_length b bs in
    joined ∙ sums (length (quoted_byte b)) (length (flat_map quoted_byte bs)) (length bs) (length (filter is_special (b ∷ []))) (length (filter is_special bs)) (length (filter is_special (b ∷ bs))) here rest all
  where
    sums : (q f n s t u : ℕ) → q ≡ 1 + s → f ≡ n + t → u ≡ s + t → q + f ≡ suc n + u
    sums q f n s t u a b c = omega arith

pub quoted_count : (l : List ℕ) → length (flat_map quoted_byte l) ≡ length l + count_by is_special l
quoted_count l = quoted_length l ∙ ap (λ n. length l + n) (length-filter is_special l)

-- what is left to write is the byte at a place and what stands behind it
pub quoted_from : (l : List ℕ) (i : ℕ) → i < length l → length (flat_map quoted_byte (drop i l)) ≡ length (quoted_byte (get_or l i 0)) + length (flat_map quoted_byte (drop (i + 1) l))
quoted_from l i within = ap (λ (rest : List ℕ). length (flat_map quoted_byte rest)) (drop_more l i 0 within) ∙ length-append (quoted_byte (get_or l i 0)) (flat_map quoted_byte (drop (i + 1) l))

-- what is written up to behind a place ends with the byte there
pub quoted_up_to : (l : List ℕ) (i : ℕ) → i < length l → flat_map quoted_byte (take (i + 1) l) ≡ flat_map quoted_byte (take i l) ++ quoted_byte (get_or l i 0)
quoted_up_to l i within =
    ap (λ (front : List ℕ). flat_map quoted_byte front) (take_more l i 0 within)
    ∙ flat_map-append quoted_byte (take i l) (get_or l i 0 ∷ [])
    ∙ ap (λ (bytes : List ℕ). flat_map quoted_byte (take i l) ++ bytes) (append-nil (quoted_byte (get_or l i 0)))

pub some_is : (r : Option ℕ) (P : Type 0) (v w : ℕ) → SomeIff r P v → v ≡ w → IfSome r (λ x. x ≡ w)
some_is None P v w h e = tt
some_is (Some x) P v w h e = h.1 ∙ e

pub quoted_bound : (l : List ℕ) → length (flat_map quoted_byte l) ≤ length l + length l
quoted_bound l = omega (arith, quoted_count l, count_by-le-length is_special l)

pub none_is : (r : Option ℕ) (v n : ℕ) (P : Type 0) → SomeIff r (v < n) v → (n ≤ v → P) → IfNone r P
none_is None v n P h gives = gives (omega arith)
none_is (Some x) v n P h gives = tt

pub some_since : (r : Option ℕ) (P : Type 0) → IfNone r P → (P → ⊥) → IsSome r
some_since None P h never = absurd (never h)
some_since (Some x) P h never = refl

pub plain_text : (l : List ℕ) → is_dot_string l ≡ true → local_text_of l ≡ l
unfolding local_text_of
plain_text l e = rw e refl

pub quoted_text : (l : List ℕ) → is_dot_string l ≡ false → local_text_of l ≡ (34 ∷ flat_map quoted_byte l ++ 34 ∷ [])
unfolding local_text_of
quoted_text l e = rw e refl

pub plain_text_length : (l : List ℕ) → is_dot_string l ≡ true → length (local_text_of l) ≡ length l
plain_text_length l e = ap length (plain_text l e)

pub quoted_text_length : (l : List ℕ) → is_dot_string l ≡ false → length (local_text_of l) ≡ length (flat_map quoted_byte l) + 2
quoted_text_length l e = ap length (quoted_text l e) ∙ omega (arith, length-append (flat_map quoted_byte l) (34 ∷ []))

-- a local part is written with no byte less
pub local_text_longer : (l : List ℕ) → length l ≤ length (local_text_of l)
local_text_longer l = elim (cases_Bool (is_dot_string l)) [
  | inl e ↦ omega (arith, plain_text_length l e)
  | inr e ↦ omega (arith, quoted_text_length l e, quoted_length l)
]

pub path_text_length : (a : AddressParts) → length (path_text_of (Some a)) ≡ length (local_text_of a.local) + length a.domain + 3
path_text_length a = omega (
  arith,
  length-append (local_text_of a.local) (64 ∷ []),
  length-append (local_text_of a.local ++ 64 ∷ []) a.domain,
  length-append (local_text_of a.local ++ 64 ∷ [] ++ a.domain) (62 ∷ []),
)

-- the limits of an address
pub record Limits (a : AddressParts) : Type 0 where
  pub local : length a.local ≤ 64
  pub local_text : length (local_text_of a.local) ≤ 64
  pub domain : length a.domain ≤ 255
  pub path : length (path_text_of (Some a)) ≤ 256
  pub path_is : length (path_text_of (Some a)) ≡ length (local_text_of a.local) + length a.domain + 3

pub limits : (a : AddressParts) → IsTrue (is_address a) → Limits a
limits a good =
    let parts : GoodParts a = good_parts a good in
    let text : length (local_text_of a.local) ≤ 64 = ltb-false 64 (length (local_text_of a.local)) parts.local_fits in
    let fits : ((ltb 255 (length a.domain)) ≡ false) × ((ltb 256 (length (path_text_of (Some a)))) ≡ false) = or_parts (ltb 255 (length a.domain)) (ltb 256 (length (path_text_of (Some a)))) parts.domain_fits in
    record {
      local = omega (arith, local_text_longer a.local);
      local_text = text;
      domain = ltb-false 255 (length a.domain) fits.0;
      path = ltb-false 256 (length (path_text_of (Some a))) fits.1;
      path_is = path_text_length a;
    }
