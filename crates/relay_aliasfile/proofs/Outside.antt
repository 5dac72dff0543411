-- What stands outside quotes, read in one pass.
use Rattle.std.proofs.Common.{◌≡◌, ℕ, suc, ◌+◌, ◌<◌, ◌≤◌, ◌≢◌, ◌%◌, Bool, true, false, not, cond, ◌&&◌, ◌==◌, List, [], ◌∷◌, length, take, drop, get_or, map, filter, refl, sym, ap, ◌∙◌, subst, arith, add-one, eq-eqb, Some, None, Option}
use Rattle.std.specs.Prelude.{option_map, slice_get}
use Rattle.std.specs.List.{count_by, enumerate_from, slice_split, onto_first, last_or}
use Rattle.std.proofs.lemmas.List.{at_drop_more, at_drop_all}
use Rattle.std.proofs.lemmas.List.Sums.{sum_by-cons}
use Rattle.std.proofs.lemmas.Bool.Decides.{nat_tests}
use Rattle.std.proofs.lemmas.Bool.{eqb-true, ne_eqb, false≢true}
use Rattle.relay_text.specs.Quotes.{marks_from, is_quote, quote_count, is_outside, places_outside, pieces_outside}
use Rattle.relay_aliasfile.specs.QuoteStates.{at_start, past}
use Rattle.relay_aliasfile.specs.declared.quotes.QuoteState.{QuoteState}

-- where a reader stands past a text
abbrev pub state_after : QuoteState → List ℕ → QuoteState
state_after s [] = s
state_after s (b ∷ bs) = state_after (past s b) bs

odd_next : (n : ℕ) → not (n % 2 == 0) ≡ ((n + 1) % 2 == 0)
odd_next n = grind (arith, nat_tests)

parity_step : (t outside : Bool) (n : ℕ) → outside ≡ (n % 2 == 0) → cond t (not outside) outside ≡ ((n + cond t 1 0) % 2 == 0)
parity_step true outside n h = ap (λ b. not b) h ∙ odd_next n
parity_step false outside n h = h ∙ ap (λ m. m % 2 == 0) (omega arith)

-- a reader stands outside exactly where the unescaped quotes before it are even
pub parity : (s : QuoteState) (n : ℕ) (xs : List ℕ) → s.outside ≡ (n % 2 == 0) → (state_after s xs).outside ≡ ((n + count_by is_quote (marks_from s.escaped xs)) % 2 == 0)
parity s n [] h = h ∙ ap (λ m. m % 2 == 0) (omega arith)
parity s n (b ∷ bs) h =
    let count : count_by is_quote (marks_from s.escaped (b ∷ bs)) ≡ cond ((b == 34) && not s.escaped) 1 0 + count_by is_quote (marks_from (past s b).escaped bs) = sum_by-cons (λ m. cond (is_quote m) 1 0) (record { byte = b; escaped = s.escaped }) (marks_from (past s b).escaped bs) in
    parity (past s b) (n + cond ((b == 34) && not s.escaped) 1 0) bs (parity_step ((b == 34) && not s.escaped) s.outside n h)
    ∙ ap (λ m. m % 2 == 0) (omega (arith, count))

pub outside_is : (text : List ℕ) (k : ℕ) → is_outside text k ≡ (state_after at_start (take k text)).outside
outside_is text k = sym (parity at_start 0 (take k text) refl ∙ ap (λ m. m % 2 == 0) (omega arith))

-- the places of a byte outside quotes in what is left of a text, numbered from i
abbrev pub places_from : ℕ → QuoteState → ℕ → List ℕ → List ℕ
places_from byte s i [] = []
places_from byte s i (b ∷ bs) = cond ((b == byte) && s.outside) (i ∷ places_from byte (past s b) (i + 1) bs) (places_from byte (past s b) (i + 1) bs)

-- and the pieces between them
abbrev pub pieces_from : ℕ → QuoteState → List ℕ → List (List ℕ)
pieces_from byte s [] = [] ∷ []
pieces_from byte s (b ∷ bs) = cond ((b == byte) && s.outside) ([] ∷ pieces_from byte (past s b) bs) (onto_first b (pieces_from byte (past s b) bs))

-- that a test of places tells where what is left of a text stands outside quotes
abbrev TellsOutside : (ℕ → Bool) → ℕ → QuoteState → List ℕ → Type 0
TellsOutside test n s rest = (k : ℕ) → test (n + k) ≡ (state_after s (take k rest)).outside

abbrev is_cut : ℕ → (ℕ → Bool) → ℕ × ℕ → Bool
is_cut byte test p = (p.1 == byte) && test p.0

abbrev place_of : ℕ × ℕ → ℕ
place_of p = p.0

abbrev byte_of : ℕ × ℕ → ℕ
byte_of p = p.1

tells_next : (test : ℕ → Bool) (n : ℕ) (s : QuoteState) (b : ℕ) (bs : List ℕ) → TellsOutside test n s (b ∷ bs) → TellsOutside test (n + 1) (past s b) bs
tells_next test n s b bs h = λ k. ap test (omega arith) ∙ h (suc k)

tells_here : (test : ℕ → Bool) (n : ℕ) (s : QuoteState) (b : ℕ) (bs : List ℕ) → TellsOutside test n s (b ∷ bs) → test n ≡ s.outside
tells_here test n s b bs h = ap test (omega arith) ∙ h 0

place_step : (t : Bool) (n b : ℕ) (ps : List (ℕ × ℕ)) → map place_of (cond t ((n, b) ∷ ps) ps) ≡ cond t (n ∷ map place_of ps) (map place_of ps)
place_step true n b ps = refl
place_step false n b ps = refl

places_are : (byte : ℕ) (test : ℕ → Bool) (n : ℕ) (s : QuoteState) (rest : List ℕ) → TellsOutside test n s rest
    → map place_of (filter (is_cut byte test) (enumerate_from n rest)) ≡ places_from byte s n rest
places_are byte test n s [] h = refl
places_are byte test n s (b ∷ bs) h =
    place_step ((b == byte) && test n) n b (filter (is_cut byte test) (enumerate_from (n + 1) bs))
    ∙ ap (λ ps. cond ((b == byte) && test n) (n ∷ ps) ps) (places_are byte test (n + 1) (past s b) bs (tells_next test n s b bs h))
    ∙ ap (λ t. cond ((b == byte) && t) (n ∷ places_from byte (past s b) (n + 1) bs) (places_from byte (past s b) (n + 1) bs)) (tells_here test n s b bs h)

pub places_outside-from : (byte : ℕ) (text : List ℕ) → places_outside byte text ≡ places_from byte at_start 0 text
places_outside-from byte text = places_are byte (is_outside text) 0 at_start text (λ k. ap (is_outside text) (omega arith) ∙ outside_is text k)

onto_first-bytes : (p : ℕ × ℕ) (parts : List (List (ℕ × ℕ))) → map (map byte_of) (onto_first p parts) ≡ onto_first p.1 (map (map byte_of) parts)
onto_first-bytes p [] = refl
onto_first-bytes p (part ∷ parts) = refl

piece_step : (t : Bool) (p : ℕ × ℕ) (parts : List (List (ℕ × ℕ))) → map (map byte_of) (cond t ([] ∷ parts) (onto_first p parts)) ≡ cond t ([] ∷ map (map byte_of) parts) (onto_first p.1 (map (map byte_of) parts))
piece_step true p parts = refl
piece_step false p parts = onto_first-bytes p parts

pieces_are : (byte : ℕ) (test : ℕ → Bool) (n : ℕ) (s : QuoteState) (rest : List ℕ) → TellsOutside test n s rest
    → map (map byte_of) (slice_split (is_cut byte test) (enumerate_from n rest)) ≡ pieces_from byte s rest
pieces_are byte test n s [] h = refl
pieces_are byte test n s (b ∷ bs) h =
    piece_step ((b == byte) && test n) (n, b) (slice_split (is_cut byte test) (enumerate_from (n + 1) bs))
    ∙ ap (λ ps. cond ((b == byte) && test n) ([] ∷ ps) (onto_first b ps)) (pieces_are byte test (n + 1) (past s b) bs (tells_next test n s b bs h))
    ∙ ap (λ t. cond ((b == byte) && t) ([] ∷ pieces_from byte (past s b) bs) (onto_first b (pieces_from byte (past s b) bs))) (tells_here test n s b bs h)

pub pieces_outside-from : (byte : ℕ) (text : List ℕ) → pieces_outside byte text ≡ pieces_from byte at_start text
pieces_outside-from byte text = pieces_are byte (is_outside text) 0 at_start text (λ k. ap (is_outside text) (omega arith) ∙ outside_is text k)

-- the first such place, counted from where the reader stands
abbrev pub first_from : ℕ → QuoteState → List ℕ → Option ℕ
first_from byte s [] = None
first_from byte s (b ∷ bs) = cond ((b == byte) && s.outside) (Some 0) (option_map (λ n. 1 + n) (first_from byte (past s b) bs))

shift : (i : ℕ) (o : Option ℕ) → option_map (λ n. (i + 1) + n) o ≡ option_map (λ n. i + n) (option_map (λ n. 1 + n) o)
shift i None = refl
shift i (Some n) = ap (λ m. Some m) (omega arith)

first_step : (t : Bool) (i : ℕ) (o : Option ℕ) (ps : List ℕ) → slice_get ps 0 ≡ option_map (λ n. (i + 1) + n) o
    → slice_get (cond t (i ∷ ps) ps) 0 ≡ option_map (λ n. i + n) (cond t (Some 0) (option_map (λ n. 1 + n) o))
first_step true i o ps h = ap (λ m. Some m) (omega arith)
first_step false i o ps h = h ∙ shift i o

first_of_places : (byte : ℕ) (s : QuoteState) (i : ℕ) (xs : List ℕ) → slice_get (places_from byte s i xs) 0 ≡ option_map (λ n. i + n) (first_from byte s xs)
first_of_places byte s i [] = refl
first_of_places byte s i (b ∷ bs) = first_step ((b == byte) && s.outside) i (first_from byte (past s b) bs) (places_from byte (past s b) (i + 1) bs) (first_of_places byte (past s b) (i + 1) bs)

from_zero : (o : Option ℕ) → option_map (λ n. 0 + n) o ≡ o
from_zero None = refl
from_zero (Some n) = ap (λ m. Some m) (omega arith)

pub first_is : (byte : ℕ) (text : List ℕ) → slice_get (places_outside byte text) 0 ≡ first_from byte at_start text
first_is byte text = ap (λ ps. slice_get ps 0) (places_outside-from byte text) ∙ first_of_places byte at_start 0 text ∙ from_zero (first_from byte at_start text)

-- past a comma outside quotes a reader stands as at the start
past_comma : (s : QuoteState) → s.outside ≡ true → past s 44 ≡ at_start
past_comma s h = at s.escaped s.outside h where
  at : (escaped outside : Bool) → outside ≡ true → past (record { escaped = escaped; outside = outside }) 44 ≡ at_start
  at escaped false h = absurd (false≢true h)
  at true true h = refl
  at false true h = refl

and_both : (t u : Bool) → (t && u) ≡ true → (t ≡ true) × (u ≡ true)
and_both true u h = (refl, h)
and_both false u h = absurd (false≢true h)

start_again : (s : QuoteState) (b : ℕ) → ((b == 44) && s.outside) ≡ true → past s b ≡ at_start
start_again s b h =
    let both = and_both (b == 44) s.outside h in
    ap (past s) (eqb-true b 44 both.0) ∙ past_comma s both.1

some_inj : (m n : ℕ) → Some m ≡ Some n → m ≡ n
some_inj m n h = cc

-- where no place is left, what is left is one piece
none_step : (t : Bool) (b : ℕ) (bs : List ℕ) (o : Option ℕ) (parts : List (List ℕ)) → (o ≡ None → parts ≡ bs ∷ [])
    → cond t (Some 0) (option_map (λ n. 1 + n) o) ≡ None → cond t ([] ∷ parts) (onto_first b parts) ≡ (b ∷ bs) ∷ []
none_step true b bs o parts more h = cc
none_step false b bs None parts more h = ap (onto_first b) (more refl)
none_step false b bs (Some n) parts more h = cc

pieces-none : (s : QuoteState) (xs : List ℕ) → first_from 44 s xs ≡ None → pieces_from 44 s xs ≡ xs ∷ []
pieces-none s [] h = refl
pieces-none s (b ∷ bs) h = none_step ((b == 44) && s.outside) b bs (first_from 44 (past s b) bs) (pieces_from 44 (past s b) bs) (pieces-none (past s b) bs) h

-- the first piece ends at the first place, and the others begin past it
cut_step : (t : Bool) (b : ℕ) (bs : List ℕ) (o : Option ℕ) (parts again : List (List ℕ)) (n : ℕ) → (t ≡ true → parts ≡ again)
    → ((m : ℕ) → o ≡ Some m → parts ≡ take m bs ∷ pieces_from 44 at_start (drop (suc m) bs))
    → (again ≡ pieces_from 44 at_start bs)
    → cond t (Some 0) (option_map (λ n. 1 + n) o) ≡ Some n → cond t ([] ∷ parts) (onto_first b parts) ≡ take n (b ∷ bs) ∷ pieces_from 44 at_start (drop (suc n) (b ∷ bs))
cut_step true b bs o parts again n same more whole h =
    let zero : 0 ≡ n = cc in
    subst (λ (k : ℕ). [] ∷ parts ≡ take k (b ∷ bs) ∷ pieces_from 44 at_start (drop (suc k) (b ∷ bs))) zero (ap (λ ps. [] ∷ ps) (same refl ∙ whole))
cut_step false b bs None parts again n same more whole h = cc
cut_step false b bs (Some m) parts again n same more whole h =
    let next : suc m ≡ n = omega (arith, some_inj (1 + m) n h) in
    subst (λ (k : ℕ). onto_first b parts ≡ take k (b ∷ bs) ∷ pieces_from 44 at_start (drop (suc k) (b ∷ bs))) next (ap (onto_first b) (more m refl))

pieces-cut : (s : QuoteState) (xs : List ℕ) (n : ℕ) → first_from 44 s xs ≡ Some n → pieces_from 44 s xs ≡ take n xs ∷ pieces_from 44 at_start (drop (suc n) xs)
pieces-cut s [] n h = cc
pieces-cut s (b ∷ bs) n h =
    cut_step ((b == 44) && s.outside) b bs (first_from 44 (past s b) bs) (pieces_from 44 (past s b) bs) (pieces_from 44 at_start bs) n
    (λ e. ap (λ q. pieces_from 44 q bs) (start_again s b e)) (λ m e. pieces-cut (past s b) bs m e) refl h

-- the pieces of a list, by the place of its first comma outside quotes
pub pieces_outside-none : (text : List ℕ) → None ≡ slice_get (places_outside 44 text) 0 → pieces_outside 44 text ≡ text ∷ []
pieces_outside-none text h = pieces_outside-from 44 text ∙ pieces-none at_start text (sym (h ∙ first_is 44 text))

pub pieces_outside-cut : (text : List ℕ) (n : ℕ) → Some n ≡ slice_get (places_outside 44 text) 0 → pieces_outside 44 text ≡ take n text ∷ pieces_outside 44 (drop (n + 1) text)
pieces_outside-cut text n h =
    pieces_outside-from 44 text ∙ pieces-cut at_start text n (sym (h ∙ first_is 44 text))
    ∙ ap (λ ps. take n text ∷ ps) (sym (pieces_outside-from 44 (drop (n + 1) text) ∙ ap (λ k. pieces_from 44 at_start (drop k text)) (add-one n)))

-- what a loop over a text keeps
pub places_from-more : (byte : ℕ) (s : QuoteState) (i : ℕ) (text : List ℕ) (d : ℕ) → i < length text
    → places_from byte s i (drop i text) ≡ cond ((get_or text i d == byte) && s.outside) (i ∷ places_from byte (past s (get_or text i d)) (i + 1) (drop (i + 1) text)) (places_from byte (past s (get_or text i d)) (i + 1) (drop (i + 1) text))
places_from-more byte s i text d h = at_drop_more (λ xs. places_from byte s i xs) text i d h

pub closes-is : (text : List ℕ) → (state_after at_start text).outside ≡ (quote_count text % 2 == 0)
closes-is text = parity at_start 0 text refl ∙ ap (λ m. m % 2 == 0) (omega arith)

-- a byte that is wanted and stands outside, and one that isn't wanted or doesn't
abbrev places_past : ℕ → QuoteState → ℕ → List ℕ → List ℕ
places_past byte s i text = places_from byte (past s (get_or text i 0)) (i + 1) (drop (i + 1) text)

places_from-here : (byte : ℕ) (s : QuoteState) (i : ℕ) (text : List ℕ) → i < length text → get_or text i 0 ≡ byte → s.outside ≡ true → places_from byte s i (drop i text) ≡ i ∷ places_past byte s i text
places_from-here byte s i text within same outside =
    places_from-more byte s i text 0 within ∙ ap (λ t. cond (t && s.outside) (i ∷ places_past byte s i text) (places_past byte s i text)) (eq-eqb _ _ same) ∙ ap (λ t. cond t (i ∷ places_past byte s i text) (places_past byte s i text)) outside

pub places_from-other : (byte : ℕ) (s : QuoteState) (i : ℕ) (text : List ℕ) → i < length text → get_or text i 0 ≢ byte → places_from byte s i (drop i text) ≡ places_past byte s i text
places_from-other byte s i text within other =
    places_from-more byte s i text 0 within ∙ ap (λ t. cond (t && s.outside) (i ∷ places_past byte s i text) (places_past byte s i text)) (ne_eqb _ _ other)

and_false : (t : Bool) → (t && false) ≡ false
and_false true = refl
and_false false = refl

pub places_from-inside : (byte : ℕ) (s : QuoteState) (i : ℕ) (text : List ℕ) → i < length text → s.outside ≡ false → places_from byte s i (drop i text) ≡ places_past byte s i text
places_from-inside byte s i text within inside =
    places_from-more byte s i text 0 within ∙ ap (λ t. cond ((get_or text i 0 == byte) && t) (i ∷ places_past byte s i text) (places_past byte s i text)) inside
    ∙ ap (λ t. cond t (i ∷ places_past byte s i text) (places_past byte s i text)) (and_false (get_or text i 0 == byte))

-- the first place, and where there's none
pub first_found : (byte : ℕ) (s : QuoteState) (i : ℕ) (text : List ℕ) → i < length text → get_or text i 0 ≡ byte → s.outside ≡ true
    → places_from byte s i (drop i text) ≡ places_from byte at_start 0 text → Some i ≡ slice_get (places_outside byte text) 0
first_found byte s i text within same outside kept =
    ap (λ ps. slice_get ps 0) (sym (places_from-here byte s i text within same outside) ∙ kept ∙ sym (places_outside-from byte text))

pub first_none : (byte : ℕ) (s : QuoteState) (i : ℕ) (text : List ℕ) → length text ≤ i
    → places_from byte s i (drop i text) ≡ places_from byte at_start 0 text → None ≡ slice_get (places_outside byte text) 0
first_none byte s i text past_end kept =
    ap (λ ps. slice_get ps 0) (sym (at_drop_all (λ xs. places_from byte s i xs) text i past_end) ∙ kept ∙ sym (places_outside-from byte text))

-- the last place, past one more byte, and at the end
pub last_here : (byte : ℕ) (s : QuoteState) (i : ℕ) (text : List ℕ) (last all : Option ℕ) → i < length text → get_or text i 0 ≡ byte → s.outside ≡ true
    → last_or last (places_from byte s i (drop i text)) ≡ all → last_or (Some i) (places_past byte s i text) ≡ all
last_here byte s i text last all within same outside kept = ap (last_or last) (sym (places_from-here byte s i text within same outside)) ∙ kept

pub last_found : (byte : ℕ) (s : QuoteState) (i : ℕ) (text : List ℕ) (last : Option ℕ) → length text ≤ i
    → last_or last (places_from byte s i (drop i text)) ≡ last_or None (places_from byte at_start 0 text) → last ≡ last_or None (places_outside byte text)
last_found byte s i text last past_end kept =
    ap (last_or last) (sym (at_drop_all (λ xs. places_from byte s i xs) text i past_end)) ∙ kept ∙ ap (last_or None) (sym (places_outside-from byte text))

pub closes_at_end : (s : QuoteState) (i : ℕ) (text : List ℕ) → length text ≤ i → state_after s (drop i text) ≡ state_after at_start text → s.outside ≡ (quote_count text % 2 == 0)
closes_at_end s i text past_end kept = ap (λ q. q.outside) (sym (at_drop_all (λ xs. state_after s xs) text i past_end) ∙ kept) ∙ closes-is text
