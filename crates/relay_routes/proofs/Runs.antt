-- Exchangers in rising preference, one run of equal preference after another.
use Rattle.std.proofs.Common.{◌≡◌, ℕ, suc, ◌+◌, ◌<◌, ◌≤◌, ◌⊎◌, inl, inr, Bool, true, false, not, ◌||◌, ◌&&◌, cond, eqb, ltb, List, [], ◌∷◌, ◌++◌, length, take, drop, map, get_or, Bor, refl, sym, ap, ◌∙◌, subst, filter, arith}
use Rattle.std.specs.Prelude.{flat_map}
use Rattle.std.specs.List.{list_any, position_or_len}
use Rattle.std.specs.List.Sorted.{IsPermutation, IsStableBy, IsNonDecreasingBy}
use Rattle.std.specs.Ordering.{nat_cmp, is_lt}
use Rattle.std.specs.Str.{bytes_eq}
use Rattle.std.proofs.lemmas.Bool.{true≢false, eqb-true, eqb-false, ne_eqb, eq-eqb, lt-ltb, ltb-true, ltb-false, cases_order}
use Rattle.std.proofs.lemmas.Bool.Decides.{nat_tests}
use Rattle.std.proofs.lemmas.List.{at_drop_more, at_drop_all, take-append-drop, append-nil, length-take, length-drop, take-map, drop-map}
use Rattle.std.proofs.lemmas.List.Elements.{filter-append}
use Rattle.std.proofs.lemmas.List.Sorted.{list_any-IsPermutation}
use Rattle.relay_text.specs.Bytes.{firsts}
use Rattle.relay_routes.specs.declared.exchange.Exchange.{Exchange}
use Rattle.relay_routes.specs.Exchanges.{with_number, ascending_numbers, rotated, hosts_at, in_preference_order}
use Rattle.relay_routes.specs.Preferences.{exchanges_of, AtLeast, IsRising, IsFirstRun}
use Rattle.relay_routes.proofs.StableSorts.{stable_filter}

-- the preferences of exchangers
abbrev pub preferences : List Exchange → List ℕ
preferences es = map (λ e. e.preference) es

-- whether a number is among others
abbrev has_number : List ℕ → ℕ → Bool
has_number ns q = list_any (λ n. eqb n q) ns

-- numbers that are above one
abbrev Above : ℕ → List ℕ → Type 0
Above low [] = Unit {0}
Above low (n ∷ ns) = (low < n) × Above low ns

abbrev Ascends : List ℕ → Type 0
Ascends [] = Unit {0}
Ascends (n ∷ ns) = Above n ns × Ascends ns

above_lower : (low n : ℕ) (ns : List ℕ) → low < n → Above n ns → Above low ns
above_lower low n [] h a = tt
above_lower low n (m ∷ ns) h a = (omega (arith, a.0), above_lower low n ns h a.1)

above_from : (low n : ℕ) (ns : List ℕ) → low < n → AtLeast n ns → Above low ns
above_from low n [] h a = tt
above_from low n (m ∷ ns) h a = (omega (arith, a.0), above_from low n ns h a.1)

none_above : (low : ℕ) (ns : List ℕ) → Above low ns → (q : ℕ) → q ≤ low → has_number ns q ≡ false
none_above low [] a q h = refl
none_above low (n ∷ ns) a q h = ap (λ t. t || has_number ns q) (ne_eqb n q (λ e. absurd (omega (arith, a.0)))) ∙ none_above low ns a.1 q h

-- ---- the distinct numbers, ascending
above_with : (low n : ℕ) (ms : List ℕ) → low < n → Above low ms → Above low (with_number n ms)
above_with low n [] h a = (h, tt)
above_with low n (m ∷ ms) h a = at (eqb n m) (ltb n m) (above_with low n ms h a.1) where
  at : (s t : Bool) → Above low (with_number n ms) → Above low (cond s (m ∷ ms) (cond t (n ∷ m ∷ ms) (m ∷ with_number n ms)))
  at true t later = a
  at false true later = (h, a)
  at false false later = (a.0, later)

ascends_with : (n : ℕ) (ms : List ℕ) → Ascends ms → Ascends (with_number n ms)
ascends_with n [] a = (tt, tt)
ascends_with n (m ∷ ms) a = at (eqb n m) refl (ltb n m) refl (ascends_with n ms a.1) where
  at : (s : Bool) → eqb n m ≡ s → (t : Bool) → ltb n m ≡ t → Ascends (with_number n ms) → Ascends (cond s (m ∷ ms) (cond t (n ∷ m ∷ ms) (m ∷ with_number n ms)))
  at true e t f later = a
  at false e true f later = ((ltb-true n m f, above_lower n m ms (ltb-true n m f) a.0), a)
  at false e false f later = let below : m < n = omega (arith, ltb-false n m f, eqb-false n m e) in (above_with m n ms below a.0, later)

or_again : (a b : Bool) → (a || b) ≡ (a || (a || b))
or_again true b = refl
or_again false b = refl

or_swap : (a b c : Bool) → (a || (b || c)) ≡ (b || (a || c))
or_swap true true c = refl
or_swap true false c = refl
or_swap false b c = refl

has_with : (n : ℕ) (ms : List ℕ) (q : ℕ) → has_number (with_number n ms) q ≡ (eqb n q || has_number ms q)
has_with n [] q = refl
has_with n (m ∷ ms) q = at (eqb n m) refl (ltb n m) (has_with n ms q) where
  at : (s : Bool) → eqb n m ≡ s → (t : Bool) → has_number (with_number n ms) q ≡ (eqb n q || has_number ms q)
      → has_number (cond s (m ∷ ms) (cond t (n ∷ m ∷ ms) (m ∷ with_number n ms))) q ≡ (eqb n q || (eqb m q || has_number ms q))
  at true e t later = let same : n ≡ m = eqb-true n m e in ap (λ k. eqb k q || has_number ms q) (sym same) ∙ or_again (eqb n q) (has_number ms q) ∙ ap (λ k. eqb n q || (eqb k q || has_number ms q)) same
  at false e true later = refl
  at false e false later = ap (λ t. eqb m q || t) later ∙ or_swap (eqb m q) (eqb n q) (has_number ms q)

ascending_ascends : (ns : List ℕ) → Ascends (ascending_numbers ns)
ascending_ascends [] = tt
ascending_ascends (n ∷ ns) = ascends_with n (ascending_numbers ns) (ascending_ascends ns)

has_ascending : (ns : List ℕ) (q : ℕ) → has_number (ascending_numbers ns) q ≡ has_number ns q
has_ascending [] q = refl
has_ascending (n ∷ ns) q = has_with n (ascending_numbers ns) q ∙ ap (λ t. eqb n q || t) (has_ascending ns q)

above_ascending : (low : ℕ) (ns : List ℕ) → Above low ns → Above low (ascending_numbers ns)
above_ascending low [] a = tt
above_ascending low (n ∷ ns) a = above_with low n (ascending_numbers ns) a.0 (above_ascending low ns a.1)

has_first : (n : ℕ) (ns : List ℕ) → has_number (n ∷ ns) n ≡ true
has_first n ns = ap (λ t. t || has_number ns n) (eq-eqb n n refl)

-- Ascending numbers are determined by which they are.
one_ascending : (ns ms : List ℕ) → Ascends ns → Ascends ms → ((q : ℕ) → has_number ns q ≡ has_number ms q) → ns ≡ ms
one_ascending [] [] a b same = refl
one_ascending [] (m ∷ ms) a b same = absurd (true≢false (sym (has_first m ms) ∙ sym (same m)))
one_ascending (n ∷ ns) [] a b same = absurd (true≢false (sym (has_first n ns) ∙ same n))
one_ascending (n ∷ ns) (m ∷ ms) a b same = at (cases_order n m) (one_ascending ns ms a.1 b.1) where
  rest_same : n ≡ m → (q : ℕ) → has_number ns q ≡ has_number ms q
  rest_same e q = by_test (eqb n q) refl where
    by_test : (t : Bool) → eqb n q ≡ t → has_number ns q ≡ has_number ms q
    by_test true f =
        let here : n ≡ q = eqb-true n q f in
        none_above n ns a.0 q (omega arith) ∙ sym (none_above m ms b.0 q (omega arith))
    by_test false f =
        let other : eqb m q ≡ false = ap (λ k. eqb k q) (sym e) ∙ f in
        ap (λ t. t || has_number ns q) (sym f) ∙ same q ∙ ap (λ t. t || has_number ms q) other

  at : (n ≡ m) ⊎ ((n < m) ⊎ (m < n)) → (((q : ℕ) → has_number ns q ≡ has_number ms q) → ns ≡ ms) → n ∷ ns ≡ m ∷ ms
  at (inl e) later = ap (λ k. k ∷ ns) e ∙ ap (λ ks. m ∷ ks) (later (rest_same e))
  at (inr (inl below)) later = absurd (true≢false (sym (has_first n ns) ∙ same n ∙ none_above n (m ∷ ms) (below, above_lower n m ms below b.0) n (omega arith)))
  at (inr (inr below)) later = absurd (true≢false (sym (has_first m ms) ∙ sym (same m) ∙ none_above m (n ∷ ns) (below, above_lower m n ns below a.0) m (omega arith)))

-- ---- exchangers sorted by their preferences
pub map_kept : {X Y : Type 0} (f : X → Y) (p : Y → Bool) (xs : List X) → filter p (map f xs) ≡ map f (filter (λ x. p (f x)) xs)
map_kept f p [] = refl
map_kept {X} {Y} f p (x ∷ xs) = at (p (f x)) (map_kept f p xs) where
  at : (t : Bool) → filter p (map f xs) ≡ map f (filter (λ y. p (f y)) xs) → cond t (f x ∷ filter p (map f xs)) (filter p (map f xs)) ≡ map f (cond t (x ∷ filter (λ y. p (f y)) xs) (filter (λ y. p (f y)) xs))
  at true later = ap (λ t. f x ∷ t) later
  at false later = later

-- the exchangers that pass a test, behind their references
pub exchanges-filter : (p : Exchange → Bool) (rs : List (Bor Exchange)) → filter p (exchanges_of rs) ≡ exchanges_of (filter (λ r. p r.now) rs)
exchanges-filter p rs = map_kept (λ (r : Bor Exchange). r.now) p rs

has_preferences : (rs : List (Bor Exchange)) (q : ℕ) → has_number (preferences (exchanges_of rs)) q ≡ list_any (λ r. eqb r.now.preference q) rs
has_preferences [] q = refl
has_preferences (r ∷ rs) q = ap (λ t. eqb r.now.preference q || t) (has_preferences rs q)

flat_map_same : (f g : ℕ → List (List ℕ)) (ns : List ℕ) → ((q : ℕ) → f q ≡ g q) → flat_map f ns ≡ flat_map g ns
flat_map_same f g [] h = refl
flat_map_same f g (n ∷ ns) h = ap (λ t. t ++ flat_map f ns) (h n) ∙ ap (λ t. g n ++ t) (flat_map_same f g ns h)

numbers_tie : (m n : ℕ) → (not (is_lt (nat_cmp m n)) && not (is_lt (nat_cmp n m))) ≡ eqb n m
numbers_tie m n = at (cases_order m n) where
  at : (m ≡ n) ⊎ ((m < n) ⊎ (n < m)) → (not (is_lt (nat_cmp m n)) && not (is_lt (nat_cmp n m))) ≡ eqb n m
  at (inl e) = grind (arith, nat_tests)
  at (inr (inl h)) = grind (arith, nat_tests)
  at (inr (inr h)) = grind (arith, nat_tests)

-- whether an exchanger's preference is below another's
abbrev pub is_preferred : Bor Exchange → Bor Exchange → Bool
is_preferred x y = is_lt (nat_cmp x.now.preference y.now.preference)

at_number : (rs sorted : List (Bor Exchange)) → IsPermutation rs sorted → IsStableBy is_preferred rs sorted → (q : ℕ)
    → filter (λ e. eqb e.preference q) (exchanges_of sorted) ≡ filter (λ e. eqb e.preference q) (exchanges_of rs)
at_number rs sorted moved stable q =
    exchanges-filter (λ e. eqb e.preference q) sorted
    ∙ ap exchanges_of (stable_filter is_preferred (λ r. eqb r.now.preference q) rs sorted moved stable
    (λ x y h. numbers_tie x.now.preference y.now.preference ∙ ap (eqb y.now.preference) (eqb-true x.now.preference q h)))
    ∙ sym (exchanges-filter (λ e. eqb e.preference q) rs)

-- A stable sort by preference keeps the order in which hosts are tried.
pub order_kept : (rs sorted : List (Bor Exchange)) (seed : ℕ) → IsPermutation rs sorted → IsStableBy is_preferred rs sorted
    → in_preference_order seed (exchanges_of sorted) ≡ in_preference_order seed (exchanges_of rs)
order_kept rs sorted seed moved stable =
    let numbers : ascending_numbers (preferences (exchanges_of sorted)) ≡ ascending_numbers (preferences (exchanges_of rs)) =
    one_ascending _ _ (ascending_ascends (preferences (exchanges_of sorted))) (ascending_ascends (preferences (exchanges_of rs)))
    (λ q. has_ascending (preferences (exchanges_of sorted)) q ∙ has_preferences sorted q
    ∙ sym (list_any-IsPermutation (λ r. eqb r.now.preference q) rs sorted moved)
    ∙ sym (has_preferences rs q) ∙ sym (has_ascending (preferences (exchanges_of rs)) q)) in
    ap (flat_map (hosts_at seed (exchanges_of sorted))) numbers
    ∙ flat_map_same (hosts_at seed (exchanges_of sorted)) (hosts_at seed (exchanges_of rs)) (ascending_numbers (preferences (exchanges_of rs)))
    (λ q. ap (λ es. rotated seed (firsts bytes_eq (map (λ (e : Exchange). e.host) es))) (at_number rs sorted moved stable q))

at_least_from : (low : ℕ) (rs : List (Bor Exchange)) → ((k : ℕ) (d : Bor Exchange) → k < length rs → low ≤ (get_or rs k d).now.preference) → AtLeast low (preferences (exchanges_of rs))
at_least_from low [] h = tt
at_least_from low (r ∷ rs) h = (h 0 r (omega arith), at_least_from low rs (λ k d lt. h (suc k) d (omega arith)))

-- Sorted exchangers rise.
pub rising_from : (rs : List (Bor Exchange)) → IsNonDecreasingBy (λ r. r.now.preference) rs → IsRising (preferences (exchanges_of rs))
rising_from [] h = tt
rising_from (r ∷ rs) h = (
  at_least_from r.now.preference rs (λ k d lt. h 0 (suc k) d (omega arith) (omega arith)),
  rising_from rs (λ i j d le lt. h (suc i) (suc j) d (omega arith) (omega arith)),
)

-- ---- the first run
abbrev AllAt : ℕ → List Exchange → Type 0
AllAt p [] = Unit {0}
AllAt p (e ∷ es) = (e.preference ≡ p) × AllAt p es

-- where the first run ends
abbrev pub is_later : ℕ → Exchange → Bool
is_later p e = not (eqb e.preference p)

abbrev pub run_end : ℕ → List Exchange → ℕ
run_end p es = position_or_len (is_later p) es

record Cut (p : ℕ) (es : List Exchange) : Type 0 where
  run : AllAt p (take (run_end p es) es)
  above : Above p (preferences (drop (run_end p es) es))
  rising : IsRising (preferences (drop (run_end p es) es))

cut_made : (p : ℕ) (es : List Exchange) → AtLeast p (preferences es) → IsRising (preferences es) → Cut p es
cut_made p [] low up = record { run = tt; above = tt; rising = tt }
cut_made p (e ∷ es) low up = at (eqb e.preference p) refl (cut_made p es low.1 up.1) where
  at : (t : Bool) → eqb e.preference p ≡ t → Cut p es → Cut p (e ∷ es)
  at true h later =
      let len : run_end p (e ∷ es) ≡ suc (run_end p es) = ap (λ t. cond (not (not t)) (1 + run_end p es) 0) h ∙ omega arith in
      record {
        run = subst (λ n. AllAt p (take n (e ∷ es))) (sym len) (eqb-true e.preference p h, later.run);
        above = subst (λ n. Above p (preferences (drop n (e ∷ es)))) (sym len) later.above;
        rising = subst (λ n. IsRising (preferences (drop n (e ∷ es)))) (sym len) later.rising;
      }
  at false h later =
      let len : run_end p (e ∷ es) ≡ 0 = ap (λ t. cond (not (not t)) (1 + run_end p es) 0) h in
      let over : p < e.preference = omega (arith, low.0, eqb-false e.preference p h) in
      record {
        run = subst (λ n. AllAt p (take n (e ∷ es))) (sym len) tt;
        above = subst (λ n. Above p (preferences (drop n (e ∷ es)))) (sym len) (over, above_from p e.preference (preferences es) over up.0);
        rising = subst (λ n. IsRising (preferences (drop n (e ∷ es)))) (sym len) up;
      }

with_lowest : (p : ℕ) (ns : List ℕ) → Above p ns → with_number p ns ≡ p ∷ ns
with_lowest p [] a = refl
with_lowest p (n ∷ ns) a =
    let s : eqb p n ≡ false = ne_eqb p n (λ e. absurd (omega (arith, a.0))) in
    let t : ltb p n ≡ true = lt-ltb p n a.0 in
    ap (λ b. cond b (n ∷ ns) (cond (ltb p n) (p ∷ n ∷ ns) (n ∷ with_number p ns))) s ∙ ap (λ b. cond b (p ∷ n ∷ ns) (n ∷ with_number p ns)) t

with_again : (p : ℕ) (ns : List ℕ) → with_number p (p ∷ ns) ≡ p ∷ ns
with_again p ns = ap (λ b. cond b (p ∷ ns) (cond (ltb p p) (p ∷ p ∷ ns) (p ∷ with_number p ns))) (eq-eqb p p refl)

-- the distinct preferences of a run and what follows it
run_numbers : (p : ℕ) (run later : List Exchange) → 0 < length run → AllAt p run → Above p (preferences later)
    → ascending_numbers (preferences (run ++ later)) ≡ p ∷ ascending_numbers (preferences later)
run_numbers p [] later some all above = absurd (omega arith)
run_numbers p (e ∷ []) later some all above =
    ap (λ n. with_number n (ascending_numbers (preferences later))) all.0 ∙ with_lowest p (ascending_numbers (preferences later)) (above_ascending p (preferences later) above)
run_numbers p (e ∷ f ∷ run) later some all above =
    ap (λ n. with_number n (ascending_numbers (preferences ((f ∷ run) ++ later)))) all.0
    ∙ ap (with_number p) (run_numbers p (f ∷ run) later (omega arith) all.1 above)
    ∙ with_again p (ascending_numbers (preferences later))

run_kept : (p : ℕ) (run : List Exchange) → AllAt p run → filter (λ e. eqb e.preference p) run ≡ run
run_kept p [] all = refl
run_kept p (e ∷ run) all = ap (λ b. cond b (e ∷ filter (λ x. eqb x.preference p) run) (filter (λ x. eqb x.preference p) run)) (eq-eqb e.preference p all.0) ∙ ap (λ t. e ∷ t) (run_kept p run all.1)

run_left_out : (p q : ℕ) (run : List Exchange) → AllAt p run → p < q → filter (λ e. eqb e.preference q) run ≡ []
run_left_out p q [] all h = refl
run_left_out p q (e ∷ run) all h =
    ap (λ b. cond b (e ∷ filter (λ x. eqb x.preference q) run) (filter (λ x. eqb x.preference q) run)) (ne_eqb e.preference q (λ same. absurd (omega (arith, all.0))))
    ∙ run_left_out p q run all.1 h

later_left_out : (p : ℕ) (later : List Exchange) → Above p (preferences later) → filter (λ e. eqb e.preference p) later ≡ []
later_left_out p [] above = refl
later_left_out p (e ∷ later) above =
    ap (λ b. cond b (e ∷ filter (λ x. eqb x.preference p) later) (filter (λ x. eqb x.preference p) later)) (ne_eqb e.preference p (λ same. absurd (omega (arith, above.0))))
    ∙ later_left_out p later above.1

flat_map_above : (f g : ℕ → List (List ℕ)) (low : ℕ) (ns : List ℕ) → Above low ns → ((q : ℕ) → low < q → f q ≡ g q) → flat_map f ns ≡ flat_map g ns
flat_map_above f g low [] a h = refl
flat_map_above f g low (n ∷ ns) a h = ap (λ t. t ++ flat_map f ns) (h n a.0) ∙ ap (λ t. g n ++ t) (flat_map_above f g low ns a.1 h)

-- the hosts of a run are tried first
run_order : (p : ℕ) (run later : List Exchange) (seed : ℕ) → 0 < length run → AllAt p run → Above p (preferences later)
    → in_preference_order seed (run ++ later) ≡ rotated seed (firsts bytes_eq (map (λ e. e.host) run)) ++ in_preference_order seed later
run_order p run later seed some all above =
    let hosts = λ (es : List Exchange). rotated seed (firsts bytes_eq (map (λ (e : Exchange). e.host) es)) in
    let here : filter (λ e. eqb e.preference p) (run ++ later) ≡ run =
    filter-append (λ e. eqb e.preference p) run later ∙ ap (λ t. t ++ filter (λ (e : Exchange). eqb e.preference p) later) (run_kept p run all)
    ∙ ap (λ t. run ++ t) (later_left_out p later above) ∙ append-nil run in
    ap (flat_map (hosts_at seed (run ++ later))) (run_numbers p run later some all above)
    ∙ ap (λ es. hosts es ++ flat_map (hosts_at seed (run ++ later)) (ascending_numbers (preferences later))) here
    ∙ ap (λ t. hosts run ++ t) (flat_map_above (hosts_at seed (run ++ later)) (hosts_at seed later) p (ascending_numbers (preferences later)) (above_ascending p (preferences later) above)
    (λ q h. ap hosts (filter-append (λ e. eqb e.preference q) run later ∙ ap (λ t. t ++ filter (λ (e : Exchange). eqb e.preference q) later) (run_left_out p q run all h))))

first_run : (p n : ℕ) (es : List Exchange) → 0 < n → n ≡ run_end p es → AtLeast p (preferences es) → IsRising (preferences es) → 0 < length es → IsFirstRun es (take n es) (drop n es)
first_run p n es some e low up any =
    let cut = cut_made p es low up in
    let run : AllAt p (take n es) = subst (λ m. AllAt p (take m es)) (sym e) cut.run in
    let above : Above p (preferences (drop n es)) = subst (λ m. Above p (preferences (drop m es))) (sym e) cut.above in
    let rising : IsRising (preferences (drop n es)) = subst (λ m. IsRising (preferences (drop m es))) (sym e) cut.rising in
    let has : 0 < length (take n es) = omega (arith, length-take n es) in
    record {
      order = λ seed. ap (in_preference_order seed) (sym (take-append-drop n es)) ∙ run_order p (take n es) (drop n es) seed has run above;
      rising = rising;
      some = has;
      fewer = omega (arith, length-drop n es);
    }

end_behind : (q : Exchange → Bool) (rs : List (Bor Exchange)) → position_or_len (λ r. q r.now) rs ≡ position_or_len q (exchanges_of rs)
end_behind q [] = refl
end_behind q (r ∷ rs) = ap (λ n. cond (not (q r.now)) (1 + n) 0) (end_behind q rs)

-- The exchangers before the first of another preference are a run.
pub run_found : (rs : List (Bor Exchange)) (first : Bor Exchange) (p n : ℕ) → 0 < length rs → first ≡ get_or rs 0 first → p ≡ first.now.preference → IsRising (preferences (exchanges_of rs))
    → n ≡ position_or_len (λ r. is_later p r.now) rs
    → IsFirstRun (exchanges_of rs) (exchanges_of (take n rs)) (exchanges_of (drop n rs))
run_found [] first p n some is p_is up place = absurd (omega arith)
run_found (r ∷ rs) first p n some is p_is up place =
    let same : p ≡ r.now.preference = p_is ∙ ap (λ (x : Bor Exchange). x.now.preference) is in
    let at_end : n ≡ run_end p (exchanges_of (r ∷ rs)) = place ∙ end_behind (is_later p) (r ∷ rs) in
    let long : run_end p (exchanges_of (r ∷ rs)) ≡ 1 + run_end p (exchanges_of rs) = ap (λ t. cond (not (not t)) (1 + run_end p (exchanges_of rs)) 0) (eq-eqb r.now.preference p (sym same)) in
    let low : AtLeast p (preferences (exchanges_of (r ∷ rs))) = (omega arith, subst (λ m. AtLeast m (preferences (exchanges_of rs))) (sym same) up.0) in
    rw (← take-map (λ (x : Bor Exchange). x.now) n (r ∷ rs), ← drop-map (λ (x : Bor Exchange). x.now) n (r ∷ rs))
    (first_run p n (exchanges_of (r ∷ rs)) (omega arith) at_end low up (omega arith))

-- the first place that passes, or the length, while places are tried one after another
at_place : {X : Type 0} (p : X → Bool) (xs : List X) (n : ℕ) (x : X) → n < length xs → x ≡ get_or xs n x → position_or_len p (drop n xs) ≡ cond (not (p x)) (1 + position_or_len p (drop (n + 1) xs)) 0
at_place p xs n x within is = at_drop_more (position_or_len p) xs n x within ∙ ap (λ y. position_or_len p (y ∷ drop (n + 1) xs)) (sym is)

pub place_here : {X : Type 0} (p : X → Bool) (xs : List X) (n : ℕ) (x : X) → n < length xs → x ≡ get_or xs n x → p x ≡ true → n + position_or_len p (drop n xs) ≡ position_or_len p xs → n ≡ position_or_len p xs
place_here p xs n x within is found passed =
    let here : position_or_len p (drop n xs) ≡ 0 = at_place p xs n x within is ∙ ap (λ t. cond (not t) (1 + position_or_len p (drop (n + 1) xs)) 0) found in
    omega (arith, here, passed)

pub place_past : {X : Type 0} (p : X → Bool) (xs : List X) (n : ℕ) (x : X) → n < length xs → x ≡ get_or xs n x → p x ≡ false → n + position_or_len p (drop n xs) ≡ position_or_len p xs
    → (n + 1) + position_or_len p (drop (n + 1) xs) ≡ position_or_len p xs
place_past p xs n x within is other passed =
    let past : position_or_len p (drop n xs) ≡ 1 + position_or_len p (drop (n + 1) xs) = at_place p xs n x within is ∙ ap (λ t. cond (not t) (1 + position_or_len p (drop (n + 1) xs)) 0) other in
    omega (arith, past, passed)

pub place_end : {X : Type 0} (p : X → Bool) (xs : List X) (n : ℕ) → length xs ≤ n → n ≤ length xs → n + position_or_len p (drop n xs) ≡ position_or_len p xs → length xs ≡ position_or_len p xs
place_end p xs n over within passed =
    let none : position_or_len p (drop n xs) ≡ 0 = at_drop_all (position_or_len p) xs n over in
    omega (arith, over, within, none, passed)

-- ---- exchangers whose distinct hosts are the same at each preference
abbrev pub hosts_of_preference : ℕ → List Exchange → List (List ℕ)
hosts_of_preference q es = map (λ (e : Exchange). e.host) (filter (λ (e : Exchange). eqb e.preference q) es)

abbrev has_some : List (List ℕ) → Bool
has_some [] = false
has_some (host ∷ hosts) = true

number_has_hosts : (es : List Exchange) (q : ℕ) → has_number (preferences es) q ≡ has_some (firsts bytes_eq (hosts_of_preference q es))
number_has_hosts [] q = refl
number_has_hosts (e ∷ es) q = at (eqb e.preference q) (number_has_hosts es q) where
  at : (t : Bool) → has_number (preferences es) q ≡ has_some (firsts bytes_eq (hosts_of_preference q es))
      → (t || has_number (preferences es) q) ≡ has_some (firsts bytes_eq (map (λ (x : Exchange). x.host) (cond t (e ∷ filter (λ (x : Exchange). eqb x.preference q) es) (filter (λ (x : Exchange). eqb x.preference q) es))))
  at true later = refl
  at false later = later

pub order_same : (es fs : List Exchange) (seed : ℕ) → ((q : ℕ) → firsts bytes_eq (hosts_of_preference q es) ≡ firsts bytes_eq (hosts_of_preference q fs)) → in_preference_order seed es ≡ in_preference_order seed fs
order_same es fs seed same =
    let numbers : ascending_numbers (preferences es) ≡ ascending_numbers (preferences fs) =
    one_ascending _ _ (ascending_ascends (preferences es)) (ascending_ascends (preferences fs))
    (λ q. has_ascending (preferences es) q ∙ number_has_hosts es q ∙ ap has_some (same q) ∙ sym (number_has_hosts fs q) ∙ sym (has_ascending (preferences fs) q)) in
    ap (flat_map (hosts_at seed es)) numbers
    ∙ flat_map_same (hosts_at seed es) (hosts_at seed fs) (ascending_numbers (preferences fs)) (λ q. ap (rotated seed) (same q))
