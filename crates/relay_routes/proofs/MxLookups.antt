-- What a look-up finds among the records whose domains have one hash.
use Rattle.std.proofs.Common.{◌≡◌, ℕ, zero, suc, ◌+◌, ◌-◌, ◌<◌, ◌≤◌, Bool, true, false, ◌||◌, cond, List, [], ◌∷◌, ◌++◌, length, take, map, get_or, refl, sym, ap, ◌∙◌, filter, Option, Some, None, ⊎_elim, arith, append_assoc}
use Rattle.std.specs.Prelude.{filter_map, reverse}
use Rattle.std.specs.List.{list_any, cons_option}
use Rattle.std.specs.Str.{bytes_eq}
use Rattle.std.proofs.Math.Seq.{take-length}
use Rattle.std.proofs.lemmas.Bool.{true≢false, cases_eq}
use Rattle.std.proofs.lemmas.List.{append-nil, map_push, take_more, get_or-map, length-map, reverse-append}
use Rattle.std.proofs.lemmas.List.Elements.{filter_map-append}
use Rattle.std.proofs.lemmas.List.Folds.{list_any-append}
use Rattle.std.proofs.lemmas.Slice.Eq.{bytes_eq-Decides}
use Rattle.relay_chains.specs.Links.{last_under}
use Rattle.relay_chains.specs.TextHash.{text_hash}
use Rattle.relay_chains.proofs.Under.{last_under-here, last_under-else, last_under-none, last_under_le, last_under-last_under, hash_of_last}
use Rattle.relay_text.specs.Bytes.{has_text}
use Rattle.relay_routes.specs.declared.exchange.Exchange.{Exchange}
use Rattle.relay_routes.specs.declared.mx_record.MxRecord.{MxRecord}
use Rattle.relay_routes.specs.declared.mx_record.MxRecord.TheVariants.{Mx, Address}
use Rattle.relay_routes.specs.Exchanges.{exchange_in, address_in}
use Rattle.relay_routes.specs.MxRecords.{domain_hash, own_exchange, is_own_address}

pub bytes_eq_swap : (xs ys : List ℕ) → bytes_eq xs ys ≡ bytes_eq ys xs
bytes_eq_swap xs ys = at (bytes_eq xs ys) refl (bytes_eq ys xs) refl where
  at : (a : Bool) → bytes_eq xs ys ≡ a → (b : Bool) → bytes_eq ys xs ≡ b → a ≡ b
  at true e true f = refl
  at false e false f = refl
  at true e false f = absurd (true≢false (sym ((bytes_eq-Decides ys xs).1 (sym ((bytes_eq-Decides xs ys).0 e))) ∙ f))
  at false e true f = absurd (true≢false (sym ((bytes_eq-Decides xs ys).1 (sym ((bytes_eq-Decides ys xs).0 f))) ∙ e))

-- A record of a domain has the domain's hash, so one with another hash is none of its own.
other_exchange : (key : ℕ) (d : List ℕ) (r : MxRecord) → (domain_hash key r ≡ text_hash key d → ⊥) → own_exchange d r ≡ None
other_exchange key d (Mx e) other = at (bytes_eq e.domain d) refl where
  at : (t : Bool) → bytes_eq e.domain d ≡ t → cond t (Some e) None ≡ None
  at true same = absurd (other (ap (text_hash key) ((bytes_eq-Decides e.domain d).0 same)))
  at false same = refl
other_exchange key d (Address a) other = refl

other_address : (key : ℕ) (d : List ℕ) (r : MxRecord) → (domain_hash key r ≡ text_hash key d → ⊥) → is_own_address d r ≡ false
other_address key d (Mx e) other = refl
other_address key d (Address a) other = at (bytes_eq a d) refl where
  at : (t : Bool) → bytes_eq a d ≡ t → t ≡ false
  at true same = absurd (other (ap (text_hash key) ((bytes_eq-Decides a d).0 same)))
  at false same = refl

-- the first records, without those behind the last one under a hash
module _ (key : ℕ) (d : List ℕ) (rs : List MxRecord) where
  abbrev last : ℕ → ℕ
  last n = last_under (map (domain_hash key) rs) (text_hash key d) n

  -- a record at a place has the hash there
  hash_at : (n : ℕ) (r : MxRecord) → n < length rs → get_or (map (domain_hash key) rs) n 0 ≡ domain_hash key (get_or rs n r)
  hash_at n r below = get_or-map (domain_hash key) rs n r 0 below

  pub exchanges_up_to : (n : ℕ) → n ≤ length rs → filter_map (own_exchange d) (take n rs) ≡ filter_map (own_exchange d) (take (last n) rs)
  exchanges_up_to zero within = ap (λ k. filter_map (own_exchange d) (take k rs)) (sym (last_under-none (map (domain_hash key) rs) (text_hash key d)))
  exchanges_up_to (suc n) within = ⊎_elim here (there (exchanges_up_to n (omega (arith, within)))) (cases_eq (get_or (map (domain_hash key) rs) n 0) (text_hash key d)) where
    r : MxRecord
    r = get_or rs n (Address [])

    here : get_or (map (domain_hash key) rs) n 0 ≡ text_hash key d → filter_map (own_exchange d) (take (suc n) rs) ≡ filter_map (own_exchange d) (take (last (suc n)) rs)
    here e = ap (λ k. filter_map (own_exchange d) (take k rs)) (sym (last_under-here (map (domain_hash key) rs) (text_hash key d) n e))

    there : filter_map (own_exchange d) (take n rs) ≡ filter_map (own_exchange d) (take (last n) rs) → (get_or (map (domain_hash key) rs) n 0 ≡ text_hash key d → ⊥) → filter_map (own_exchange d) (take (suc n) rs) ≡ filter_map (own_exchange d) (take (last (suc n)) rs)
    there later e =
        let one : n + 1 ≡ suc n = omega arith in
        let none = other_exchange key d r (λ same. e (hash_at n (Address []) (omega (arith, within)) ∙ same)) in
        ap (λ k. filter_map (own_exchange d) (take k rs)) (sym one)
        ∙ ap (filter_map (own_exchange d)) (take_more rs n (Address []) (omega (arith, within)))
        ∙ filter_map-append (own_exchange d) (take n rs) (r ∷ [])
        ∙ ap (λ o. filter_map (own_exchange d) (take n rs) ++ cons_option o []) none
        ∙ append-nil (filter_map (own_exchange d) (take n rs))
        ∙ later
        ∙ ap (λ k. filter_map (own_exchange d) (take k rs)) (sym (last_under-else (map (domain_hash key) rs) (text_hash key d) n e))

  pub addresses_up_to : (n : ℕ) → n ≤ length rs → list_any (is_own_address d) (take n rs) ≡ list_any (is_own_address d) (take (last n) rs)
  addresses_up_to zero within = ap (λ k. list_any (is_own_address d) (take k rs)) (sym (last_under-none (map (domain_hash key) rs) (text_hash key d)))
  addresses_up_to (suc n) within = ⊎_elim here (there (addresses_up_to n (omega (arith, within)))) (cases_eq (get_or (map (domain_hash key) rs) n 0) (text_hash key d)) where
    r : MxRecord
    r = get_or rs n (Address [])

    or_false : (a : Bool) → (a || (false || false)) ≡ a
    or_false true = refl
    or_false false = refl

    here : get_or (map (domain_hash key) rs) n 0 ≡ text_hash key d → list_any (is_own_address d) (take (suc n) rs) ≡ list_any (is_own_address d) (take (last (suc n)) rs)
    here e = ap (λ k. list_any (is_own_address d) (take k rs)) (sym (last_under-here (map (domain_hash key) rs) (text_hash key d) n e))

    there : list_any (is_own_address d) (take n rs) ≡ list_any (is_own_address d) (take (last n) rs) → (get_or (map (domain_hash key) rs) n 0 ≡ text_hash key d → ⊥) → list_any (is_own_address d) (take (suc n) rs) ≡ list_any (is_own_address d) (take (last (suc n)) rs)
    there later e =
        let one : n + 1 ≡ suc n = omega arith in
        let none = other_address key d r (λ same. e (hash_at n (Address []) (omega (arith, within)) ∙ same)) in
        ap (λ k. list_any (is_own_address d) (take k rs)) (sym one)
        ∙ ap (list_any (is_own_address d)) (take_more rs n (Address []) (omega (arith, within)))
        ∙ list_any-append (is_own_address d) (take n rs) (r ∷ [])
        ∙ ap (λ t. list_any (is_own_address d) (take n rs) || (t || false)) none
        ∙ or_false (list_any (is_own_address d) (take n rs))
        ∙ later
        ∙ ap (λ k. list_any (is_own_address d) (take k rs)) (sym (last_under-else (map (domain_hash key) rs) (text_hash key d) n e))

  -- what the record of a word adds
  pub exchange_more : (word : ℕ) (r : MxRecord) → 0 < word → word ≤ length rs → r ≡ get_or rs (word - 1) r
      → filter_map (own_exchange d) (take word rs) ≡ filter_map (own_exchange d) (take (word - 1) rs) ++ cons_option (own_exchange d r) []
  exchange_more word r some within is =
      let one : word ≡ word - 1 + 1 = omega (arith, some) in
      ap (λ k. filter_map (own_exchange d) (take k rs)) one
      ∙ ap (filter_map (own_exchange d)) (take_more rs (word - 1) r (omega (arith, some, within)))
      ∙ ap (λ (x : MxRecord). filter_map (own_exchange d) (take (word - 1) rs ++ x ∷ [])) (sym is)
      ∙ filter_map-append (own_exchange d) (take (word - 1) rs) (r ∷ [])

  pub address_more : (word : ℕ) (r : MxRecord) → 0 < word → word ≤ length rs → r ≡ get_or rs (word - 1) r
      → list_any (is_own_address d) (take word rs) ≡ (list_any (is_own_address d) (take (word - 1) rs) || (is_own_address d r || false))
  address_more word r some within is =
      let one : word ≡ word - 1 + 1 = omega (arith, some) in
      ap (λ k. list_any (is_own_address d) (take k rs)) one
      ∙ ap (list_any (is_own_address d)) (take_more rs (word - 1) r (omega (arith, some, within)))
      ∙ ap (λ (x : MxRecord). list_any (is_own_address d) (take (word - 1) rs ++ x ∷ [])) (sym is)
      ∙ list_any-append (is_own_address d) (take (word - 1) rs) (r ∷ [])

-- Where a look-up of the domain stands: at a word of the records under its hash, or behind them all.
module _ (key : ℕ) (d : List ℕ) (rs : List MxRecord) (links : List ℕ) (hashed : links ≡ map (domain_hash key) rs) where
  abbrev under : ℕ → ℕ
  under n = last_under links (text_hash key d) n

  count : length links ≡ length rs
  count = ap length hashed ∙ length-map rs (domain_hash key)

  -- at the newest record
  pub starts_within : (hash word : ℕ) → hash ≡ text_hash key d → word ≡ last_under links hash (length links) → (word ≤ length links) × (under word ≡ word)
  starts_within hash word is newest =
      let here : word ≡ under (length links) = newest ∙ ap (λ h. last_under links h (length links)) is in (
        omega (arith, here, last_under_le links (text_hash key d) (length links)),
        ap under here ∙ last_under-last_under links (text_hash key d) (length links) ∙ sym here,
      )

  pub exchanges_at_start : (hash word : ℕ) → hash ≡ text_hash key d → word ≡ last_under links hash (length links) → filter_map (own_exchange d) (take word rs) ≡ filter_map (own_exchange d) rs
  exchanges_at_start hash word is newest =
      ap (λ k. filter_map (own_exchange d) (take k rs)) (newest ∙ ap (λ h. last_under links h (length links)) is ∙ ap (λ hs. last_under hs (text_hash key d) (length links)) hashed ∙ ap (last key d rs) count)
      ∙ sym (exchanges_up_to key d rs (length rs) (omega arith))
      ∙ ap (filter_map (own_exchange d)) (take-length rs)

  pub addresses_at_start : (hash word : ℕ) → hash ≡ text_hash key d → word ≡ last_under links hash (length links) → list_any (is_own_address d) (take word rs) ≡ list_any (is_own_address d) rs
  addresses_at_start hash word is newest =
      ap (λ k. list_any (is_own_address d) (take k rs)) (newest ∙ ap (λ h. last_under links h (length links)) is ∙ ap (λ hs. last_under hs (text_hash key d) (length links)) hashed ∙ ap (last key d rs) count)
      ∙ sym (addresses_up_to key d rs (length rs) (omega arith))
      ∙ ap (list_any (is_own_address d)) (take-length rs)

  -- from a record to the one before
  module _ (word next : ℕ) (some : 0 < word) (within : word ≤ length links) (here : under word ≡ word) (before : next ≡ last_under links (get_or links (word - 1) 0) (word - 1)) where
    pub hash_here : get_or links (word - 1) 0 ≡ text_hash key d
    hash_here =
        let one : suc (word - 1) ≡ word = omega (arith, some) in
        hash_of_last links (text_hash key d) (word - 1) (ap under one ∙ here ∙ sym one)

    next_is : next ≡ under (word - 1)
    next_is = before ∙ ap (λ h. last_under links h (word - 1)) hash_here

    pub next_smaller : next < word
    next_smaller = omega (arith, some, next_is, last_under_le links (text_hash key d) (word - 1))

    pub next_within : (next ≤ length links) × (under next ≡ next)
    next_within = (omega (arith, within, next_smaller), ap under next_is ∙ last_under-last_under links (text_hash key d) (word - 1) ∙ sym next_is)

    next_last : next ≡ last key d rs (word - 1)
    next_last = next_is ∙ ap (λ hs. last_under hs (text_hash key d) (word - 1)) hashed

    pub exchanges_from : (r : MxRecord) → r ≡ get_or rs (word - 1) r → filter_map (own_exchange d) (take word rs) ≡ filter_map (own_exchange d) (take next rs) ++ cons_option (own_exchange d r) []
    exchanges_from r is =
        exchange_more key d rs word r some (omega (arith, within, count)) is
        ∙ ap (λ es. es ++ cons_option (own_exchange d r) []) (exchanges_up_to key d rs (word - 1) (omega (arith, within, count)) ∙ ap (λ k. filter_map (own_exchange d) (take k rs)) (sym next_last))

    pub addresses_from : (r : MxRecord) → r ≡ get_or rs (word - 1) r → list_any (is_own_address d) (take word rs) ≡ (list_any (is_own_address d) (take next rs) || (is_own_address d r || false))
    addresses_from r is =
        address_more key d rs word r some (omega (arith, within, count)) is
        ∙ ap (λ t. t || (is_own_address d r || false)) (addresses_up_to key d rs (word - 1) (omega (arith, within, count)) ∙ ap (λ k. list_any (is_own_address d) (take k rs)) (sym next_last))

pub address_here : (before own : Bool) → own ≡ true → true ≡ (before || (own || false))
address_here true own is = refl
address_here false own is = rw is refl

pub no_address_here : (before own : Bool) → own ≡ false → before ≡ (before || (own || false))
no_address_here true own is = refl
no_address_here false own is = rw is refl

-- one more exchanger in front of those that were found, the last of which was found first
pub found_more : (before found whole : List Exchange) (o : Option Exchange) (e : Exchange) → o ≡ Some e → (before ++ cons_option o []) ++ reverse found ≡ whole → before ++ reverse (found ++ e ∷ []) ≡ whole
found_more before found whole o e is h =
    ap (λ es. before ++ es) (reverse-append found (e ∷ []))
    ∙ sym (append_assoc before (e ∷ []) (reverse found))
    ∙ ap (λ o. (before ++ cons_option o []) ++ reverse found) (sym is)
    ∙ h

pub found_none : (before found whole : List Exchange) (o : Option Exchange) → o ≡ None → (before ++ cons_option o []) ++ found ≡ whole → before ++ found ≡ whole
found_none before found whole o is h = ap (λ es. es ++ found) (sym (append-nil before)) ∙ ap (λ o. (before ++ cons_option o []) ++ found) (sym is) ∙ h

pub map-reverse : {X Y : Type 0} (f : X → Y) (xs : List X) → map f (reverse xs) ≡ reverse (map f xs)
map-reverse f [] = refl
map-reverse f (x ∷ xs) =
    ap (map f) (reverse-append (x ∷ []) xs) ∙ map_push f (reverse xs) x ∙ ap (λ l. l ++ f x ∷ []) (map-reverse f xs)
    ∙ sym (reverse-append (f x ∷ []) (map f xs))

-- A domain's own exchangers, and whether it has an address.
pub own_exchangers : (d : List ℕ) (rs : List MxRecord) → filter_map (own_exchange d) rs ≡ filter (λ e. bytes_eq e.domain d) (filter_map exchange_in rs)
own_exchangers d [] = refl
own_exchangers d (Mx e ∷ rs) = at (bytes_eq e.domain d) (own_exchangers d rs) where
  at : (t : Bool) → filter_map (own_exchange d) rs ≡ filter (λ x. bytes_eq x.domain d) (filter_map exchange_in rs)
      → cons_option (cond t (Some e) None) (filter_map (own_exchange d) rs) ≡ cond t (e ∷ filter (λ x. bytes_eq x.domain d) (filter_map exchange_in rs)) (filter (λ x. bytes_eq x.domain d) (filter_map exchange_in rs))
  at true later = ap (λ t. e ∷ t) later
  at false later = later
own_exchangers d (Address a ∷ rs) = own_exchangers d rs

pub own_addresses : (d : List ℕ) (rs : List MxRecord) → list_any (is_own_address d) rs ≡ has_text (filter_map address_in rs) d
own_addresses d [] = refl
own_addresses d (Mx e ∷ rs) = own_addresses d rs
own_addresses d (Address a ∷ rs) = ap (λ t. t || list_any (is_own_address d) rs) (bytes_eq_swap a d) ∙ ap (λ t. bytes_eq d a || t) (own_addresses d rs)
