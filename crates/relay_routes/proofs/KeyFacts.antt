-- What a table gives at the first of several keys.
use Rattle.std.proofs.Common.{◌≡◌, ◌≢◌, ℕ, ◌+◌, ◌<◌, ◌≤◌, ◌==◌, ◌||◌, Bool, true, false, cond, List, [], ◌∷◌, ◌++◌, length, take, drop, get_or, map, filter, refl, sym, ap, ◌∙◌, codes, append_assoc, drop-cons, add-one, eq-eqb, ne_eqb}
use Rattle.std.specs.Prelude.{Option, Some, None, option_map}
use Rattle.std.specs.List.{enumerate_from}
use Rattle.std.specs.Str.{bytes_eq}
use Rattle.std.proofs.lemmas.Bool.{true≢false}
use Rattle.std.proofs.lemmas.List.Folds.{list_any-append}
use Rattle.std.proofs.lemmas.Slice.Eq.{bytes_eq-Decides}
use Rattle.std.proofs.lemmas.List.{drop-drop, drop_all}
use Rattle.relay_text.specs.Bytes.{first_of, folded}
use Rattle.relay_text.specs.AddressParts.{AddressParts}
use Rattle.relay_text.specs.Addresses.{is_dot, is_literal, base_of, split_place_of, local_text_of}
use Rattle.relay_routes.specs.declared.transport_line.TransportLine.{TransportLine}
use Rattle.relay_routes.specs.Transports.{address_key, result_at, found_result, parent_keys, base_keys, keys_of}
use Rattle.relay_routes.specs.TableSteps.{domain_keys, later_keys, dot_ends, has_at, has_address}

pub found_first : (es : List TransportLine) (key : List ℕ) (keys : List (List ℕ)) (r : List ℕ) → Some r ≡ result_at es key → Some r ≡ found_result es (key ∷ keys)
found_first es key keys r h = ap (λ o. first_of (o ∷ map (result_at es) keys)) h

pub found_next : (es : List TransportLine) (key : List ℕ) (keys : List (List ℕ)) → None ≡ result_at es key → found_result es keys ≡ found_result es (key ∷ keys)
found_next es key keys h = ap (λ o. first_of (o ∷ map (result_at es) keys)) h

-- no key has a result in a table without entries
pub found_nothing : (keys : List (List ℕ)) → None ≡ found_result [] keys
found_nothing [] = refl
found_nothing (key ∷ keys) = found_nothing keys

pub found_front : (es : List TransportLine) (xs ys : List (List ℕ)) (r : List ℕ) → Some r ≡ found_result es xs → Some r ≡ found_result es (xs ++ ys)
found_front es [] ys r h = absurd (let bad : ⊥ = cc in bad)
found_front es (x ∷ xs) ys r h = at (result_at es x) (found_front es xs ys r) h where
  at : (o : Option (List ℕ)) → (Some r ≡ found_result es xs → Some r ≡ found_result es (xs ++ ys)) → Some r ≡ first_of (o ∷ map (result_at es) xs) → Some r ≡ first_of (o ∷ map (result_at es) (xs ++ ys))
  at None more h = more h
  at (Some s) more h = h

pub found_behind : (es : List TransportLine) (xs ys : List (List ℕ)) → None ≡ found_result es xs → found_result es ys ≡ found_result es (xs ++ ys)
found_behind es [] ys h = refl
found_behind es (x ∷ xs) ys h = at (result_at es x) (found_behind es xs ys) h where
  at : (o : Option (List ℕ)) → (None ≡ found_result es xs → found_result es ys ≡ found_result es (xs ++ ys)) → None ≡ first_of (o ∷ map (result_at es) xs) → found_result es ys ≡ first_of (o ∷ map (result_at es) (xs ++ ys))
  at None more h = more h
  at (Some s) more h = absurd (let bad : ⊥ = cc in bad)

-- The keys of an address are the whole address and the later ones.
pub keys_later : (a : AddressParts) (delimiter : Option ℕ) → keys_of a delimiter ≡ address_key a.local a.domain ∷ later_keys a delimiter
keys_later a delimiter = ap (λ keys. address_key a.local a.domain ∷ keys) (append_assoc (base_keys a (base_of a.local delimiter)) (a.domain ∷ parent_keys a.domain) (codes "*" ∷ []))

-- The later keys begin with the address without its extension, where it has one.
pub later_unsplit : (a : AddressParts) (delimiter : Option ℕ) → None ≡ split_place_of a.local delimiter → domain_keys a.domain ≡ later_keys a delimiter
later_unsplit a delimiter h = ap (λ o. base_keys a (option_map (λ place. take place a.local) o) ++ domain_keys a.domain) h

pub later_split : (a : AddressParts) (delimiter : Option ℕ) (place : ℕ) → Some place ≡ split_place_of a.local delimiter → address_key (take place a.local) a.domain ∷ domain_keys a.domain ≡ later_keys a delimiter
later_split a delimiter place h = ap (λ o. base_keys a (option_map (λ place. take place a.local) o) ++ domain_keys a.domain) h

-- The parents of a domain name are the ends that begin at its dots.
parents_from : (whole xs : List ℕ) (i : ℕ) → drop i whole ≡ xs → map (λ p. drop p.0 whole) (filter (λ (p : ℕ × ℕ). is_dot p.1) (enumerate_from i xs)) ≡ dot_ends xs
parents_from whole [] i h = refl
parents_from whole (b ∷ bs) i h = at (is_dot b) (parents_from whole bs (i + 1) (sym (drop-drop 1 i whole) ∙ ap (drop 1) h)) where
  at : (t : Bool) → map (λ p. drop p.0 whole) (filter (λ (p : ℕ × ℕ). is_dot p.1) (enumerate_from (i + 1) bs)) ≡ dot_ends bs
      → map (λ (p : ℕ × ℕ). drop p.0 whole) (cond t ((i, b) ∷ filter (λ (p : ℕ × ℕ). is_dot p.1) (enumerate_from (i + 1) bs)) (filter (λ (p : ℕ × ℕ). is_dot p.1) (enumerate_from (i + 1) bs))) ≡ cond t ((b ∷ bs) ∷ dot_ends bs) (dot_ends bs)
  at true later = ap (λ x. x ∷ map (λ (p : ℕ × ℕ). drop p.0 whole) (filter (λ (p : ℕ × ℕ). is_dot p.1) (enumerate_from (i + 1) bs))) h ∙ ap (λ rest. (b ∷ bs) ∷ rest) later
  at false later = later

pub parents_named : (domain : List ℕ) → is_literal domain ≡ false → dot_ends domain ≡ parent_keys domain
parents_named domain h =
    sym (parents_from domain domain 0 refl)
    ∙ sym (ap (λ t. cond t [] (map (λ (p : ℕ × ℕ). drop p.0 domain) (filter (λ (p : ℕ × ℕ). is_dot p.1) (enumerate_from 0 domain)))) h)

pub parents_literal : (domain : List ℕ) → is_literal domain ≡ true → [] ≡ parent_keys domain
parents_literal domain h = sym (ap (λ t. cond t [] (map (λ (p : ℕ × ℕ). drop p.0 domain) (filter (λ (p : ℕ × ℕ). is_dot p.1) (enumerate_from 0 domain)))) h)

-- the ends that begin at a place or behind it
pub ends_at : (domain : List ℕ) (place : ℕ) → place < length domain → (let b = get_or domain place 0 in dot_ends (drop place domain) ≡ cond (is_dot b) (drop place domain ∷ dot_ends (drop (place + 1) domain)) (dot_ends (drop (place + 1) domain)))
ends_at domain place inside =
    let cut : drop place domain ≡ get_or domain place 0 ∷ drop (place + 1) domain = rw (add-one, drop-cons domain place 0) refl in
    ap dot_ends cut ∙ ap (λ ys. cond (is_dot (get_or domain place 0)) (ys ∷ dot_ends (drop (place + 1) domain)) (dot_ends (drop (place + 1) domain))) (sym cut)

pub ends_at_dot : (domain : List ℕ) (place : ℕ) → place < length domain → get_or domain place 0 ≡ 46 → drop place domain ∷ dot_ends (drop (place + 1) domain) ≡ dot_ends (drop place domain)
ends_at_dot domain place inside dot =
    sym (ends_at domain place inside ∙ ap (λ t. cond t (drop place domain ∷ dot_ends (drop (place + 1) domain)) (dot_ends (drop (place + 1) domain))) (eq-eqb _ 46 dot))

pub ends_elsewhere : (domain : List ℕ) (place : ℕ) → place < length domain → get_or domain place 0 ≢ 46 → dot_ends (drop (place + 1) domain) ≡ dot_ends (drop place domain)
ends_elsewhere domain place inside apart =
    sym (ends_at domain place inside ∙ ap (λ t. cond t (drop place domain ∷ dot_ends (drop (place + 1) domain)) (dot_ends (drop (place + 1) domain))) (ne_eqb _ 46 apart))

-- Behind the last place no end is left.
pub ends_done : (es : List TransportLine) (domain : List ℕ) (place : ℕ) → length domain ≤ place → None ≡ found_result es (dot_ends (drop place domain))
ends_done es domain place none = ap (λ (t : List ℕ). found_result es (dot_ends t)) (sym (drop_all place domain none))

-- what stands for a domain: itself, a parent, or `*`
pub found_parent : (es : List TransportLine) (domain : List ℕ) (r : List ℕ) → None ≡ result_at es domain → Some r ≡ found_result es (parent_keys domain) → Some r ≡ found_result es (domain_keys domain)
found_parent es domain r none h = found_front es (parent_keys domain) (codes "*" ∷ []) r h ∙ found_next es domain (parent_keys domain ++ codes "*" ∷ []) none

star_alone : (es : List TransportLine) → result_at es (codes "*") ≡ found_result es (codes "*" ∷ [])
star_alone es = at (result_at es (codes "*")) where
  at : (o : Option (List ℕ)) → o ≡ first_of (o ∷ [])
  at None = refl
  at (Some r) = refl

pub found_star : (es : List TransportLine) (domain : List ℕ) → None ≡ result_at es domain → None ≡ found_result es (parent_keys domain) → result_at es (codes "*") ≡ found_result es (domain_keys domain)
found_star es domain none no_parent = star_alone es ∙ found_behind es (parent_keys domain) (codes "*" ∷ []) no_parent ∙ found_next es domain (parent_keys domain ++ codes "*" ∷ []) none

pub found_at_address : (es : List TransportLine) (a : AddressParts) (delimiter : Option ℕ) (r : List ℕ) → Some r ≡ result_at es (address_key a.local a.domain) → Some r ≡ found_result es (keys_of a delimiter)
found_at_address es a delimiter r h = found_first es (address_key a.local a.domain) (later_keys a delimiter) r h ∙ ap (found_result es) (sym (keys_later a delimiter))

pub found_past_address : (es : List TransportLine) (a : AddressParts) (delimiter : Option ℕ) → None ≡ result_at es (address_key a.local a.domain) → found_result es (later_keys a delimiter) ≡ found_result es (keys_of a delimiter)
found_past_address es a delimiter none = found_next es (address_key a.local a.domain) (later_keys a delimiter) none ∙ ap (found_result es) (sym (keys_later a delimiter))

-- ---- a table without an `@`
either_true : (x : Bool) → (x || true) ≡ true
either_true true = refl
either_true false = refl

key_has_at : (local domain : List ℕ) → has_at (address_key local domain) ≡ true
key_has_at local domain =
    let name = local_text_of (folded local) in
    list_any-append (λ (b : ℕ). b == 64) (name ++ codes "@") (folded domain)
    ∙ ap (λ t. t || has_at (folded domain)) (list_any-append (λ (b : ℕ). b == 64) name (codes "@") ∙ either_true (has_at name))

-- no entry stands at a key that has an `@`, where no pattern has one
pub missing_at : (es : List TransportLine) (key : List ℕ) → has_address es ≡ false → has_at key ≡ true → None ≡ result_at es key
missing_at [] key none there = refl
missing_at (e ∷ es) key none there = at (has_at e.pattern) refl (bytes_eq e.pattern key) refl none (λ rest. missing_at es key rest there) where
  at : (h : Bool) → has_at e.pattern ≡ h → (t : Bool) → bytes_eq e.pattern key ≡ t → (h || has_address es) ≡ false → (has_address es ≡ false → None ≡ result_at es key) → None ≡ result_at (e ∷ es) key
  at true is t same none rest = absurd (true≢false none)
  at false is true same none rest = absurd (true≢false (sym there ∙ ap has_at (sym ((bytes_eq-Decides e.pattern key).0 same)) ∙ is))
  at false is false same none rest = rw same (rest none)

-- so only the domain's keys are looked for
pub keys_of_domain : (es : List TransportLine) (a : AddressParts) (delimiter : Option ℕ) → has_address es ≡ false → found_result es (domain_keys a.domain) ≡ found_result es (keys_of a delimiter)
keys_of_domain es a delimiter none =
    later (base_of a.local delimiter)
    ∙ found_next es (address_key a.local a.domain) (later_keys a delimiter) (missing_at es (address_key a.local a.domain) none (key_has_at a.local a.domain))
    ∙ ap (found_result es) (sym (keys_later a delimiter))
  where
    later : (o : Option (List ℕ)) → found_result es (domain_keys a.domain) ≡ found_result es (base_keys a o ++ domain_keys a.domain)
    later None = refl
    later (Some base) = found_next es (address_key base a.domain) (domain_keys a.domain) (missing_at es (address_key base a.domain) none (key_has_at base a.domain))

-- one more entry
pub address_more : (es : List TransportLine) (e : TransportLine) → (has_address es || has_at e.pattern) ≡ has_address (es ++ e ∷ [])
address_more es e = sym (list_any-append (λ (e : TransportLine). has_at e.pattern) es (e ∷ []) ∙ ap (λ b. has_address es || b) (or_false (has_at e.pattern))) where
  or_false : (x : Bool) → (x || false) ≡ x
  or_false true = refl
  or_false false = refl
