-- Items that are addresses: what a name's reading and an address's reading say of them.
use Rattle.std.proofs.Common.{◌≡◌, ◌≢◌, Bool, true, false, not, ◌||◌, ℕ, List, [], ◌∷◌, refl, sym, ap, ◌∙◌, ◌⊎◌, inl, inr, subst, Some, None, Ok, Err, Result, Option}
use Rattle.std.specs.Prelude.{option_map}
use Rattle.std.specs.Result.{result_ok}
use Rattle.relay_text.specs.AddressParts.{AddressParts}
use Rattle.relay_text.specs.Addresses.{Check, LocalCut, checked, local_checks, local_cut, local_of, Spelled, spelled_of, spelled_domain, is_empty, is_bad_domain, is_local_too_long, is_domain_too_long, spelling_of, at_origin, address_of, name_of, result_map, Fails}
use Rattle.relay_text.specs.declared.fault.TextFault.{TextFault}
use Rattle.relay_text.specs.declared.fault.TextFault.TheVariants.{Empty, BadByte, BadQuote, BadDomain, TooLong}
use Rattle.relay_text.proofs.Faults.{local_check, checked-front_err, checked-front_ok}
use Rattle.relay_aliasfile.specs.Items.{spelled_item, address_item}
use Rattle.relay_aliasfile.specs.declared.item.Item.{Item}
use Rattle.relay_aliasfile.specs.declared.item.Item.TheVariants.{Bare, Full}

-- once the checks of a local part are passed, what a name and an address spell
abbrev name_end : Bool → List ℕ → List ℕ → Result (List ℕ) TextFault
name_end long local rest = checked {A = List ℕ} ((not (is_empty rest), BadDomain) ∷ (long, TooLong) ∷ []) local

abbrev spelling_end : Bool → List ℕ → List ℕ → Result Spelled TextFault
spelling_end long local rest = checked {A = Spelled} ((is_bad_domain (spelled_domain rest), BadDomain) ∷ (long || is_domain_too_long local (spelled_domain rest), TooLong) ∷ []) (record { local = local; domain = spelled_domain rest })

abbrev item_from : Result Spelled TextFault → Option Item
item_from r = option_map spelled_item (result_ok r)

abbrev name_checks : LocalCut → List Check
name_checks cut = (not (is_empty cut.rest), BadDomain) ∷ (is_local_too_long (local_of cut), TooLong) ∷ []

abbrev spelling_checks : LocalCut → List Check
spelling_checks cut = (is_bad_domain (spelled_domain cut.rest), BadDomain) ∷ (is_local_too_long (local_of cut) || is_domain_too_long (local_of cut) (spelled_domain cut.rest), TooLong) ∷ []

name-more : (text : List ℕ) → local_check (local_cut text) ≡ Ok tt → name_of text ≡ name_end (is_local_too_long (local_of (local_cut text))) (local_of (local_cut text)) (local_cut text).rest
unfolding name_of
name-more text h = checked-front_ok (local_checks (local_cut text)) (name_checks (local_cut text)) (local_of (local_cut text)) h

name-fault : (text : List ℕ) (fault : TextFault) → local_check (local_cut text) ≡ Err fault → name_of text ≡ Err fault
unfolding name_of
name-fault text fault h = checked-front_err (local_checks (local_cut text)) (name_checks (local_cut text)) (local_of (local_cut text)) fault h

spelling-more : (text : List ℕ) → local_check (local_cut text) ≡ Ok tt → spelling_of text ≡ spelling_end (is_local_too_long (local_of (local_cut text))) (local_of (local_cut text)) (local_cut text).rest
unfolding spelling_of
spelling-more text h = checked-front_ok (local_checks (local_cut text)) (spelling_checks (local_cut text)) (spelled_of text) h

spelling-fault : (text : List ℕ) (fault : TextFault) → local_check (local_cut text) ≡ Err fault → spelling_of text ≡ Err fault
unfolding spelling_of
spelling-fault text fault h = checked-front_err (local_checks (local_cut text)) (spelling_checks (local_cut text)) (spelled_of text) fault h

named : (long : Bool) (local rest got : List ℕ) → name_end long local rest ≡ Ok got → item_from (spelling_end long local rest) ≡ Some (Bare got)
named true local [] got h = cc
named false local [] got h = cc
named long local (x ∷ xs) got h = cc

faulty : (long : Bool) (local rest : List ℕ) (fault : TextFault) → (fault ≡ BadDomain → ⊥) → name_end long local rest ≡ Err fault → item_from (spelling_end long local rest) ≡ None
faulty true local [] fault other h = refl
faulty false local [] fault other h = cc
faulty long local (x ∷ xs) fault other h = absurd (other cc)

full : (long bad longer : Bool) (local domain origin : List ℕ) (a : AddressParts)
    → result_map (at_origin origin) (checked {A = Spelled} ((bad, BadDomain) ∷ (long || longer, TooLong) ∷ []) (record { local = local; domain = Some domain })) ≡ Ok a
    → item_from (checked {A = Spelled} ((bad, BadDomain) ∷ (long || longer, TooLong) ∷ []) (record { local = local; domain = Some domain })) ≡ Some (Full a)
full long true longer local domain origin a h = cc
full true false longer local domain origin a h = cc
full false false true local domain origin a h = cc
full false false false local domain origin a h = cc

addressed : (long : Bool) (local rest origin : List ℕ) (a : AddressParts) → name_end long local rest ≡ Err BadDomain
    → result_map (at_origin origin) (spelling_end long local rest) ≡ Ok a → item_from (spelling_end long local rest) ≡ Some (Full a)
addressed true local [] origin a h g = cc
addressed false local [] origin a h g = cc
addressed long local (x ∷ xs) origin a h g = full long (is_bad_domain (spelled_domain (x ∷ xs))) (is_domain_too_long local (spelled_domain (x ∷ xs))) local _ origin a g

-- a name is a bare item
pub address_item-name : (text local : List ℕ) → name_of text ≡ Ok local → address_item text ≡ Some (Bare local)
address_item-name text local h = at (local_check (local_cut text)) refl where
  at : (found : Result (Unit {0}) TextFault) → local_check (local_cut text) ≡ found → address_item text ≡ Some (Bare local)
  at (Ok u) e = ap item_from (spelling-more text e) ∙ named _ _ _ local (sym (name-more text e) ∙ h)
  at (Err fault) e = let k = name-fault text fault e in cc

-- what has a fault, other than that a domain follows, is no address
pub address_item-fault : (text : List ℕ) (fault : TextFault) → (fault ≡ BadDomain → ⊥) → name_of text ≡ Err fault → address_item text ≡ None
address_item-fault text fault other h = at (local_check (local_cut text)) refl where
  at : (found : Result (Unit {0}) TextFault) → local_check (local_cut text) ≡ found → address_item text ≡ None
  at (Ok u) e = ap item_from (spelling-more text e) ∙ faulty _ _ _ fault other (sym (name-more text e) ∙ h)
  at (Err g) e = ap item_from (spelling-fault text g e)

pub address_item-no_name : (text : List ℕ) (fault : TextFault) → name_of text ≢ Err BadDomain → name_of text ≡ Err fault → address_item text ≡ None
address_item-no_name text fault other h = address_item-fault text fault (λ e. other (h ∙ ap (λ f. Err f) e)) h

-- an address with a domain is a full item, whatever the origin
pub address_item-address : (origin text : List ℕ) (a : AddressParts) → name_of text ≡ Err BadDomain → address_of origin text ≡ Ok a → address_item text ≡ Some (Full a)
address_item-address origin text a h g = at (local_check (local_cut text)) refl where
  at : (found : Result (Unit {0}) TextFault) → local_check (local_cut text) ≡ found → address_item text ≡ Some (Full a)
  at (Ok u) e = ap item_from (spelling-more text e) ∙ addressed _ _ _ origin a (sym (name-more text e) ∙ h) (ap (result_map (at_origin origin)) (sym (spelling-more text e)) ∙ g)
  at (Err fault) e = let k = ap (result_map (at_origin origin)) (spelling-fault text fault e) in cc

-- a fault of a name other than that a domain follows
pub address_item-unnamed : (text : List ℕ) (fault : TextFault) → (fault ≡ Empty) ⊎ ((fault ≡ BadByte) ⊎ ((fault ≡ BadQuote) ⊎ (fault ≡ TooLong))) → Fails fault (name_of text) → None ≡ address_item text
address_item-unnamed text fault (inl e) h = sym (address_item-fault text Empty (λ k. cc) (subst (λ (f : TextFault). Fails f (name_of text)) e h))
address_item-unnamed text fault (inr (inl e)) h = sym (address_item-fault text BadByte (λ k. cc) (subst (λ (f : TextFault). Fails f (name_of text)) e h))
address_item-unnamed text fault (inr (inr (inl e))) h = sym (address_item-fault text BadQuote (λ k. cc) (subst (λ (f : TextFault). Fails f (name_of text)) e h))
address_item-unnamed text fault (inr (inr (inr e))) h = sym (address_item-fault text TooLong (λ k. cc) (subst (λ (f : TextFault). Fails f (name_of text)) e h))
