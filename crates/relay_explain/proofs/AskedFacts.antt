-- What a text asks for, by what its reading as an address and as a name say.
use Rattle.std.proofs.Common.{◌≡◌, ◌≢◌, Bool, true, false, not, ◌||◌, ℕ, List, [], ◌∷◌, refl, sym, ap, ◌∙◌, Some, Ok, Err, Result}
use Rattle.relay_text.specs.AddressParts.{AddressParts}
use Rattle.relay_text.specs.Addresses.{Answers, Check, LocalCut, checked, local_checks, local_cut, local_of, Spelled, spelled_of, spelled_domain, is_empty, is_bad_domain, is_local_too_long, is_domain_too_long, spelling_of, at_origin, address_of, name_of, result_map}
use Rattle.relay_text.specs.declared.fault.TextFault.{TextFault}
use Rattle.relay_text.specs.declared.fault.TextFault.TheVariants.{Empty, BadByte, BadQuote, BadDomain, TooLong, Memory}
use Rattle.relay_text.proofs.Faults.{local_check, checked-front_ok, address-local_fault}
use Rattle.relay_explain.specs.declared.asked.Asked.TheVariants as asked
use Rattle.relay_explain.specs.AskedTexts.{asked_as, no_domain}

abbrev name_checks : LocalCut → List Check
name_checks cut = (not (is_empty cut.rest), BadDomain) ∷ (is_local_too_long (local_of cut), TooLong) ∷ []

abbrev spelling_checks : LocalCut → List Check
spelling_checks cut = (is_bad_domain (spelled_domain cut.rest), BadDomain) ∷ (is_local_too_long (local_of cut) || is_domain_too_long (local_of cut) (spelled_domain cut.rest), TooLong) ∷ []

-- once the checks of a local part are passed, what a name and an address spell
abbrev name_end : Bool → List ℕ → List ℕ → Result (List ℕ) TextFault
name_end long local rest = checked {A = List ℕ} ((not (is_empty rest), BadDomain) ∷ (long, TooLong) ∷ []) local

abbrev spelling_end : Bool → List ℕ → List ℕ → Result Spelled TextFault
spelling_end long local rest = checked {A = Spelled} ((is_bad_domain (spelled_domain rest), BadDomain) ∷ (long || is_domain_too_long local (spelled_domain rest), TooLong) ∷ []) (record { local = local; domain = spelled_domain rest })

name-more : (text : List ℕ) → local_check (local_cut text) ≡ Ok tt → name_of text ≡ name_end (is_local_too_long (local_of (local_cut text))) (local_of (local_cut text)) (local_cut text).rest
unfolding name_of
name-more text h = checked-front_ok (local_checks (local_cut text)) (name_checks (local_cut text)) (local_of (local_cut text)) h

spelling-more : (text : List ℕ) → local_check (local_cut text) ≡ Ok tt → spelling_of text ≡ spelling_end (is_local_too_long (local_of (local_cut text))) (local_of (local_cut text)) (local_cut text).rest
unfolding spelling_of
spelling-more text h = checked-front_ok (local_checks (local_cut text)) (spelling_checks (local_cut text)) (spelled_of text) h

named : (long : Bool) (local rest got : List ℕ) (a : AddressParts) → name_end long local rest ≡ Ok got → result_map (at_origin no_domain) (spelling_end long local rest) ≡ Ok a → result_map asked_as (spelling_end long local rest) ≡ Ok (asked.Name a)
named true local [] got a h g = cc
named false local [] got a h g = cc
named long local (x ∷ xs) got a h g = cc

full : (long bad longer : Bool) (local domain : List ℕ) (a : AddressParts)
    → result_map (at_origin no_domain) (checked {A = Spelled} ((bad, BadDomain) ∷ (long || longer, TooLong) ∷ []) (record { local = local; domain = Some domain })) ≡ Ok a
    → result_map asked_as (checked {A = Spelled} ((bad, BadDomain) ∷ (long || longer, TooLong) ∷ []) (record { local = local; domain = Some domain })) ≡ Ok (asked.Address a)
full long true longer local domain a h = cc
full true false longer local domain a h = cc
full false false true local domain a h = cc
full false false false local domain a h = cc

unnamed : (long : Bool) (local rest : List ℕ) (fault : TextFault) (a : AddressParts) → name_end long local rest ≡ Err fault → result_map (at_origin no_domain) (spelling_end long local rest) ≡ Ok a → result_map asked_as (spelling_end long local rest) ≡ Ok (asked.Address a)
unnamed true local [] fault a h g = cc
unnamed false local [] fault a h g = cc
unnamed long local (x ∷ xs) fault a h g = full long (is_bad_domain (spelled_domain (x ∷ xs))) (is_domain_too_long local (spelled_domain (x ∷ xs))) local _ a g

-- an address that is read where no domain follows, and where one does
pub asked-name : (text local : List ℕ) (a : AddressParts) → address_of no_domain text ≡ Ok a → name_of text ≡ Ok local → result_map asked_as (spelling_of text) ≡ Ok (asked.Name a)
asked-name text local a h n = at (local_check (local_cut text)) refl where
  at : (found : Result (Unit {0}) TextFault) → local_check (local_cut text) ≡ found → result_map asked_as (spelling_of text) ≡ Ok (asked.Name a)
  at (Ok u) e =
      let spelled = spelling-more text e in
      ap (result_map asked_as) spelled ∙ named _ _ _ local a (sym (name-more text e) ∙ n) (sym (ap (result_map (at_origin no_domain)) spelled) ∙ h)
  at (Err fault) e = let k = address-local_fault no_domain text fault e in cc

asked-address : (text : List ℕ) (fault : TextFault) (a : AddressParts) → address_of no_domain text ≡ Ok a → name_of text ≡ Err fault → result_map asked_as (spelling_of text) ≡ Ok (asked.Address a)
asked-address text fault a h n = at (local_check (local_cut text)) refl where
  at : (found : Result (Unit {0}) TextFault) → local_check (local_cut text) ≡ found → result_map asked_as (spelling_of text) ≡ Ok (asked.Address a)
  at (Ok u) e =
      let spelled = spelling-more text e in
      ap (result_map asked_as) spelled ∙ unnamed _ _ _ fault a (sym (name-more text e) ∙ n) (sym (ap (result_map (at_origin no_domain)) spelled) ∙ h)
  at (Err other) e = let k = address-local_fault no_domain text other e in cc

-- where memory didn't run out, no name was read
pub asked-no_name : (text : List ℕ) (fault : TextFault) (a : AddressParts) → address_of no_domain text ≡ Ok a → fault ≢ Memory → Answers (Err fault) (name_of text) → result_map asked_as (spelling_of text) ≡ Ok (asked.Address a)
asked-no_name text Empty a h other n = asked-address text Empty a h n
asked-no_name text BadByte a h other n = asked-address text BadByte a h n
asked-no_name text BadQuote a h other n = asked-address text BadQuote a h n
asked-no_name text BadDomain a h other n = asked-address text BadDomain a h n
asked-no_name text TooLong a h other n = asked-address text TooLong a h n
asked-no_name text Memory a h other n = absurd (other refl)

-- what isn't read as an address asks for nothing
same_fault : (fault : TextFault) (r : Result Spelled TextFault) → result_map (at_origin no_domain) r ≡ Err fault → result_map asked_as r ≡ Err fault
same_fault fault (Ok s) h = cc
same_fault fault (Err other) h = cc

pub asked-fault : (text : List ℕ) (fault : TextFault) → Answers (Err fault) (address_of no_domain text) → Answers (Err fault) (result_map asked_as (spelling_of text))
asked-fault text Empty h = same_fault Empty (spelling_of text) h
asked-fault text BadByte h = same_fault BadByte (spelling_of text) h
asked-fault text BadQuote h = same_fault BadQuote (spelling_of text) h
asked-fault text BadDomain h = same_fault BadDomain (spelling_of text) h
asked-fault text TooLong h = same_fault TooLong (spelling_of text) h
asked-fault text Memory h = tt
