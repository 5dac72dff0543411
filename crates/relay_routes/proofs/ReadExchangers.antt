-- A domain's exchangers as they are read line by line, and the table's.
use Rattle.std.proofs.Common.{◌≡◌, ℕ, Bool, true, false, ◌&&◌, ◌||◌, cond, List, [], ◌∷◌, ◌++◌, map, filter, codes, Option, Some, None, refl, sym, ap, ◌∙◌}
use Rattle.std.specs.Prelude.{filter_map, is_some, option_and_then, option_to_list}
use Rattle.std.specs.List.{slice_get, cons_option}
use Rattle.std.specs.Str.{bytes_eq}
use Rattle.std.proofs.lemmas.Bool.{true≢false, and_parts}
use Rattle.std.proofs.lemmas.List.{append-nil, append_assoc}
use Rattle.std.proofs.lemmas.Slice.Eq.{bytes_eq-Decides}
use Rattle.relay_text.specs.Bytes.{first_of, folded, has_text, is_word}
use Rattle.relay_text.specs.Numbers.{number_within}
use Rattle.relay_text.specs.Addresses.{is_domain_name}
use Rattle.relay_text.specs.declared.lines.Line.{Line}
use Rattle.relay_routes.specs.declared.exchange.Exchange.{Exchange}
use Rattle.relay_routes.specs.declared.mx_record.MxRecord.{MxRecord}
use Rattle.relay_routes.specs.declared.mx_record.MxRecord.TheVariants.{Mx, Address}
use Rattle.relay_routes.specs.declared.exchanger_fates.Numbered.{Numbered}
use Rattle.relay_routes.specs.Exchanges.{fields_of, record_of, record_in, exchange_of, exchange_in, address_in, is_exchange_host, null_host}
use Rattle.relay_routes.specs.ExchangerLines.{address_line_in, address_on, exchanger_in, exchanger_on, exchangers_on, first_address, is_of, HasRead}
use Rattle.relay_routes.proofs.Folding.{is_domain_name-folded}
use Rattle.relay_routes.proofs.MxLookups.{bytes_eq_swap}

none_first : (o : Option ℕ) → first_of (None ∷ o ∷ []) ≡ o
none_first None = refl
none_first (Some n) = refl

first_alone : (o : Option ℕ) → o ≡ first_of (o ∷ [])
first_alone None = refl
first_alone (Some n) = refl

first_before_none : (o : Option ℕ) → o ≡ first_of (o ∷ None ∷ [])
first_before_none None = refl
first_before_none (Some n) = refl

first_in_turn : (a b c : Option ℕ) → first_of (first_of (a ∷ b ∷ []) ∷ c ∷ []) ≡ first_of (a ∷ first_of (b ∷ c ∷ []) ∷ [])
first_in_turn (Some n) b c = refl
first_in_turn None (Some n) c = refl
first_in_turn None None None = refl
first_in_turn None None (Some n) = refl

first_kept : (o : Option ℕ) (ns : List ℕ) → slice_get (cons_option o ns) 0 ≡ first_of (o ∷ slice_get ns 0 ∷ [])
first_kept (Some n) ns = refl
first_kept None ns = first_alone (slice_get ns 0)

kept_first : (test : Numbered → Bool) (o : Option Numbered) (ns : List Numbered) → filter test (cons_option o ns) ≡ filter test (option_to_list o) ++ filter test ns
kept_first test None ns = refl
kept_first test (Some n) ns = at (test n) where
  at : (t : Bool) → cond t (n ∷ filter test ns) (filter test ns) ≡ cond t (n ∷ []) [] ++ filter test ns
  at true = refl
  at false = refl

-- ---- line by line
pub read_none : (domain : List ℕ) (lines : List Line) → HasRead domain lines lines [] None
read_none domain lines = record { exchangers_are = refl; address_is = none_first (first_address domain lines) }

-- a line that is a record, and one that is none
pub read_record : (domain : List ℕ) (lines rest : List Line) (l : Line) (r : MxRecord) (exchangers more : List Numbered) (address next : Option ℕ) → record_in l ≡ Some r
    → more ≡ exchangers ++ filter (is_of domain) (option_to_list (exchanger_in l.number r)) → next ≡ first_of (address ∷ address_line_in domain l.number r ∷ [])
    → HasRead domain lines (l ∷ rest) exchangers address → HasRead domain lines rest more next
read_record domain lines rest l r exchangers more address next is made found was = record {
  exchangers_are =
      ap (λ (ns : List Numbered). ns ++ exchangers_on domain rest) made
      ∙ append_assoc exchangers (filter (is_of domain) (option_to_list (exchanger_in l.number r))) (exchangers_on domain rest)
      ∙ ap (λ (ns : List Numbered). exchangers ++ ns) (sym (kept_first (is_of domain) (exchanger_in l.number r) (filter_map exchanger_on rest)))
      ∙ ap (λ (o : Option MxRecord). exchangers ++ filter (is_of domain) (cons_option (option_and_then (exchanger_in l.number) o) (filter_map exchanger_on rest))) (sym is)
      ∙ was.exchangers_are;
  address_is =
      ap (λ (o : Option ℕ). first_of (o ∷ first_address domain rest ∷ [])) found
      ∙ first_in_turn address (address_line_in domain l.number r) (first_address domain rest)
      ∙ ap (λ (o : Option ℕ). first_of (address ∷ o ∷ [])) (sym (first_kept (address_line_in domain l.number r) (filter_map (address_on domain) rest)))
      ∙ ap (λ (o : Option MxRecord). first_of (address ∷ slice_get (cons_option (option_and_then (address_line_in domain l.number) o) (filter_map (address_on domain) rest)) 0 ∷ [])) (sym is)
      ∙ was.address_is;
}

pub read_other : (domain : List ℕ) (lines rest : List Line) (l : Line) (exchangers : List Numbered) (address : Option ℕ) → record_in l ≡ None
    → HasRead domain lines (l ∷ rest) exchangers address → HasRead domain lines rest exchangers address
read_other domain lines rest l exchangers address is was = record {
  exchangers_are =
      ap (λ (o : Option MxRecord). exchangers ++ filter (is_of domain) (cons_option (option_and_then (exchanger_in l.number) o) (filter_map exchanger_on rest))) (sym is)
      ∙ was.exchangers_are;
  address_is =
      ap (λ (o : Option MxRecord). first_of (address ∷ slice_get (cons_option (option_and_then (address_line_in domain l.number) o) (filter_map (address_on domain) rest)) 0 ∷ [])) (sym is)
      ∙ was.address_is;
}

pub read_exchangers : (domain : List ℕ) (lines : List Line) (exchangers : List Numbered) (address : Option ℕ) → HasRead domain lines [] exchangers address → exchangers ≡ exchangers_on domain lines
read_exchangers domain lines exchangers address was = sym (append-nil exchangers) ∙ was.exchangers_are

pub read_address : (domain : List ℕ) (lines : List Line) (exchangers : List Numbered) (address : Option ℕ) → HasRead domain lines [] exchangers address → address ≡ first_address domain lines
read_address domain lines exchangers address was = first_before_none address ∙ was.address_is

-- ---- the table's
abbrev pub exchange_at : Numbered → Exchange
exchange_at n = n.exchange

one_kept : (t : Bool) (n : Numbered) (ns : List Numbered) (es : List Exchange) → map exchange_at ns ≡ es → map exchange_at (cond t (n ∷ ns) ns) ≡ cond t (n.exchange ∷ es) es
one_kept true n ns es later = ap (λ (xs : List Exchange). n.exchange ∷ xs) later
one_kept false n ns es later = later

pub exchanges_on : (domain : List ℕ) (lines : List Line) → map exchange_at (exchangers_on domain lines) ≡ filter (λ (e : Exchange). bytes_eq e.domain domain) (filter_map exchange_in (filter_map record_in lines))
exchanges_on domain [] = refl
exchanges_on domain (l ∷ ls) = at (record_in l) (exchanges_on domain ls) where
  at : (o : Option MxRecord) → map exchange_at (exchangers_on domain ls) ≡ filter (λ (e : Exchange). bytes_eq e.domain domain) (filter_map exchange_in (filter_map record_in ls))
      → map exchange_at (filter (is_of domain) (cons_option (option_and_then (exchanger_in l.number) o) (filter_map exchanger_on ls)))
      ≡ filter (λ (e : Exchange). bytes_eq e.domain domain) (filter_map exchange_in (cons_option o (filter_map record_in ls)))
  at None later = later
  at (Some (Address a)) later = later
  at (Some (Mx e)) later = one_kept (bytes_eq e.domain domain) _ _ _ later

one_address : (t : Bool) (number : ℕ) (numbers : List ℕ) (has : Bool) → has ≡ is_some (slice_get numbers 0) → (t || has) ≡ is_some (slice_get (cons_option (cond t (Some number) None) numbers) 0)
one_address true number numbers has later = refl
one_address false number numbers has later = later

pub has_address_on : (domain : List ℕ) (lines : List Line) → has_text (filter_map address_in (filter_map record_in lines)) domain ≡ is_some (first_address domain lines)
has_address_on domain [] = refl
has_address_on domain (l ∷ ls) = at (record_in l) (has_address_on domain ls) where
  at : (o : Option MxRecord) → has_text (filter_map address_in (filter_map record_in ls)) domain ≡ is_some (first_address domain ls)
      → has_text (filter_map address_in (cons_option o (filter_map record_in ls))) domain ≡ is_some (slice_get (cons_option (option_and_then (address_line_in domain l.number) o) (filter_map (address_on domain) ls)) 0)
  at None later = later
  at (Some (Mx e)) later = later
  at (Some (Address a)) later =
      ap (λ t. t || has_text (filter_map address_in (filter_map record_in ls)) domain) (bytes_eq_swap domain a)
      ∙ one_address (bytes_eq a domain) l.number (filter_map (address_on domain) ls) _ later

-- ---- A domain that has an address by a table is a name, and so none of the null MX's.
name_not_null : (name : List ℕ) → is_domain_name name ≡ true → bytes_eq (folded name) null_host ≡ false
name_not_null name h = at (bytes_eq (folded name) null_host) refl where
  at : (t : Bool) → bytes_eq (folded name) null_host ≡ t → t ≡ false
  at true e = absurd (true≢false (sym h ∙ sym (is_domain_name-folded name) ∙ ap is_domain_name ((bytes_eq-Decides (folded name) null_host).0 e)))
  at false e = refl

no_address : (a : List ℕ) (e : Exchange) (t : Bool) → cond t (Some (Mx e)) None ≡ Some (Address a) → ⊥
no_address a e true is = cc
no_address a e false is = cc

exchange_no_address : (domain host : List ℕ) (o : Option ℕ) (a : List ℕ) → exchange_of domain host o ≡ Some (Address a) → ⊥
exchange_no_address domain host None a is = cc
exchange_no_address domain host (Some preference) a is = no_address a _ (is_domain_name domain && is_exchange_host preference host) is

record_is_named : (fields : List (List ℕ)) (a : List ℕ) → record_of fields ≡ Some (Address a) → bytes_eq a null_host ≡ false
record_is_named [] a is = absurd (let no : ⊥ = cc in no)
record_is_named (domain ∷ []) a is = absurd (let no : ⊥ = cc in no)
record_is_named (domain ∷ word ∷ []) a is = at (is_word (codes "a") word && is_domain_name domain) refl is where
  at : (t : Bool) → (is_word (codes "a") word && is_domain_name domain) ≡ t → cond t (Some (Address (folded domain))) None ≡ Some (Address a) → bytes_eq a null_host ≡ false
  at true named same =
      let folds : folded domain ≡ a = cc in
      ap (λ x. bytes_eq x null_host) (sym folds) ∙ name_not_null domain (and_parts (is_word (codes "a") word) (is_domain_name domain) named).1
  at false named same = absurd (let no : ⊥ = cc in no)
record_is_named (domain ∷ word ∷ number ∷ []) a is = absurd (let no : ⊥ = cc in no)
record_is_named (domain ∷ word ∷ number ∷ host ∷ []) a is = at (is_word (codes "mx") word) is where
  at : (t : Bool) → cond t (exchange_of domain host (number_within 0 65535 number)) None ≡ Some (Address a) → bytes_eq a null_host ≡ false
  at true same = absurd (exchange_no_address domain host (number_within 0 65535 number) a same)
  at false same = absurd (let no : ⊥ = cc in no)
record_is_named (domain ∷ word ∷ number ∷ host ∷ more ∷ rest) a is = absurd (let no : ⊥ = cc in no)

pub address_not_null : (domain : List ℕ) (lines : List Line) → is_some (first_address domain lines) ≡ true → bytes_eq domain null_host ≡ false
address_not_null domain [] has = absurd (true≢false (sym has))
address_not_null domain (l ∷ ls) has = at (record_in l) refl has (address_not_null domain ls) where
  by_test : (a : List ℕ) → record_in l ≡ Some (Address a) → (t : Bool) → bytes_eq a domain ≡ t → is_some (slice_get (cons_option (cond t (Some l.number) None) (filter_map (address_on domain) ls)) 0) ≡ true
      → (is_some (first_address domain ls) ≡ true → bytes_eq domain null_host ≡ false) → bytes_eq domain null_host ≡ false
  by_test a is true e found later = ap (λ x. bytes_eq x null_host) (sym ((bytes_eq-Decides a domain).0 e)) ∙ record_is_named (fields_of l.text) a is
  by_test a is false e found later = later found

  at : (o : Option MxRecord) → record_in l ≡ o → is_some (slice_get (cons_option (option_and_then (address_line_in domain l.number) o) (filter_map (address_on domain) ls)) 0) ≡ true
      → (is_some (first_address domain ls) ≡ true → bytes_eq domain null_host ≡ false) → bytes_eq domain null_host ≡ false
  at None is found later = later found
  at (Some (Mx e)) is found later = later found
  at (Some (Address a)) is found later = by_test a is (bytes_eq a domain) refl found later
