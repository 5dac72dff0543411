-- Which hosts a table answers for a domain.
use Rattle.std.proofs.Common.{◌≡◌, ℕ, ◌<◌, Bool, true, false, not, ◌&&◌, cond, ltb, List, [], ◌∷◌, length, Bor, refl, sym, ap, ◌∙◌, filter, arith, Option, Some, None, Ok, Err}
use Rattle.std.specs.List.{list_all}
use Rattle.std.specs.Str.{bytes_eq}
use Rattle.std.proofs.lemmas.Bool.Decides.{nat_tests}
use Rattle.std.proofs.lemmas.List.Elements.{filter_agree}
use Rattle.relay_text.specs.Bytes.{has_text}
use Rattle.relay_routes.specs.declared.exchange.Exchange.{Exchange}
use Rattle.relay_routes.specs.declared.unrouted.Unrouted.TheVariants.{MxSelf, NullMx}
use Rattle.relay_routes.specs.MxLines.{MxLines}
use Rattle.relay_routes.specs.Exchanges.{is_null, exchangers, is_before_relay, in_preference_order, some_hosts, hosts_before_relay, hosts_of}
use Rattle.relay_routes.specs.Preferences.{exchanges_of, is_within, with_own, least_own, least_own_from}
use Rattle.relay_routes.proofs.Runs.{exchanges-filter}

-- a look-up, once the domain's exchangers and whether it has an address are known
pub hosts_from : (table : MxLines) (domain : List ℕ) (own_names : List (List ℕ)) (seed : ℕ) (es : List Exchange) (has_address : Bool)
    → es ≡ filter (λ e. bytes_eq e.domain domain) table.exchanges → has_text table.addresses domain ≡ has_address
    → hosts_of table domain own_names seed ≡ hosts_before_relay (exchangers es has_address domain) own_names seed
unfolding hosts_of
hosts_from table domain own_names seed es has_address found has =
    ap (λ xs. hosts_before_relay (exchangers xs (has_text table.addresses domain) domain) own_names seed) (sym found)
    ∙ ap (λ b. hosts_before_relay (exchangers es b domain) own_names seed) has

-- ---- null exchangers
abbrev pub is_live : Exchange → Bool
is_live e = not (is_null e)

all_null : (es : List Exchange) → length (filter is_live es) ≡ 0 → list_all is_null es ≡ true
all_null [] h = refl
all_null (e ∷ es) h = at (is_null e) h (all_null es) where
  at : (t : Bool) → length (cond (not t) (e ∷ filter is_live es) (filter is_live es)) ≡ 0 → (length (filter is_live es) ≡ 0 → list_all is_null es ≡ true) → (t && list_all is_null es) ≡ true
  at true none later = later none
  at false none later = absurd (omega arith)

some_not_null : (es : List Exchange) → 0 < length (filter is_live es) → list_all is_null es ≡ false
some_not_null [] h = absurd (omega arith)
some_not_null (e ∷ es) h = at (is_null e) h (some_not_null es) where
  at : (t : Bool) → 0 < length (cond (not t) (e ∷ filter is_live es) (filter is_live es)) → (0 < length (filter is_live es) → list_all is_null es ≡ false) → (t && list_all is_null es) ≡ false
  at true some later = later some
  at false some later = refl

-- all exchangers are null, or some are left
pub none_but_null : (es : List Exchange) → 0 < length es → length (filter is_live es) ≡ 0 → (domain : List ℕ) (has_address : Bool) → exchangers es has_address domain ≡ Err NullMx
none_but_null [] some none domain has_address = absurd (omega arith)
none_but_null (e ∷ es) some none domain has_address = ap (λ t. cond t (Err NullMx) (Ok (filter is_live (e ∷ es)))) (all_null (e ∷ es) none)

pub without_null_left : (es : List Exchange) → 0 < length (filter is_live es) → (domain : List ℕ) (has_address : Bool) → exchangers es has_address domain ≡ Ok (filter is_live es)
without_null_left [] some domain has_address = absurd (omega arith)
without_null_left (e ∷ es) some domain has_address = ap (λ t. cond t (Err NullMx) (Ok (filter is_live (e ∷ es)))) (some_not_null (e ∷ es) some)

-- ---- the relay's own preference
within_own : (own_names : List (List ℕ)) (least : Option ℕ) (e : Exchange) (p : ℕ) (rest : Bool)
    → (is_within (with_own own_names least e) p && rest) ≡ (is_within least p && cond (has_text own_names e.host) (ltb p e.preference && rest) rest)
within_own own_names least e p rest = at (has_text own_names e.host) least where
  number : (l q : ℕ) → (is_within (cond (ltb q l) (Some q) (Some l)) p && rest) ≡ (ltb p l && (ltb p q && rest))
  number l q = by_test (ltb q l) refl (ltb p l) refl (ltb p q) refl where
    by_test : (a : Bool) → ltb q l ≡ a → (b : Bool) → ltb p l ≡ b → (t : Bool) → ltb p q ≡ t → (is_within (cond a (Some q) (Some l)) p && rest) ≡ (b && (t && rest))
    by_test true f true g true h = ap (λ s. s && rest) h
    by_test true f true g false h = ap (λ s. s && rest) h
    by_test true f false g true h = absurd (grind (arith, nat_tests))
    by_test true f false g false h = ap (λ s. s && rest) h
    by_test false f true g true h = ap (λ s. s && rest) g
    by_test false f true g false h = absurd (grind (arith, nat_tests))
    by_test false f false g t h = ap (λ s. s && rest) g

  at : (t : Bool) (l : Option ℕ) → (is_within (cond (t && is_within l e.preference) (Some e.preference) l) p && rest) ≡ (is_within l p && cond t (ltb p e.preference && rest) rest)
  at false l = refl
  at true None = refl
  at true (Some l) = number l e.preference

pub within_least : (own_names : List (List ℕ)) (least : Option ℕ) (es : List Exchange) (p : ℕ)
    → is_within (least_own_from own_names least es) p ≡ (is_within least p && list_all (λ own. ltb p own.preference) (filter (λ x. has_text own_names x.host) es))
within_least own_names least [] p = at (is_within least p) where
  at : (t : Bool) → t ≡ (t && true)
  at true = refl
  at false = refl
within_least own_names least (e ∷ es) p =
    let ahead = λ (xs : List Exchange). list_all (λ (own : Exchange). ltb p own.preference) xs in
    within_least own_names (with_own own_names least e) es p
    ∙ within_own own_names least e p (ahead (filter (λ x. has_text own_names x.host) es))
    ∙ ap (λ t. is_within least p && t) (at (has_text own_names e.host)) where
      at : (t : Bool) → cond t (ltb p e.preference && list_all (λ (own : Exchange). ltb p own.preference) (filter (λ x. has_text own_names x.host) es)) (list_all (λ (own : Exchange). ltb p own.preference) (filter (λ x. has_text own_names x.host) es))
          ≡ list_all (λ (own : Exchange). ltb p own.preference) (cond t (e ∷ filter (λ x. has_text own_names x.host) es) (filter (λ x. has_text own_names x.host) es))
      at true = refl
      at false = refl

-- The exchangers within the least own preference are those before the relay.
pub kept_before_relay : (own_names : List (List ℕ)) (rs : List (Bor Exchange))
    → exchanges_of (filter (λ r. is_within (least_own own_names (exchanges_of rs)) r.now.preference) rs) ≡ filter (is_before_relay own_names (exchanges_of rs)) (exchanges_of rs)
kept_before_relay own_names rs =
    sym (exchanges-filter (λ e. is_within (least_own own_names (exchanges_of rs)) e.preference) rs)
    ∙ filter_agree (λ e. is_within (least_own own_names (exchanges_of rs)) e.preference) (is_before_relay own_names (exchanges_of rs))
    (λ e. within_least own_names None (exchanges_of rs) e.preference) (exchanges_of rs)

-- ---- what is answered
pub no_hosts : (hosts : List (List ℕ)) → length hosts ≡ 0 → some_hosts hosts ≡ Err MxSelf
no_hosts [] h = refl
no_hosts (host ∷ hosts) h = absurd (omega arith)

pub hosts_left : (hosts : List (List ℕ)) → 0 < length hosts → some_hosts hosts ≡ Ok hosts
hosts_left [] h = absurd (omega arith)
hosts_left (host ∷ hosts) h = refl

-- the hosts of exchangers of which some aren't null
pub hosts_of_some : (es kept : List Exchange) (hosts : List (List ℕ)) (own_names : List (List ℕ)) (seed : ℕ) → 0 < length (filter is_live es)
    → kept ≡ filter (is_before_relay own_names (filter is_live es)) (filter is_live es) → hosts ≡ in_preference_order seed kept
    → (domain : List ℕ) (has_address : Bool) → hosts_before_relay (exchangers es has_address domain) own_names seed ≡ some_hosts hosts
hosts_of_some es kept hosts own_names seed some k h domain has_address =
    ap (λ found. hosts_before_relay found own_names seed) (without_null_left es some domain has_address)
    ∙ ap (λ xs. some_hosts (in_preference_order seed xs)) (sym k) ∙ ap some_hosts (sym h)
