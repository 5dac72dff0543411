-- A relay's own names count by which names are among them.
use Rattle.std.proofs.Common.{◌≡◌, Bool, cond, List, [], ◌∷◌, ℕ, filter, refl, ap, ◌∙◌}
use Rattle.std.specs.Prelude.{Result, Ok, Err, nat_lt}
use Rattle.std.specs.List.{list_all}
use Rattle.std.specs.Str.{bytes_eq}
use Rattle.relay_text.specs.Bytes.{has_text}
use Rattle.relay_routes.specs.declared.exchange.Exchange.{Exchange}
use Rattle.relay_routes.specs.declared.unrouted.Unrouted.{Unrouted}
use Rattle.relay_routes.specs.MxLines.{MxLines}
use Rattle.relay_routes.specs.Exchanges.{hosts_of, hosts_before_relay, exchangers, is_before_relay, some_hosts, in_preference_order}

pub filter-same : {X : Type 0} (p q : X → Bool) → ((x : X) → p x ≡ q x) → (xs : List X) → filter p xs ≡ filter q xs
filter-same p q same [] = refl
filter-same p q same (x ∷ xs) = ap (λ t. cond t (x ∷ filter p xs) (filter p xs)) (same x) ∙ ap (λ rest. cond (q x) (x ∷ rest) rest) (filter-same p q same xs)

before_relay-same : (a b : List (List ℕ)) → ((q : List ℕ) → has_text a q ≡ has_text b q) → (all es : List Exchange) → filter (is_before_relay a all) es ≡ filter (is_before_relay b all) es
before_relay-same a b same all es =
    filter-same (is_before_relay a all) (is_before_relay b all) (λ e. ap (list_all (λ own. nat_lt e.preference own.preference)) (filter-same (λ x. has_text a x.host) (λ x. has_text b x.host) (λ x. same x.host) all)) es

-- Two lists with the same names give the same hosts.
pub hosts_of-same : (table : MxLines) (domain : List ℕ) (a b : List (List ℕ)) (seed : ℕ) → ((q : List ℕ) → has_text a q ≡ has_text b q) → hosts_of table domain a seed ≡ hosts_of table domain b seed
unfolding hosts_of
hosts_of-same table domain a b seed same = at (exchangers (filter (λ e. bytes_eq e.domain domain) table.exchanges) (has_text table.addresses domain) domain) where
  at : (found : Result (List Exchange) Unrouted) → hosts_before_relay found a seed ≡ hosts_before_relay found b seed
  at (Err reason) = refl
  at (Ok es) = ap (λ kept. some_hosts (in_preference_order seed kept)) (before_relay-same a b same es es)
