-- Mail exchangers by their preferences, as they are sorted and cut into runs.
use Rattle.std.specs.Prelude.{◌≡◌, ℕ, ◌<◌, ◌≤◌, Bool, true, ◌&&◌, nat_lt, List, [], ◌∷◌, ◌++◌, map, length, Option, Some, None, IfSome, ⊤, if◌then◌else◌}
use Rattle.std.specs.Borrow.{Bor}
use Rattle.std.specs.Str.{bytes_eq}
use Rattle.relay_text.specs.Bytes.{has_text, firsts}
use Rattle.relay_routes.specs.declared.exchange.Exchange.{Exchange}
use Rattle.relay_routes.specs.Exchanges.{in_preference_order, rotated}

-- the exchangers that references point to
abbrev pub exchanges_of : List (Bor Exchange) → List Exchange
exchanges_of references = map (λ r. r.now) references

-- whether a preference comes before a limit, if there is one
abbrev pub is_within : Option ℕ → ℕ → Bool
is_within None preference = true
is_within (Some limit) preference = nat_lt preference limit

-- the least preference so far, and that of one more exchanger where the relay is one
abbrev pub with_own : List (List ℕ) → Option ℕ → Exchange → Option ℕ
with_own own_names least e = if has_text own_names e.host && is_within least e.preference then Some e.preference else least

abbrev pub least_own_from : List (List ℕ) → Option ℕ → List Exchange → Option ℕ
least_own_from own_names least [] = least
least_own_from own_names least (e ∷ es) = least_own_from own_names (with_own own_names least e) es

-- the least preference at which the relay itself is an exchanger
abbrev pub least_own : List (List ℕ) → List Exchange → Option ℕ
least_own own_names es = least_own_from own_names None es

-- one more host, where it isn't there already
abbrev pub with_host : List (List ℕ) → List ℕ → List (List ℕ)
with_host hosts host = if has_text hosts host then hosts else hosts ++ host ∷ []

abbrev pub with_hosts : List (List ℕ) → List (List ℕ) → List (List ℕ)
with_hosts hosts [] = hosts
with_hosts hosts (host ∷ more) = with_hosts (with_host hosts host) more

-- a set of texts, if there is one, has the hosts and no other
abbrev pub HasSeen : Option (List (List ℕ)) → List (List ℕ) → Type 0
HasSeen seen hosts = IfSome seen (λ texts. (q : List ℕ) → has_text texts q ≡ has_text hosts q)

-- numbers none of which is below one before it
abbrev pub AtLeast : ℕ → List ℕ → Type 0
AtLeast low [] = ⊤
AtLeast low (n ∷ ns) = (low ≤ n) × AtLeast low ns

abbrev pub IsRising : List ℕ → Type 0
IsRising [] = ⊤
IsRising (n ∷ ns) = AtLeast n ns × IsRising ns

-- Exchangers in rising preference begin with a run of the least one, whose hosts are tried before those of the later ones.
pub record IsFirstRun (es run later : List Exchange) : Type 0 where
  pub order : (seed : ℕ) → in_preference_order seed es ≡ rotated seed (firsts bytes_eq (map (λ e. e.host) run)) ++ in_preference_order seed later
  pub rising : IsRising (map (λ e. e.preference) later)
  pub some : 0 < length run
  pub fewer : length later < length es
