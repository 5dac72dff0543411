-- A key has a number just where it stands in the list.
use Rattle.std.proofs.Common.{◌≡◌, ◌≢◌, ℕ, ◌+◌, ◌<◌, Bool, true, false, nat_eq, ◌==◌, if◌then◌else◌, Option, Some, None, Result, Ok, Err, take, slice_get, List, [], ◌∷◌, ◌++◌, length, get_or, arith, sym, refl, ap, ◌∙◌, subst, ⊎_elim, true≢false}
use Rattle.std.specs.Prelude.{IsTrue, IfOk, Contains, AllPairs, not, ◌↔◌}
use Rattle.std.specs.List.{position_or_len}
use Rattle.std.specs.Option.{is_some}
use Rattle.std.specs.Result.{is_err}
use Rattle.std.proofs.lemmas.Bool.{cases_lt, lt-ltb, cond-true, not-true}
use Rattle.std.proofs.lemmas.Bool.Decides.{Decides-eqb}
use Rattle.std.proofs.lemmas.Option.{none-some, slice_get_within, get_or_from_slice_get}
use Rattle.std.proofs.lemmas.List.{take_more, length-take, get_or-take}
use Rattle.std.proofs.lemmas.List.Quantifiers.{position-Some}
use Rattle.std.proofs.lemmas.List.Sums.{prefix_len_passes}
use Rattle.relay_chains.specs.Keys.{number_of, Insertion, insertion, insertion_at, Inserts}
use Rattle.relay_chains.specs.declared.fault.ChainFault.{ChainFault}
use Rattle.relay_chains.specs.declared.fault.ChainFault.TheVariants.{Full}
use Rattle.relay_rounds.specs.Shards.{is_there, Inserted}

-- the first place is no later than any
no_later : (key : ℕ) (xs : List ℕ) → Contains xs key → position_or_len (nat_eq key) xs < length xs
no_later key xs on =
    ⊎_elim
    (λ low. low)
    (λ high.
    let here : nat_eq key (get_or xs on.0 key) ≡ true = (Decides-eqb key (get_or xs on.0 key)).1 (sym on.2) in
    let other : not (nat_eq key (get_or xs on.0 key)) ≡ true = prefix_len_passes (λ x. not (nat_eq key x)) xs on.0 key (let below : on.0 < length xs = on.1 in omega arith) in
    absurd (true≢false (sym here ∙ not-true _ other)))
    (cases_lt (position_or_len (nat_eq key) xs) (length xs))

pub some_where : (key : ℕ) (xs : List ℕ) (o : Option ℕ) → number_of nat_eq xs key ≡ o → IsTrue (is_some o) ↔ Contains xs key
some_where key xs None e = (
  (λ t. absurd (true≢false (sym t))),
  (λ on. absurd (none-some (position_or_len (nat_eq key) xs) (sym e ∙ cond-true _ _ _ (lt-ltb _ _ (no_later key xs on))))),
)
some_where key xs (Some i) e = (
  (λ _. let at = position-Some (nat_eq key) xs i key e in (i, at.0, sym ((Decides-eqb key (get_or xs i key)).0 at.1))),
  (λ _. refl),
)

pub has_number : (xs : List ℕ) (key : ℕ) → IsTrue (is_there xs key) ↔ Contains xs key
has_number xs key = some_where key xs (number_of nat_eq xs key) refl

pub alike : (a b : Bool) → (IsTrue a → IsTrue b) → (IsTrue b → IsTrue a) → a ≡ b
alike true true f g = refl
alike true false f g = sym (f refl)
alike false true f g = g refl
alike false false f g = refl

-- two lists that hold a key alike
pub there_alike : (xs ys : List ℕ) (key : ℕ) → Contains xs key ↔ Contains ys key → is_there xs key ≡ is_there ys key
there_alike xs ys key e = let a = has_number xs key in let b = has_number ys key in
    alike (is_there xs key) (is_there ys key) (λ t. b.1 (e.0 (a.0 t))) (λ t. a.1 (e.1 (b.0 t)))

nowhere_none : (o : Option ℕ) → (IsTrue (is_some o) → ⊥) → o ≡ None
nowhere_none None none = refl
nowhere_none (Some i) none = absurd (none refl)

pub no_number : (xs : List ℕ) (key : ℕ) → (Contains xs key → ⊥) → number_of nat_eq xs key ≡ None
no_number xs key none = nowhere_none (number_of nat_eq xs key) (λ t. none ((has_number xs key).0 t))

put_last : (keys : List ℕ) (key : ℕ) (found : ℕ × Bool) (new : List ℕ) (full : Bool)
    → Inserts (if◌then◌else◌ {A = Insertion ℕ} full (record { answer = Err Full; keys = keys }) (record { answer = Ok (length keys, true); keys = keys ++ key ∷ [] })) keys (Ok found) new
    → new ≡ keys ++ key ∷ []
put_last keys key found new true done = absurd (cc)
put_last keys key found new false done = done.1

-- a key that was not there was put last
pub inserted : (keys : List ℕ) (limit key : ℕ) (answer : Result (ℕ × Bool) ChainFault) (new : List ℕ) → (Contains keys key → ⊥) → is_err answer ≡ false
    → Inserts (insertion nat_eq keys limit key) keys answer new → new ≡ keys ++ key ∷ []
inserted keys limit key (Ok found) new none fine done =
    put_last keys key found new (length keys == limit)
    (subst (λ (o : Option ℕ). Inserts (insertion_at nat_eq o keys limit key) keys (Ok found) new) (no_number keys key none) done)
inserted keys limit key (Err fault) new none fine done = absurd (true≢false fine)

flag : Result (ℕ × Bool) ChainFault → Bool
flag (Ok found) = found.1
flag (Err fault) = false

put_new : (keys : List ℕ) (key : ℕ) (found : ℕ × Bool) (new : List ℕ) (full : Bool) → (Contains keys key → ⊥)
    → Inserts (if◌then◌else◌ {A = Insertion ℕ} full (record { answer = Err Full; keys = keys }) (record { answer = Ok (length keys, true); keys = keys ++ key ∷ [] })) keys (Ok found) new
    → Inserted keys key found.1 new
unfolding flag
put_new keys key found new true none done = absurd (cc)
put_new keys key found new false none done = subst (λ (b : Bool). Inserted keys key b new) (ap flag done.0) (none, done.1)

found_or_put : (keys : List ℕ) (limit key : ℕ) (found : ℕ × Bool) (new : List ℕ) (o : Option ℕ) → number_of nat_eq keys key ≡ o
    → Inserts (insertion_at nat_eq o keys limit key) keys (Ok found) new → Inserted keys key found.1 new
unfolding flag
found_or_put keys limit key found new None is done =
    put_new keys key found new (length keys == limit) (λ on. true≢false (sym ((some_where key keys None is).1 on))) done
found_or_put keys limit key found new (Some i) is done =
    subst (λ (b : Bool). Inserted keys key b new) (ap flag done.0) ((some_where key keys (Some i) is).0 refl, done.1)

-- a key was there, or was put last
pub put_once : (keys : List ℕ) (limit key : ℕ) (answer : Result (ℕ × Bool) ChainFault) (new : List ℕ)
    → Inserts (insertion nat_eq keys limit key) keys answer new → IfOk answer (λ found. Inserted keys key found.1 new)
put_once keys limit key (Ok found) new done = found_or_put keys limit key found new (number_of nat_eq keys key) refl done
put_once keys limit key (Err fault) new done = tt

-- the key at a place is not among those before it
pub not_before : (keys : List ℕ) (n key : ℕ) → AllPairs (λ a b. a ≢ b) keys → slice_get keys n ≡ Some key → Contains (take n keys) key → ⊥
not_before keys n key distinct at on =
    let below = slice_get_within keys n key at in
    let here : get_or keys n key ≡ key = get_or_from_slice_get keys n key key at in
    let size = length-take n keys in
    let low : on.0 < n = (let early : on.0 < length (take n keys) = on.1 in omega arith) in
    distinct on.0 n key low below (sym (get_or-take n keys on.0 key low) ∙ on.2 ∙ sym here)

-- one more key was put into a copy
pub copied_more : (keys copy new : List ℕ) (limit n key : ℕ) (answer : Result (ℕ × Bool) ChainFault) → AllPairs (λ a b. a ≢ b) keys → slice_get keys n ≡ Some key → copy ≡ take n keys
    → is_err answer ≡ false → Inserts (insertion nat_eq copy limit key) copy answer new → new ≡ take (n + 1) keys
copied_more keys copy new limit n key answer distinct at is fine done =
    let below = slice_get_within keys n key at in
    let none : Contains copy key → ⊥ = λ on. not_before keys n key distinct at (subst (λ (xs : List ℕ). Contains xs key) is on) in
    inserted copy limit key answer new none fine done ∙ ap (λ (xs : List ℕ). xs ++ key ∷ []) is
    ∙ ap (λ (k : ℕ). take n keys ++ k ∷ []) (sym (get_or_from_slice_get keys n key key at)) ∙ sym (take_more keys n key below)

number : Result (ℕ × Bool) ChainFault → ℕ
number (Ok found) = found.0
number (Err fault) = 0

not_put : (keys : List ℕ) (key : ℕ) (found : ℕ × Bool) (new : List ℕ) (full : Bool)
    → Inserts (if◌then◌else◌ {A = Insertion ℕ} full (record { answer = Err Full; keys = keys }) (record { answer = Ok (length keys, true); keys = keys ++ key ∷ [] })) keys (Ok found) new
    → found.1 ≡ false → ⊥
unfolding flag
not_put keys key found new true done old = absurd (cc)
not_put keys key found new false done old = true≢false (ap flag done.0 ∙ old)

found_by : (keys : List ℕ) (limit key : ℕ) (found : ℕ × Bool) (new : List ℕ) (o : Option ℕ) → number_of nat_eq keys key ≡ o
    → Inserts (insertion_at nat_eq o keys limit key) keys (Ok found) new → found.1 ≡ false → (found.0 < length keys) × (get_or keys found.0 0 ≡ key) × (new ≡ keys)
unfolding number
found_by keys limit key found new None is done old = absurd (not_put keys key found new (length keys == limit) done old)
found_by keys limit key found new (Some i) is done old =
    let at = position-Some (nat_eq key) keys i 0 is in
    let e : i ≡ found.0 = ap number done.0 in
    (subst (λ (n : ℕ). n < length keys) e at.0, ap (λ (n : ℕ). get_or keys n 0) (sym e) ∙ sym ((Decides-eqb key (get_or keys i 0)).0 at.1), done.1)

-- the place of a key that was there
pub found_at : (keys : List ℕ) (limit key : ℕ) (found : ℕ × Bool) (new : List ℕ) → Inserts (insertion nat_eq keys limit key) keys (Ok found) new → found.1 ≡ false
    → (found.0 < length keys) × (get_or keys found.0 0 ≡ key) × (new ≡ keys)
found_at keys limit key found new done old = found_by keys limit key found new (number_of nat_eq keys key) refl done old
