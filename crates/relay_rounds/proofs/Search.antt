-- What a round does for a search, and what a search without offers has found.
use Rattle.std.proofs.Common.{◌≡◌, ◌≢◌, ℕ, ◌+◌, ◌<◌, ◌≤◌, List, [], ◌∷◌, ◌++◌, length, get_or, drop, arith, ap, sym, ◌∙◌, refl, subst, inl, inr, ⊎_elim, Result, Ok, Err}
use Rattle.std.specs.Prelude.{All, AllPairs, Contains, flat_map, ◌⊎◌, ◌↔◌}
use Rattle.std.proofs.lemmas.List.{length-append, append-nil, drop_all, drop_more}
use Rattle.std.proofs.lemmas.List.Elements.{All-nil, All-cons, All-append, All-contains, Contains-append_left, Contains-append_right, Contains-append_cases, Contains-push, Contains-push_cases}
use Rattle.std.specs.List.Sorted.{IsStrictlyIncreasing}
use Rattle.relay_rounds.specs.declared.fault.ReachFault.{ReachFault}
use Rattle.relay_rounds.specs.Walks.{IsWalk}
use Rattle.relay_rounds.specs.Closures.{IsReachedKey, IsClosureOf, HasMoreReached}
use Rattle.relay_rounds.specs.Searches.{IsSearch, AreNewOf, Advances, GoesOn, IsMet, Settles, IsTooFar}
use Rattle.relay_rounds.specs.Shards.{AreBothOf}
use Rattle.relay_rounds.proofs.Keys.{nowhere, in_head, in_tail, cons_cases, present, in_flat_map, from_flat_map, all_of, distinct_both}
use Rattle.relay_rounds.proofs.Rising.{rising_of}
use Rattle.relay_rounds.proofs.Sharding.{both_len}

-- one more step at the end of a walk
one_more : {X : Type 0} (next : X → X → Type 0) (from : X) (path : List X) (to last : X) → IsWalk next from path to → next to last → IsWalk next from (path ++ last ∷ []) last
one_more next from [] to last walk step = (subst (λ x. next x last) (sym walk) step, refl)
one_more next from (x ∷ xs) to last walk step = (walk.0, one_more next x xs to last walk.1 step)

pub step_reached : (next : ℕ → List ℕ) (roots : List ℕ) (from to : ℕ) → IsReachedKey next roots from → Contains (next from) to → IsReachedKey next roots to
step_reached next roots from to r step = (r.0, r.1 ++ to ∷ [], r.2, one_more (λ (a : ℕ) (b : ℕ). Contains (next a) b) r.0 r.1 from to r.3 step)

pub root_reached : (next : ℕ → List ℕ) (roots : List ℕ) (key : ℕ) → Contains roots key → IsReachedKey next roots key
root_reached next roots key on = (key, [], on, refl)

-- before the first round the roots are offered
pub search_begins : (next : ℕ → List ℕ) (roots : List ℕ) → IsSearch next roots [] roots
search_begins next roots = record {
  distinct = λ i j d before below. absurd (omega arith);
  reached = all_of (IsReachedKey next roots) [] (λ key h. absurd (nowhere key h));
  offers = all_of (IsReachedKey next roots) roots (root_reached next roots);
  roots_met = λ key on. inr on;
  nexts_met = λ from to on step. absurd (nowhere from on);
}

module _ (next : ℕ → List ℕ) (roots settled offered new : List ℕ) (s : IsSearch next roots settled offered) (n : AreNewOf settled offered new) where
  -- what was met is settled after the round
  met : (key : ℕ) → Contains settled key ⊎ Contains offered key → Contains (settled ++ new) key
  met key h =
      ⊎_elim
      (λ on. Contains-append_left settled new key on)
      (λ off. ⊎_elim
      (λ on. Contains-append_left settled new key on)
      (λ not_yet. Contains-append_right settled new key ((n.members key).1 (off, not_yet)))
      (present settled key))
      h

  new_reached : All (IsReachedKey next roots) new
  new_reached = all_of (IsReachedKey next roots) new (λ key on. All-contains (IsReachedKey next roots) offered key s.offers ((n.members key).0 on).0)

  pub both_distinct : AllPairs (λ a b. a ≢ b) (settled ++ new)
  both_distinct = distinct_both settled new s.distinct n.distinct (λ key on off. ((n.members key).0 off).1 on)

  pub both_reached : All (IsReachedKey next roots) (settled ++ new)
  both_reached = All-append (IsReachedKey next roots) settled new s.reached new_reached

  -- the new keys are settled, and their next keys offered
  pub search_goes_on : IsSearch next roots (settled ++ new) (flat_map next new)
  search_goes_on = record {
    distinct = both_distinct;
    reached = both_reached;
    offers = all_of (IsReachedKey next roots) (flat_map next new) (λ key on.
        let w = from_flat_map next new key on in
        step_reached next roots w.0 key (All-contains (IsReachedKey next roots) new w.0 new_reached w.1) w.2);
    roots_met = λ key on. inl (met key (s.roots_met key on));
    nexts_met = λ from to on step. ⊎_elim
        (λ old. inl (met to (s.nexts_met from to old step)))
        (λ fresh. inr (in_flat_map next new from to fresh step))
        (Contains-append_cases settled new from on);
  }

-- where nothing is offered any more, a walk never leaves the settled keys
stays : (next : ℕ → List ℕ) (roots settled : List ℕ) → IsSearch next roots settled [] → (from : ℕ) (path : List ℕ) (to : ℕ)
    → Contains settled from → IsWalk (λ (a : ℕ) (b : ℕ). Contains (next a) b) from path to → Contains settled to
stays next roots settled s from [] to on walk = subst (λ (k : ℕ). Contains settled k) walk on
stays next roots settled s from (x ∷ xs) to on walk =
    let there : Contains settled x = ⊎_elim (λ h. h) (λ h. absurd (nowhere x h)) (s.nexts_met from x on walk.0) in
    stays next roots settled s x xs to there walk.1

pub search_ends : (next : ℕ → List ℕ) (roots settled : List ℕ) → IsSearch next roots settled [] → (key : ℕ) → Contains settled key ↔ IsReachedKey next roots key
search_ends next roots settled s key = (
  (λ on. All-contains (IsReachedKey next roots) settled key s.reached on),
  (λ r.
      let first : Contains settled r.0 = ⊎_elim (λ h. h) (λ h. absurd (nowhere r.0 h)) (s.roots_met r.0 r.2) in
      stays next roots settled s r.0 r.1 key first r.3),
)

-- other offers serve where they have no other keys, and all that are not settled
other_offers : (next : ℕ → List ℕ) (roots settled offered others : List ℕ) → IsSearch next roots settled offered
    → ((key : ℕ) → Contains others key → Contains offered key) → ((key : ℕ) → Contains offered key → Contains settled key ⊎ Contains others key) → IsSearch next roots settled others
other_offers next roots settled offered others s from left =
    let met : (key : ℕ) → Contains settled key ⊎ Contains offered key → Contains settled key ⊎ Contains others key = λ key h. ⊎_elim (λ old. inl old) (λ off. left key off) h in
    record {
      distinct = s.distinct;
      reached = s.reached;
      offers = all_of (IsReachedKey next roots) others (λ key on. All-contains (IsReachedKey next roots) offered key s.offers (from key on));
      roots_met = λ key on. met key (s.roots_met key on);
      nexts_met = λ a b on step. met b (s.nexts_met a b on step);
    }

-- the first offer is settled already
pub known_key : (next : ℕ → List ℕ) (roots settled rest : List ℕ) (key : ℕ) → IsSearch next roots settled (key ∷ rest) → Contains settled key → IsSearch next roots settled rest
known_key next roots settled rest key s there = other_offers next roots settled (key ∷ rest) rest s
    (λ k on. in_tail key rest k on)
    (λ k off. ⊎_elim (λ e. inl (subst (λ (z : ℕ). Contains settled z) e there)) (λ more. inr more) (cons_cases key rest k off))

one_apart : (key : ℕ) → AllPairs (λ a b. a ≢ b) (key ∷ [])
one_apart key i j d before below = absurd (omega arith)

-- a key is settled, and offered no more, and its next keys are offered
takes_key : (next : ℕ → List ℕ) (roots settled offered others : List ℕ) (key : ℕ) → IsSearch next roots settled offered → (Contains settled key → ⊥) → Contains offered key
    → ((k : ℕ) → Contains others k → Contains offered k ⊎ Contains (next key) k) → ((k : ℕ) → Contains offered k → (key ≡ k) ⊎ Contains others k)
    → ((k : ℕ) → Contains (next key) k → Contains others k) → IsSearch next roots (settled ++ key ∷ []) others
takes_key next roots settled offered others key s fresh on from left nexts =
    let P : ℕ → Type 0 = IsReachedKey next roots in
    let here : P key = All-contains P offered key s.offers on in
    let met : (k : ℕ) → Contains settled k ⊎ Contains offered k → Contains (settled ++ key ∷ []) k ⊎ Contains others k = λ k h. ⊎_elim
    (λ old. inl (Contains-append_left settled (key ∷ []) k old))
    (λ off. ⊎_elim (λ e. inl (subst (λ (z : ℕ). Contains (settled ++ key ∷ []) z) e (Contains-push settled key))) (λ more. inr more) (left k off))
    h in
    record {
      distinct = distinct_both settled (key ∷ []) s.distinct (one_apart key) (λ x old last. ⊎_elim
          (λ e. fresh (subst (λ (z : ℕ). Contains settled z) (sym e) old))
          (λ none. nowhere x none)
          (cons_cases key [] x last));
      reached = All-append P settled (key ∷ []) s.reached (All-cons P key [] here (All-nil P));
      offers = all_of P others (λ k o. ⊎_elim (λ off. All-contains P offered k s.offers off) (λ step. step_reached next roots key k here step) (from k o));
      roots_met = λ k r. met k (s.roots_met k r);
      nexts_met = λ a b there step. ⊎_elim
          (λ old. met b (s.nexts_met a b old step))
          (λ e. inr (nexts b (subst (λ (z : ℕ). Contains (next z) b) (sym e) step)))
          (Contains-push_cases settled key a there);
    }

-- the first offer is new, and its next keys are offered last
pub new_key : (next : ℕ → List ℕ) (roots settled rest last : List ℕ) (key : ℕ) → IsSearch next roots settled (key ∷ (rest ++ last)) → (Contains settled key → ⊥)
    → IsSearch next roots (settled ++ key ∷ []) (rest ++ (last ++ next key))
new_key next roots settled rest last key s fresh =
    takes_key next roots settled (key ∷ (rest ++ last)) (rest ++ (last ++ next key)) key s fresh (in_head key (rest ++ last) key refl)
    (λ k o. ⊎_elim
    (λ r. inl (in_tail key (rest ++ last) k (Contains-append_left rest last k r)))
    (λ more. ⊎_elim
    (λ l. inl (in_tail key (rest ++ last) k (Contains-append_right rest last k l)))
    (λ n. inr n)
    (Contains-append_cases last (next key) k more))
    (Contains-append_cases rest (last ++ next key) k o))
    (λ k o. ⊎_elim
    (λ e. inl e)
    (λ more. inr (⊎_elim
    (λ r. Contains-append_left rest (last ++ next key) k r)
    (λ l. Contains-append_right rest (last ++ next key) k (Contains-append_left last (next key) k l))
    (Contains-append_cases rest last k more)))
    (cons_cases key (rest ++ last) k o))
    (λ k n. Contains-append_right rest (last ++ next key) k (Contains-append_right last (next key) k n))

-- it is one more than the limit
pub one_too_many : (next : ℕ → List ℕ) (roots settled rest last : List ℕ) (key limit : ℕ) → IsSearch next roots settled (key ∷ (rest ++ last)) → (Contains settled key → ⊥)
    → length settled ≡ limit → HasMoreReached next roots limit
one_too_many next roots settled rest last key limit s fresh full =
    let more = new_key next roots settled rest last key s fresh in
    let up = rising_of (IsReachedKey next roots) (settled ++ key ∷ []) more.distinct more.reached in
    let long = length-append settled (key ∷ []) in
    let size = up.3 in
    record { keys = up.0; distinct = up.1; reached = up.2; more = omega arith }

-- the new keys would be too many
pub too_many : (next : ℕ → List ℕ) (roots settled offered new : List ℕ) (limit : ℕ) → IsSearch next roots settled offered → AreNewOf settled offered new
    → limit < length settled + length new → HasMoreReached next roots limit
too_many next roots settled offered new limit s n more =
    let up = rising_of (IsReachedKey next roots) (settled ++ new) (both_distinct next roots settled offered new s n) (both_reached next roots settled offered new s n) in
    let long = length-append settled new in
    let size = up.3 in
    record { keys = up.0; distinct = up.1; reached = up.2; more = omega arith }

-- the settled keys in another order
pub other_order : (next : ℕ → List ℕ) (roots settled others offered : List ℕ) → IsSearch next roots settled offered → AllPairs (λ a b. a ≢ b) others
    → ((key : ℕ) → Contains settled key ↔ Contains others key) → IsSearch next roots others offered
other_order next roots settled others offered s distinct same =
    let met : (key : ℕ) → Contains settled key ⊎ Contains offered key → Contains others key ⊎ Contains offered key = λ key h. ⊎_elim (λ old. inl ((same key).0 old)) (λ off. inr off) h in
    record {
      distinct = distinct;
      reached = all_of (IsReachedKey next roots) others (λ key on. All-contains (IsReachedKey next roots) settled key s.reached ((same key).1 on));
      offers = s.offers;
      roots_met = λ key on. met key (s.roots_met key on);
      nexts_met = λ a b on step. met b (s.nexts_met a b ((same a).1 on) step);
    }

both_same : (old more now : List ℕ) → AreBothOf old more now → (key : ℕ) → Contains (old ++ more) key ↔ Contains now key
both_same old more now b key = (
  (λ on. (b.members key).1 (Contains-append_cases old more key on)),
  (λ on. ⊎_elim (λ o. Contains-append_left old more key o) (λ m. Contains-append_right old more key m) ((b.members key).0 on)),
)

-- new keys were won of those that are offered
pub new_won : (next : ℕ → List ℕ) (roots settled offered won : List ℕ) → AreNewOf settled offered won → IsSearch next roots settled offered → IsSearch next roots settled won
new_won next roots settled offered won w s = other_offers next roots settled offered won s (λ key on. ((w.members key).0 on).0)
    (λ key off. ⊎_elim (λ old. inl old) (λ new. inr ((w.members key).1 (off, new))) (present settled key))

-- distinct keys that are not settled
all_new : (settled won : List ℕ) → AllPairs (λ a b. a ≢ b) won → ((key : ℕ) → Contains won key → Contains settled key → ⊥) → AreNewOf settled won won
all_new settled won distinct fresh = record { distinct = distinct; members = λ key. ((λ on. (on, fresh key on)), (λ h. h.0)) }

module _ (next : ℕ → List ℕ) (bound limit : ℕ) (settled won now : List ℕ) (apart : AllPairs (λ a b. a ≢ b) settled) (distinct : AllPairs (λ a b. a ≢ b) won)
    (fresh : (key : ℕ) → Contains won key → Contains settled key → ⊥) where
  -- a round that settled them all
  pub settles_all : AreBothOf settled won now → length settled + length won ≤ limit → All (λ key. key < bound) (flat_map next won) → Settles next bound limit settled won now (flat_map next won)
  settles_all b room below =
      let size = both_len settled won now b apart distinct fresh in
      record {
        within = omega arith;
        below = below;
        advances = advance won size;
        search = λ roots s. other_order next roots (settled ++ won) now (flat_map next won) (search_goes_on next roots settled won won s (all_new settled won distinct fresh)) b.distinct (both_same settled won now b);
      }
    where
      advance : (keys : List ℕ) → length now ≡ length settled + length keys → Advances settled now (flat_map next keys)
      advance [] e = inr (omega arith, refl)
      advance (x ∷ xs) e = inl (omega arith)

  -- and one that would settle too many
  pub too_many_won : limit < length settled + length won → IsTooFar next settled won limit
  too_many_won more roots s = too_many next roots settled won won limit s (all_new settled won distinct fresh) more

-- a new key makes the settled keys one more
pub one_longer : (settled now : List ℕ) (key : ℕ) → AllPairs (λ a b. a ≢ b) settled → (Contains settled key → ⊥) → AreBothOf settled (key ∷ []) now → length now ≡ length settled + 1
one_longer settled now key apart fresh b =
    both_len settled (key ∷ []) now b apart (one_apart key) (λ k one old. ⊎_elim (λ e. fresh (subst (λ (z : ℕ). Contains settled z) (sym e) old)) (λ none. nowhere k none) (cons_cases key [] k one))

-- so many keys of a round are met, and what is left of them is offered before the next keys of those
pub record IsPartly (next : ℕ → List ℕ) (bound limit : ℕ) (before keys settled offered : List ℕ) (met : ℕ) : Type 0 where
  pub within : length settled ≤ limit
  pub below : All (λ key. key < bound) offered
  pub advances : Advances before settled offered
  pub search : GoesOn next before keys settled (drop met keys ++ offered)

module _ (next : ℕ → List ℕ) (bound limit : ℕ) (before keys : List ℕ) where
  pub partly_none : length before ≤ limit → IsPartly next bound limit before keys before [] 0
  partly_none room = record {
    within = room;
    below = All-nil (λ k. k < bound);
    advances = inr (refl, refl);
    search = λ roots s. subst (λ (xs : List ℕ). IsSearch next roots before xs) (sym (append-nil keys)) s;
  }

  -- what is left begins with the next key
  left_is : (roots settled offered : List ℕ) (met key : ℕ) → met < length keys → key ≡ get_or keys met key → IsSearch next roots settled (drop met keys ++ offered) → IsSearch next roots settled (key ∷ (drop (met + 1) keys ++ offered))
  left_is roots settled offered met key short is s =
      let left : drop met keys ≡ key ∷ drop (met + 1) keys = drop_more keys met key short ∙ ap (λ (k : ℕ). k ∷ drop (met + 1) keys) (sym is) in
      subst (λ (xs : List ℕ). IsSearch next roots settled (xs ++ offered)) left s

  module _ (settled offered : List ℕ) (met key : ℕ) (short : met < length keys) (is : key ≡ get_or keys met key) (p : IsPartly next bound limit before keys settled offered met) where
    longer : (now : List ℕ) → length now ≡ length settled + 1 → Advances before now (offered ++ next key)
    longer now long = inl (⊎_elim (λ more. omega arith) (λ same. let e = same.0 in omega arith) p.advances)

    met_new : (now : List ℕ) → (Contains settled key → ⊥) → AreBothOf settled (key ∷ []) now → length now ≡ length settled + 1 → length settled < limit → All (λ k. k < bound) (next key)
        → IsPartly next bound limit before keys now (offered ++ next key) (met + 1)
    met_new now fresh b long room below = record {
      within = omega arith;
      below = All-append (λ k. k < bound) offered (next key) p.below below;
      advances = longer now long;
      search = λ roots s. other_order next roots (settled ++ key ∷ []) now (drop (met + 1) keys ++ (offered ++ next key))
          (new_key next roots settled (drop (met + 1) keys) offered key (left_is roots settled offered met key short is (p.search roots s)) fresh)
          b.distinct (both_same settled (key ∷ []) now b);
    }

    met_old : Contains settled key → IsPartly next bound limit before keys settled offered (met + 1)
    met_old there = record {
      within = p.within;
      below = p.below;
      advances = p.advances;
      search = λ roots s. known_key next roots settled (drop (met + 1) keys ++ offered) key (left_is roots settled offered met key short is (p.search roots s)) there;
    }

    pub partly_more : (now offered_now : List ℕ) → IsMet next limit key settled now offered offered_now → All (λ k. k < bound) (next key) → IsPartly next bound limit before keys now offered_now (met + 1)
    partly_more now offered_now m below = ⊎_elim
        (λ old. rw (old.1, old.2) (met_old old.0))
        (λ new. rw new.4 (met_new now new.0 new.1 new.2 new.3 below))
        m

    pub partly_full : (Contains settled key → ⊥) → length settled ≡ limit → IsTooFar next before keys limit
    partly_full fresh full roots s = one_too_many next roots settled (drop (met + 1) keys) offered key limit (left_is roots settled offered met key short is (p.search roots s)) fresh full

  pub partly_all : (settled offered : List ℕ) (met : ℕ) → length keys ≤ met → IsPartly next bound limit before keys settled offered met → Settles next bound limit before keys settled offered
  partly_all settled offered met all p = record {
    within = p.within;
    below = p.below;
    advances = p.advances;
    search = λ roots s. subst (λ (xs : List ℕ). IsSearch next roots settled (xs ++ offered)) (drop_all met keys all) (p.search roots s);
  }

-- new keys were offered
pub new_all : (P : ℕ → Type 0) (settled offered new : List ℕ) → AreNewOf settled offered new → All P offered → All P new
new_all P settled offered new n each = all_of P new (λ key on. All-contains P offered key each ((n.members key).0 on).0)

-- the next keys of keys below a bound
pub nexts_all : (P : ℕ → Type 0) (next : ℕ → List ℕ) (keys : List ℕ) → All P keys → ((key : ℕ) → P key → All P (next key)) → All P (flat_map next keys)
nexts_all P next keys each stay = all_of P (flat_map next keys) (λ key on. let w = from_flat_map next keys key on in
    All-contains P (next w.0) key (stay w.0 (All-contains P keys w.0 each w.1)) w.2)

-- no offers are left, and the keys are put in order
pub closes : (next : ℕ → List ℕ) (roots settled sorted : List ℕ) → IsSearch next roots settled [] → IsStrictlyIncreasing sorted → ((key : ℕ) → Contains sorted key ↔ Contains settled key) → IsClosureOf next roots sorted
closes next roots settled sorted s rising same = record {
  ascending = rising;
  members = λ key. let e = search_ends next roots settled s key in let m = same key in ((λ on. e.0 (m.0 on)), (λ r. m.1 (e.1 r)));
}

-- the fault of an answer of another type
abbrev fault_or : {A : Type 0} → ReachFault → Result A ReachFault → ReachFault
fault_or fault (Ok answer) = fault
fault_or fault (Err other) = other

pub same_fault : {A B : Type 0} (x y : ReachFault) → ◌≡◌ {A = Result A ReachFault} (Err x) (Err y) → ◌≡◌ {A = Result B ReachFault} (Err x) (Err y)
same_fault x y e = ap Err (ap (fault_or x) e)
