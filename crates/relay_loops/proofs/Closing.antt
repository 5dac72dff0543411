-- The closures of a search's steps.
use Rattle.std.proofs.Common.{All, Result, Ok, Err, IfOk, OnOk, ◌≡◌, ℕ, ◌<◌, ◌≤◌, ◌==◌, true, List, [], length, get_or, Contains, refl, sym, ◌∙◌, subst, ◌⊎◌, inl, inr, arith, zero-add}
use Rattle.std.proofs.lemmas.List.FromFn.{length-range_with_len, get_or-range_with_len}
use Rattle.std.specs.List.{list_any, range_with_len}
use Rattle.std.proofs.lemmas.Bool.{cases_Bool}
use Rattle.std.proofs.lemmas.Bool.Decides.{eqb_tells}
use Rattle.std.proofs.lemmas.List.Elements.{Contains-get_or}
use Rattle.relay_rounds.specs.Closures.{IsClosureOf, IsReachedKey, HasMoreReached}
use Rattle.relay_tables.specs.GraphParts.{GraphParts}
use Rattle.relay_tables.specs.Graphs.{child_numbers, parent_numbers}
use Rattle.relay_loops.specs.declared.place.Place.{Place}
use Rattle.relay_loops.specs.declared.direction.Direction.{Direction}
use Rattle.relay_loops.specs.Bounds.{open_keys-below}
use Rattle.relay_loops.specs.Judging.{Leads}
use Rattle.relay_loops.specs.Places.{place_at, is_open, near_numbers, open_key, open_keys}
use Rattle.relay_loops.specs.Searches.{AreWithin}
use Rattle.relay_loops.proofs.Members.{Contains-map, Contains-from_map, Contains-filter, Contains-from_filter, some_passes, passes_some}
use Rattle.relay_loops.proofs.Reaching.{reached_below, few_reached}
use Rattle.relay_loops.proofs.Walking.{leads_here, leads_last, leads_on, leads_lazy}

-- a root is reached, and so is what a reached key leads to
pub reached_root : (next : ℕ → List ℕ) (roots : List ℕ) (x : ℕ) → Contains roots x → IsReachedKey next roots x
reached_root next roots x c = (x, [], c, refl)

pub reached_leads : (next : ℕ → List ℕ) (roots : List ℕ) (x : ℕ) → IsReachedKey next roots x → (from : ℕ) × Contains roots from × Leads (λ a b. Contains (next a) b) from x
reached_leads next roots x r =
    let way : Leads (λ a b. Contains (next a) b) r.0 x = record { path = r.1; walk = r.3 } in
    (r.0, r.2, way)

pub reached_on : (next : ℕ → List ℕ) (roots : List ℕ) (x y : ℕ) → IsReachedKey next roots x → Leads (λ a b. Contains (next a) b) x y → IsReachedKey next roots y
reached_on next roots x y r more =
    let first = reached_leads next roots x r in
    let way : Leads (λ a b. Contains (next a) b) first.0 y = leads_on (λ a b. Contains (next a) b) first.0 x y first.2 more in
    (first.0, way.path, first.1, way.walk)

pub reached_step : (next : ℕ → List ℕ) (roots : List ℕ) (x y : ℕ) → IsReachedKey next roots x → Contains (next x) y → IsReachedKey next roots y
reached_step next roots x y r step =
    reached_on next roots x y r (leads_last (λ a b. Contains (next a) b) x x y (leads_here (λ a b. Contains (next a) b) x) step)

module _ (next : ℕ → List ℕ) (roots keys : List ℕ) (closed : IsClosureOf next roots keys) where
  pub closed_root : (x : ℕ) → Contains roots x → Contains keys x
  closed_root x c = (closed.members x).1 (reached_root next roots x c)

  pub closed_step : (x y : ℕ) → Contains keys x → Contains (next x) y → Contains keys y
  closed_step x y c step = (closed.members y).1 (reached_step next roots x y ((closed.members x).0 c) step)

-- an open node is a step
pub open_step : (d : Direction) (places : List Place) (near : List ℕ) (x y : ℕ) → Contains near y → is_open d (place_at places y) ≡ true → Contains (open_keys d places x near) y
open_step d places near x y c here =
    let e : open_key d places x y ≡ y = rw here in
    subst (λ (z : ℕ). Contains (open_keys d places x near) z) e (Contains-map (open_key d places x) near y c)

-- a step leads to a near node, or nowhere
pub open_from_step : (d : Direction) (places : List Place) (near : List ℕ) (x y : ℕ) → Contains (open_keys d places x near) y → (x ≡ y) ⊎ Contains near y
open_from_step d places near x y c =
    let r = Contains-from_map (open_key d places x) near y c in
    elim (cases_Bool (is_open d (place_at places r.0))) [
      | inl here ↦ let e : r.0 ≡ y = sym (rw here) ∙ r.2 in inr (subst (λ (z : ℕ). Contains near z) e r.1)
      | inr other ↦ let e : open_key d places x r.0 ≡ x = rw other in inl (sym e ∙ r.2)
    ]

-- what a search comes to by its steps, it comes to along near nodes
pub open_leads : (g : GraphParts) (d : Direction) (places : List Place) (x y : ℕ) → Leads (λ a b. Contains (open_keys d places a (near_numbers g d a)) b) x y → Leads (λ a b. Contains (near_numbers g d a) b) x y
open_leads g d places x y way =
    leads_lazy (λ a b. Contains (open_keys d places a (near_numbers g d a)) b) (λ a b. Contains (near_numbers g d a) b) (λ a b step. open_from_step d places (near_numbers g d a) a b step) x y way

-- a parent of a child
pub parent_of_child : (g : GraphParts) (x y : ℕ) → x < length g.nodes → Contains (child_numbers g x) y → Contains (parent_numbers g y) x
parent_of_child g x y below along =
    let in_range : Contains (range_with_len 0 (length g.nodes)) x = (x, rw length-range_with_len below, get_or-range_with_len 0 (length g.nodes) x x below ∙ zero-add x) in
    let same : (y == y) ≡ true = elim (eqb_tells y y) [ inl h ↦ h.0 | inr differ ↦ absurd (differ.1 refl) ] in
    Contains-filter (λ (p : ℕ). list_any (λ (c : ℕ). c == y) (child_numbers g p)) (range_with_len 0 (length g.nodes)) x in_range
    (some_passes (λ (c : ℕ). c == y) (child_numbers g x) y along same)

pub child_of_parent : (g : GraphParts) (x y : ℕ) → Contains (parent_numbers g y) x → Contains (child_numbers g x) y
child_of_parent g x y c =
    let kept = Contains-from_filter (λ (p : ℕ). list_any (λ (c : ℕ). c == y) (child_numbers g p)) (range_with_len 0 (length g.nodes)) x c in
    let r = passes_some (λ (c : ℕ). c == y) (child_numbers g x) kept.1 in
    let e : r.0 ≡ y = elim (eqb_tells r.0 y) [ inl h ↦ h.1 | inr differ ↦ let q = differ.0 in let q' = r.2 in cc ] in
    subst (λ (z : ℕ). Contains (child_numbers g x) z) e r.1

module _ (g : GraphParts) (d : Direction) (places : List Place) (roots : List ℕ) (below : All (λ n. n < length places) roots) where
  -- a search stays below the number of places
  pub closed_below : (keys : List ℕ) → IsClosureOf (λ key. open_keys d places key (near_numbers g d key)) roots keys → All (λ n. n < length places) keys
  closed_below keys closed k e inside =
      let x : ℕ = get_or keys k e in
      reached_below (λ key. open_keys d places key (near_numbers g d key)) roots (length places) (λ key h. open_keys-below d places key (near_numbers g d key) h) below x ((closed.members x).0 (Contains-get_or keys k e inside))

  -- a limit that isn't below the number of places is never reached
  pub none_refused : (limit : ℕ) → length places ≤ limit → HasMoreReached (λ key. open_keys d places key (near_numbers g d key)) roots limit → ⊥
  none_refused limit few more =
      let reached = few_reached (λ key. open_keys d places key (near_numbers g d key)) roots (length places) (λ key h. open_keys-below d places key (near_numbers g d key) h) below limit more in
      omega arith

pub all_within : (places : List Place) (nodes : List ℕ) → AreWithin places nodes → All (λ n. n < length places) nodes
all_within places nodes within k e inside = within (get_or nodes k e) (Contains-get_or nodes k e inside)

-- what holds of an answer that is handed on
pub known_ok : {X E F : Type 0} (r : Result X E) (q : Result X F) (P : X → Type 0) → IfOk q (λ x. r ≡ Ok x) → IfOk r P → IfOk q P
known_ok {X} {E} {F} r (Ok x) P h k = subst (λ (z : Result X E). IfOk z P) h k
known_ok r (Err e) P h k = tt

pub on_ok : {X E : Type 0} (r : Result X E) (P Q : Type 0) → (P → Q) → OnOk r P → OnOk r Q
on_ok (Ok x) P Q f h = f h
on_ok (Err e) P Q f h = tt

pub if_ok_then : {X E : Type 0} (r : Result X E) (P Q : X → Type 0) → IfOk r P → ((x : X) → P x → Q x) → IfOk r Q
if_ok_then (Ok x) P Q h f = f x h
if_ok_then (Err e) P Q h f = tt
