-- Places, and what changes of them say.
use Rattle.std.proofs.Common.{set, get_or-set_same, get_or-set_other, ◌+◌, ◌++◌, ◌≢◌, take, ◌≡◌, ℕ, ◌<◌, zero, suc, true, false, List, [], ◌∷◌, length, get_or, refl, subst, sym, ap, ◌∙◌, inl, inr, arith, Contains}
use Rattle.std.proofs.lemmas.Bool.Decides.{eqb_tells}
use Rattle.std.proofs.lemmas.List.Elements.{Contains-push_cases, Contains-append_left, Contains-push}
use Rattle.std.proofs.lemmas.List.{take_more}
use Rattle.relay_loops.specs.declared.place.Place.{Place}
use Rattle.relay_loops.specs.declared.place.Place.TheVariants.{Left, Ahead, Around, Looped, Clear}
use Rattle.relay_loops.specs.declared.direction.Direction.{Direction}
use Rattle.relay_loops.specs.declared.direction.Direction.TheVariants.{Onward, Backward}
use Rattle.relay_loops.specs.Bounds.{open-below}
use Rattle.relay_loops.specs.Places.{place_at, is_left, is_ahead, is_looped, is_open, is_resting, met_place, settled, IsChangedAt}
use Rattle.relay_loops.proofs.Members.{contains_dec}

pub met-not_open : (d : Direction) → is_open d (met_place d) ≡ false
met-not_open Onward = refl
met-not_open Backward = refl

pub left_place : (p : Place) → is_left p ≡ true → p ≡ Left
left_place Left h = refl
left_place Ahead h = cc
left_place Around h = cc
left_place Looped h = cc
left_place Clear h = cc

pub ahead_place : (p : Place) → is_ahead p ≡ true → p ≡ Ahead
ahead_place Ahead h = refl
ahead_place Left h = cc
ahead_place Around h = cc
ahead_place Looped h = cc
ahead_place Clear h = cc

pub looped_place : (p : Place) → is_looped p ≡ true → p ≡ Looped
looped_place Looped h = refl
looped_place Left h = cc
looped_place Ahead h = cc
looped_place Around h = cc
looped_place Clear h = cc

pub settled-resting : (p : Place) → is_resting (settled p) ≡ true
settled-resting Left = refl
settled-resting Ahead = refl
settled-resting Around = refl
settled-resting Looped = refl
settled-resting Clear = refl

pub resting-settled : (p : Place) → is_resting p ≡ true → settled p ≡ p
resting-settled Left h = refl
resting-settled Ahead h = cc
resting-settled Around h = cc
resting-settled Looped h = refl
resting-settled Clear h = refl

pub settled-twice : (p : Place) → settled (settled p) ≡ settled p
settled-twice Left = refl
settled-twice Ahead = refl
settled-twice Around = refl
settled-twice Looped = refl
settled-twice Clear = refl

-- a place that no search marks is settled
pub settled-other : (p : Place) → (p ≡ Ahead → ⊥) → (p ≡ Around → ⊥) → settled p ≡ p
settled-other Left a b = refl
settled-other Ahead a b = absurd (a refl)
settled-other Around a b = absurd (b refl)
settled-other Looped a b = refl
settled-other Clear a b = refl

pub left-below : (places : List Place) (n : ℕ) → place_at places n ≡ Left → n < length places
left-below places n e = open-below Onward places n (ap is_left e)

pub ahead-below : (places : List Place) (n : ℕ) → place_at places n ≡ Ahead → n < length places
ahead-below places n e = open-below Backward places n (ap is_ahead e)

pub met-below : (d : Direction) (places : List Place) (n : ℕ) → place_at places n ≡ met_place d → n < length places
met-below Onward places n e = ahead-below places n e
met-below Backward [] n e = cc
met-below Backward (x ∷ xs) zero e = omega arith
met-below Backward (x ∷ xs) (suc n) e = let r = met-below Backward xs n e in omega arith

-- what a change of one more node's place makes of the places
changed_more : (change : Place → Place) (nodes : List ℕ) (i : ℕ) (old cur new : List Place) → i < length nodes → IsChangedAt change (take i nodes) old cur → place_at new (get_or nodes i 0) ≡ change (place_at old (get_or nodes i 0)) → ((n : ℕ) → n ≢ get_or nodes i 0 → place_at new n ≡ place_at cur n) → IsChangedAt change (take (i + 1) nodes) old new
changed_more change nodes i old cur new below before here others =
    let x : ℕ = get_or nodes i 0 in
    let more : take (i + 1) nodes ≡ take i nodes ++ x ∷ [] = take_more nodes i 0 below in
    record {
      changed = λ n among.
          elim (eqb_tells n x) [
            | inl same ↦ subst (λ (m : ℕ). place_at new m ≡ change (place_at old m)) (sym same.1) here
            | inr differ ↦
                elim (Contains-push_cases (take i nodes) x n (subst (λ (l : List ℕ). Contains l n) more among)) [
                  | inl earlier ↦ others n differ.1 ∙ before.changed n earlier
                  | inr e ↦ absurd (differ.1 (sym e))
                ]
          ];
      same = λ n absent.
          let not_earlier : ¬ Contains (take i nodes) n = λ c. absent (subst (λ (l : List ℕ). Contains l n) (sym more) (Contains-append_left (take i nodes) (x ∷ []) n c)) in
          let differ : n ≢ x = λ e. absent (subst (λ (l : List ℕ). Contains l n) (sym more) (subst (λ (m : ℕ). Contains (take i nodes ++ x ∷ []) m) (sym e) (Contains-push (take i nodes) x))) in
          others n differ ∙ before.same n not_earlier;
    }

pub changed_none : (change : Place → Place) (places : List Place) → IsChangedAt change [] places places
changed_none change places = record { changed = λ n c. absurd (omega (arith, c.1)); same = λ n c. refl }

pub changed_set : (change : Place → Place) (nodes : List ℕ) (i : ℕ) (old cur : List Place) (v : Place) → i < length nodes → get_or nodes i 0 < length cur → IsChangedAt change (take i nodes) old cur → v ≡ change (place_at old (get_or nodes i 0)) → IsChangedAt change (take (i + 1) nodes) old (set cur (get_or nodes i 0) v)
changed_set change nodes i old cur v below inside before e =
    let x : ℕ = get_or nodes i 0 in
    changed_more change nodes i old cur (set cur x v) below before (get_or-set_same cur x v Clear inside ∙ e) (λ n differ. get_or-set_other cur x n v Clear differ)

-- a node may be changed once more by a change that does nothing the second time
pub changed_again : (change : Place → Place) → ((p : Place) → change (change p) ≡ change p) → (nodes : List ℕ) (old cur : List Place) → IsChangedAt change nodes old cur → (n : ℕ) → change (place_at cur n) ≡ change (place_at old n)
changed_again change twice nodes old cur before n =
    elim (contains_dec nodes n) [
      | inl c ↦ ap change (before.changed n c) ∙ twice (place_at old n)
      | inr absent ↦ ap change (before.same n absent)
    ]
