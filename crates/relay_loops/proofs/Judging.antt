-- What the searches from a pivot say of its loops, and that what is known stays known.
use Rattle.std.proofs.Common.{set, get_or-set_same, get_or-set_other, ◌≡◌, ◌≢◌, ℕ, ◌<◌, ◌≤◌, true, false, List, [], ◌∷◌, length, All, get_or, subst, sym, ap, ◌∙◌, ◌⊎◌, inl, inr, arith, Contains}
use Rattle.std.proofs.lemmas.Bool.Decides.{eqb_tells}
use Rattle.std.proofs.lemmas.List.Elements.{Contains-get_or}
use Rattle.relay_tables.specs.GraphParts.{GraphParts}
use Rattle.relay_tables.specs.Graphs.{child_numbers, parent_numbers}
use Rattle.relay_loops.specs.declared.place.Place.{Place}
use Rattle.relay_loops.specs.declared.place.Place.TheVariants.{Left, Ahead, Around, Looped, Clear}
use Rattle.relay_loops.specs.declared.direction.Direction.{Direction}
use Rattle.relay_loops.specs.declared.direction.Direction.TheVariants.{Onward, Backward}
use Rattle.relay_loops.specs.Loops.{IsOnLoop}
use Rattle.relay_loops.specs.Judging.{LeadsTo, IsResting, IsJudged, KeepsJudged, KeepsAnswers}
use Rattle.relay_loops.specs.Places.{place_at, is_left, is_ahead, is_resting, near_numbers, met_place, settled, IsChangedAt}
use Rattle.relay_loops.specs.Searches.{IsSpread, NoneOpen}
use Rattle.relay_loops.proofs.Closing.{reached_leads, parent_of_child, child_of_parent}
use Rattle.relay_loops.proofs.Members.{contains_dec}
use Rattle.relay_loops.proofs.Placing.{left_place, ahead_place, ahead-below, met-below, settled-resting, resting-settled, settled-other}
use Rattle.relay_loops.proofs.Taking.{contains_one, one_contains}
use Rattle.relay_loops.proofs.Walking.{leads_here, leads_first, leads_back, cycle_through, round_keeps}

pub none_ahead : (places : List Place) → IsResting places → (n : ℕ) → place_at places n ≡ met_place Onward → ⊥
none_ahead places resting n e = let r = resting n in let h : is_resting (place_at places n) ≡ is_resting Ahead = ap is_resting e in cc

none_around : (places : List Place) → IsResting places → (n : ℕ) → place_at places n ≡ Around → ⊥
none_around places resting n e = let r = resting n in let h : is_resting (place_at places n) ≡ is_resting Around = ap is_resting e in cc

-- what a search found is within the places
pub found_within : (g : GraphParts) (d : Direction) (starts : List ℕ) (old new : List Place) (found : List ℕ) → IsSpread g d starts old new found → All (λ n. n < length new) found
found_within g d starts old new found s k e inside =
    met-below d new (get_or found k e) (s.search.met (get_or found k e) (Contains-get_or found k e inside))

module _ (g : GraphParts) (pivot : ℕ) (old mid : List Place) (ahead : List ℕ) (resting : IsResting old) (was_left : place_at old pivot ≡ Left) (onward : IsSpread g Onward (child_numbers g pivot) old mid ahead) where
  -- an edge from where the search has been leads ahead
  goes_ahead : (x y : ℕ) → NoneOpen Onward mid (child_numbers g x) → Contains (child_numbers g x) y → place_at old y ≡ Left → place_at mid y ≡ Ahead
  goes_ahead x y none along left =
      elim (onward.search.moved y) [
        | inr met ↦ met.1
        | inl same ↦ let shut : is_left (place_at mid y) ≡ false = none y along in let h : is_left (place_at mid y) ≡ true = ap is_left (same ∙ left) in cc
      ]

  closed_ahead : (x : ℕ) → place_at mid x ≡ Ahead → NoneOpen Onward mid (child_numbers g x)
  closed_ahead x e = onward.closed x (onward.search.listed x e)

  mid_ahead : (n : ℕ) → place_at mid n ≡ Ahead → place_at old n ≡ Left
  mid_ahead n e =
      elim (onward.search.moved n) [
        | inr met ↦ left_place (place_at old n) met.0
        | inl same ↦ absurd (none_ahead old resting n (sym same ∙ e))
      ]

  pub none_mid_around : (n : ℕ) → place_at mid n ≡ met_place Backward → ⊥
  none_mid_around n e =
      elim (onward.search.moved n) [
        | inl same ↦ none_around old resting n (sym same ∙ e)
        | inr met ↦ let h : Ahead ≡ Around = sym met.1 ∙ e in cc
      ]

  -- what was answered is as it was, and what is ahead settles as it was
  mid_settles : (n : ℕ) → settled (place_at mid n) ≡ place_at old n
  mid_settles n =
      elim (onward.search.moved n) [
        | inl same ↦ ap settled same ∙ resting-settled (place_at old n) (resting n)
        | inr met ↦ ap settled met.1 ∙ sym (left_place (place_at old n) met.0)
      ]

  module _ (reached : List ℕ) (known : IsJudged g reached old) where
    -- along a loop, all is ahead where one is
    ahead_round : (x y : ℕ) → LeadsTo g x y → LeadsTo g y x → (place_at old x ≡ Left) × (place_at mid x ≡ Ahead) → (place_at old y ≡ Left) × (place_at mid y ≡ Ahead)
    ahead_round x y there back h =
        round_keeps (λ parent child. Contains (child_numbers g parent) child) (λ (n : ℕ). (place_at old n ≡ Left) × (place_at mid n ≡ Ahead))
        (λ u v step home here. let left = known.whole u v here.0 step home in (left, goes_ahead u v (closed_ahead u here.1) step left)) x y there back h

    -- a pivot on a loop is ahead of itself
    pivot_ahead : IsOnLoop g pivot → place_at mid pivot ≡ Ahead
    pivot_ahead loop =
        let s : ℕ = loop.0 in
        let back : LeadsTo g s pivot = record { path = loop.1; walk = loop.3 } in
        let once : LeadsTo g pivot s = leads_first (λ parent child. Contains (child_numbers g parent) child) pivot s s loop.2 (leads_here (λ parent child. Contains (child_numbers g parent) child) s) in
        let left = known.whole pivot s was_left loop.2 back in
        (ahead_round s pivot back once (left, goes_ahead pivot s onward.starts_met loop.2 left)).1

  -- The pivot is on no loop.
  module _ (new : List Place) (alone : is_ahead (place_at mid pivot) ≡ false) (here : place_at new pivot ≡ Clear) (others : (n : ℕ) → n ≢ pivot → place_at new n ≡ place_at old n) where
    alone_known : (reached : List ℕ) → IsJudged g reached old → IsJudged g reached new
    alone_known reached known =
        let no_loop : ¬ IsOnLoop g pivot = λ loop. let e : is_ahead (place_at mid pivot) ≡ true = ap is_ahead (pivot_ahead reached known loop) in cc in
        record {
          whole = λ x y left step back.
              elim (eqb_tells x pivot) [
                | inl e ↦ let h : Clear ≡ Left = sym here ∙ subst (λ (m : ℕ). place_at new m ≡ Left) e.1 left in absurd (cc)
                | inr differ ↦
                    let y_left = known.whole x y (sym (others x differ.1) ∙ left) step back in
                    elim (eqb_tells y pivot) [
                      | inr other ↦ others y other.1 ∙ y_left
                      | inl e ↦
                          let loop : IsOnLoop g y = cycle_through (λ parent child. Contains (child_numbers g parent) child) y x y back step (leads_here (λ parent child. Contains (child_numbers g parent) child) y) in
                          absurd (no_loop (subst (λ (m : ℕ). IsOnLoop g m) e.1 loop))
                    ]
              ];
          looped = λ n e.
              elim (eqb_tells n pivot) [
                | inl same ↦ let h : Clear ≡ Looped = sym here ∙ subst (λ (m : ℕ). place_at new m ≡ Looped) same.1 e in absurd (cc)
                | inr differ ↦ known.looped n (sym (others n differ.1) ∙ e)
              ];
          clear = λ n among e.
              elim (eqb_tells n pivot) [
                | inl same ↦ subst (λ (m : ℕ). ¬ IsOnLoop g m) (sym same.1) no_loop
                | inr differ ↦ known.clear n among (sym (others n differ.1) ∙ e)
              ];
        }

    pub alone_judged : KeepsJudged g old new
    alone_judged = alone_known

    pub alone_resting : IsResting new
    alone_resting n =
        elim (eqb_tells n pivot) [
          | inl e ↦ subst (λ (m : ℕ). is_resting (place_at new m) ≡ true) (sym e.1) (ap is_resting here)
          | inr differ ↦ ap is_resting (others n differ.1) ∙ resting n
        ]

    pub alone_answers : KeepsAnswers old new
    alone_answers n answered =
        elim (eqb_tells n pivot) [
          | inl e ↦ subst (λ (m : ℕ). is_left (place_at new m) ≡ false) (sym e.1) (ap is_left here)
          | inr differ ↦ ap is_left (others n differ.1) ∙ answered
        ]

  -- what is ahead has been settled
  module _ (back_again : List Place) (changed : IsChangedAt settled ahead mid back_again) where
    pub as_before : (n : ℕ) → place_at back_again n ≡ place_at old n
    as_before n =
        elim (contains_dec ahead n) [
          | inl c ↦ changed.changed n c ∙ mid_settles n
          | inr absent ↦
              changed.same n absent ∙ sym (settled-other (place_at mid n) (λ e. absent (onward.search.listed n e)) (none_mid_around n)) ∙ mid_settles n
        ]

  -- The pivot is on a loop.
  module _ (late new : List Place) (around : List ℕ) (in_graph : length old ≤ length g.nodes) (sized : length mid ≡ length old) (met : is_ahead (place_at mid pivot) ≡ true) (backward : IsSpread g Backward (pivot ∷ []) mid late around) (changed : IsChangedAt settled ahead late new) where
    around_ahead : (n : ℕ) → place_at late n ≡ Around → place_at mid n ≡ Ahead
    around_ahead n e =
        elim (backward.search.moved n) [
          | inr moved ↦ ahead_place (place_at mid n) moved.0
          | inl same ↦ absurd (none_mid_around n (sym same ∙ e))
        ]

    late_ahead : (n : ℕ) → place_at late n ≡ Ahead → place_at mid n ≡ Ahead
    late_ahead n e =
        elim (backward.search.moved n) [
          | inl same ↦ sym same ∙ e
          | inr moved ↦ let h : Ahead ≡ Around = sym e ∙ moved.1 in absurd (cc)
        ]

    new_place : (n : ℕ) → place_at new n ≡ settled (place_at late n)
    new_place n =
        elim (contains_dec ahead n) [
          | inl c ↦ changed.changed n c
          | inr absent ↦
              changed.same n absent
              ∙ sym (settled-other (place_at late n) (λ e. absent (onward.search.listed n (late_ahead n e))) (λ e. absent (onward.search.listed n (around_ahead n e))))
        ]

    -- a node is as it was, or around and so on a loop
    outcome : (n : ℕ) → (place_at new n ≡ place_at old n) ⊎ ((place_at late n ≡ Around) × (place_at new n ≡ Looped))
    outcome n =
        elim (backward.search.moved n) [
          | inl same ↦ inl (new_place n ∙ ap settled same ∙ mid_settles n)
          | inr moved ↦ inr (moved.1, new_place n ∙ ap settled moved.1)
        ]

    pub around_resting : IsResting new
    around_resting n = ap is_resting (new_place n) ∙ settled-resting (place_at late n)

    pub around_answers : KeepsAnswers old new
    around_answers n answered =
        elim (outcome n) [ inl same ↦ ap is_left same ∙ answered | inr looped ↦ ap is_left looped.1 ]

    pub around_pivot : is_left (place_at new pivot) ≡ false
    around_pivot =
        elim (backward.search.moved pivot) [
          | inr moved ↦ ap is_left (new_place pivot ∙ ap settled moved.1)
          | inl same ↦
              let shut : is_ahead (place_at late pivot) ≡ false = backward.starts_met pivot (one_contains pivot) in
              let h : is_ahead (place_at late pivot) ≡ true = ap is_ahead same ∙ met in
              absurd (cc)
        ]

    -- what is around leads to the pivot, and the pivot to it
    around_on_loop : (n : ℕ) → place_at late n ≡ Around → IsOnLoop g n
    around_on_loop n e =
        let back = reached_leads (near_numbers g Backward) (pivot ∷ []) n (backward.search.led_to n (backward.search.listed n e)) in
        let from : LeadsTo g n back.0 =
        leads_back (λ a b. Contains (parent_numbers g a) b) (λ parent child. Contains (child_numbers g parent) child) (λ a b step. child_of_parent g b a step) back.0 n back.2 in
        let same : back.0 ≡ pivot = contains_one pivot back.0 back.1 in
        let there : LeadsTo g n pivot = subst (λ (m : ℕ). LeadsTo g n m) same from in
        let first = reached_leads (near_numbers g Onward) (child_numbers g pivot) n (onward.search.led_to n (onward.search.listed n (around_ahead n e))) in
        cycle_through (λ parent child. Contains (child_numbers g parent) child) n pivot first.0 there first.1 first.2

    -- a node ahead with a step to one that is around is around too
    not_between : (x y : ℕ) → Contains (child_numbers g x) y → place_at late y ≡ Around → place_at mid x ≡ Ahead → place_at new x ≡ Left → ⊥
    not_between x y step e x_ahead left =
        let below : x < length mid = ahead-below mid x x_ahead in
        let shut : is_ahead (place_at late x) ≡ false = backward.closed y (backward.search.listed y e) x (parent_of_child g x y (omega arith) step) in
        elim (backward.search.moved x) [
          | inl same ↦ let h : is_ahead (place_at late x) ≡ true = ap is_ahead (same ∙ x_ahead) in cc
          | inr moved ↦ let h : Looped ≡ Left = ap settled (sym moved.1) ∙ sym (new_place x) ∙ left in cc
        ]

    around_known : (reached : List ℕ) → IsJudged g reached old → IsJudged g reached new
    around_known reached known =
        record {
          whole = λ x y left step back.
              elim (outcome x) [
                | inr looped ↦ let h : Looped ≡ Left = sym looped.1 ∙ left in absurd (cc)
                | inl same_x ↦
                    let y_left = known.whole x y (sym same_x ∙ left) step back in
                    elim (outcome y) [
                      | inl same_y ↦ same_y ∙ y_left
                      | inr looped ↦
                          let once : LeadsTo g x y = leads_first (λ parent child. Contains (child_numbers g parent) child) x y y step (leads_here (λ parent child. Contains (child_numbers g parent) child) y) in
                          let x_ahead = (ahead_round reached known y x back once (y_left, around_ahead y looped.0)).1 in
                          absurd (not_between x y step looped.0 x_ahead left)
                    ]
              ];
          looped = λ n e. elim (outcome n) [ inl same ↦ known.looped n (sym same ∙ e) | inr looped ↦ around_on_loop n looped.0 ];
          clear = λ n among e.
              elim (outcome n) [
                | inl same ↦ known.clear n among (sym same ∙ e)
                | inr looped ↦ let h : Looped ≡ Clear = sym looped.1 ∙ e in absurd (cc)
              ];
        }

    pub around_judged : KeepsJudged g old new
    around_judged = around_known

-- What is known once the pivot, which is on no loop, is cleared.
pub record IsCleared (g : GraphParts) (pivot : ℕ) (old new : List Place) : Type 0 where
  pub resting : IsResting new
  pub judged : KeepsJudged g old new
  pub answers : KeepsAnswers old new

pub cleared_pivot : (g : GraphParts) (pivot : ℕ) (old mid before : List Place) (ahead : List ℕ) → IsResting old → place_at old pivot ≡ Left → pivot < length before → IsSpread g Onward (child_numbers g pivot) old mid ahead → is_ahead (place_at mid pivot) ≡ false → IsChangedAt settled ahead mid before → IsCleared g pivot old (set before pivot Clear)
cleared_pivot g pivot old mid before ahead resting left below onward alone changed =
    let new : List Place = set before pivot Clear in
    let here : place_at new pivot ≡ Clear = get_or-set_same before pivot Clear Clear below in
    let others : (n : ℕ) → n ≢ pivot → place_at new n ≡ place_at old n = λ n differ. get_or-set_other before pivot n Clear Clear differ ∙ as_before g pivot old mid ahead resting left onward before changed n in
    record {
      resting = alone_resting g pivot old mid ahead resting left onward new alone here others;
      judged = alone_judged g pivot old mid ahead resting left onward new alone here others;
      answers = alone_answers g pivot old mid ahead resting left onward new alone here others;
    }
