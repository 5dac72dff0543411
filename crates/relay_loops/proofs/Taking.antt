-- Nodes are taken by a search, one after another.
use Rattle.std.proofs.Common.{set, get_or-set_same, get_or-set_other, ◌+◌, ◌++◌, ◌≢◌, take, ◌≡◌, ℕ, ◌<◌, true, false, List, [], ◌∷◌, length, length-append, length-set, get_or, refl, subst, sym, ap, ◌∙◌, ◌⊎◌, inl, inr, arith, Contains}
use Rattle.std.proofs.lemmas.Bool.{cases_Bool}
use Rattle.std.proofs.lemmas.Bool.Decides.{eqb_tells}
use Rattle.std.proofs.lemmas.List.Elements.{Contains-push, Contains-push_cases, Contains-append_left, Contains-append_right, Contains-append_cases}
use Rattle.std.proofs.lemmas.List.{take_more, get_or_append_left}
use Rattle.relay_loops.specs.declared.place.Place.{Place}
use Rattle.relay_loops.specs.declared.place.Place.TheVariants.{Clear}
use Rattle.relay_loops.specs.declared.direction.Direction.{Direction}
use Rattle.relay_loops.specs.Bounds.{open-below}
use Rattle.relay_loops.specs.Places.{place_at, is_open, met_place}
use Rattle.relay_loops.specs.Searches.{AreTaken}
use Rattle.relay_loops.proofs.Placing.{met-not_open}

pub contains_one : (x n : ℕ) → Contains (x ∷ []) n → n ≡ x
contains_one x n c = elim (Contains-push_cases [] x n c) [ inl none ↦ absurd (omega (arith, none.1)) | inr e ↦ sym e ]

pub one_contains : (x : ℕ) → Contains (x ∷ []) x
one_contains x = Contains-push [] x

pub taken_none : (d : Direction) (places : List Place) (found : List ℕ) → AreTaken d [] places places found found
taken_none d places found =
    record {
      searched = λ g starts first led before. before;
      none_open = λ n c. absurd (omega (arith, c.1));
      fewer = λ n here. here;
      from_either = λ n c. inl c;
      within = λ inside. inside;
      longer = omega arith;
      kept = λ k below. refl;
    }

pub taken_then : (d : Direction) (xs ys : List ℕ) (a b c : List Place) (f g h : List ℕ) → AreTaken d xs a b f g → AreTaken d ys b c g h → AreTaken d (xs ++ ys) a c f h
taken_then d xs ys a b c f g h first second =
    let longer_first = first.longer in
    let longer_second = second.longer in
    record {
      searched = λ graph starts old led before.
          second.searched graph starts old (λ n among. led n (Contains-append_right xs ys n among)) (first.searched graph starts old (λ n among. led n (Contains-append_left xs ys n among)) before);
      none_open = λ n among.
          elim (Contains-append_cases xs ys n among) [
            | inr here ↦ second.none_open n here
            | inl earlier ↦
                elim (cases_Bool (is_open d (place_at c n))) [
                  | inr shut ↦ shut
                  | inl open_here ↦ let was = second.fewer n open_here in let none = first.none_open n earlier in cc
                ]
          ];
      fewer = λ n here. first.fewer n (second.fewer n here);
      from_either = λ n among.
          elim (second.from_either n among) [
            | inr here ↦ inr (Contains-append_right xs ys n here)
            | inl earlier ↦ elim (first.from_either n earlier) [ inl before ↦ inl before | inr here ↦ inr (Contains-append_left xs ys n here) ]
          ];
      within = λ inside. second.within (first.within inside);
      longer = omega arith;
      kept = λ k below. second.kept k (omega arith) ∙ first.kept k below;
    }

pub taken_more : (d : Direction) (nodes : List ℕ) (i : ℕ) (a b c : List Place) (f g h : List ℕ) → i < length nodes → AreTaken d (take i nodes) a b f g → AreTaken d (get_or nodes i 0 ∷ []) b c g h → AreTaken d (take (i + 1) nodes) a c f h
taken_more d nodes i a b c f g h below first second =
    let more : take (i + 1) nodes ≡ take i nodes ++ get_or nodes i 0 ∷ [] = take_more nodes i 0 below in
    subst (λ (l : List ℕ). AreTaken d l a c f h) (sym more) (taken_then d (take i nodes) (get_or nodes i 0 ∷ []) a b c f g h first second)

-- a node that isn't open is left out
pub taken_other : (d : Direction) (places : List Place) (node : ℕ) (found : List ℕ) → is_open d (place_at places node) ≡ false → AreTaken d (node ∷ []) places places found found
taken_other d places node found shut =
    record {
      searched = λ g starts first led before. before;
      none_open = λ n c. subst (λ (m : ℕ). is_open d (place_at places m) ≡ false) (sym (contains_one node n c)) shut;
      fewer = λ n here. here;
      from_either = λ n c. inl c;
      within = λ inside. inside;
      longer = omega arith;
      kept = λ k below. refl;
    }

module _ (d : Direction) (places : List Place) (node : ℕ) (found : List ℕ) (open_here : is_open d (place_at places node) ≡ true) where
  here : place_at (set places node (met_place d)) node ≡ met_place d
  here = get_or-set_same places node (met_place d) Clear (open-below d places node open_here)

  others : (n : ℕ) → n ≢ node → place_at (set places node (met_place d)) n ≡ place_at places n
  others n differ = get_or-set_other places node n (met_place d) Clear differ

  not_met : place_at places node ≡ met_place d → ⊥
  not_met e = let shut = met-not_open d in let was : is_open d (place_at places node) ≡ is_open d (met_place d) = ap (is_open d) e in cc

  shut_now : (n : ℕ) → is_open d (place_at (set places node (met_place d)) n) ≡ true → n ≢ node
  shut_now n open_now e =
      let now : is_open d (place_at (set places node (met_place d)) n) ≡ is_open d (met_place d) = ap (is_open d) (subst (λ (m : ℕ). place_at (set places node (met_place d)) m ≡ met_place d) (sym e) here) in
      let shut = met-not_open d in
      cc

  -- an open one is met
  pub taken_open : AreTaken d (node ∷ []) places (set places node (met_place d)) found (found ++ node ∷ [])
  taken_open =
      record {
        searched = λ g starts first led before.
            record {
              moved = λ n.
                  elim (eqb_tells n node) [
                    | inr differ ↦
                        elim (before.moved n) [
                          | inl same ↦ inl (others n differ.1 ∙ same)
                          | inr met ↦ inr (met.0, others n differ.1 ∙ met.1)
                        ]
                    | inl e ↦
                        elim (before.moved node) [
                          | inr met ↦ absurd (not_met met.1)
                          | inl same ↦
                              let was : is_open d (place_at first node) ≡ true = ap (is_open d) (sym same) ∙ open_here in
                              subst (λ (m : ℕ). (place_at (set places node (met_place d)) m ≡ place_at first m) ⊎ ((is_open d (place_at first m) ≡ true) × (place_at (set places node (met_place d)) m ≡ met_place d))) (sym e.1) (inr (was, here))
                        ]
                  ];
              listed = λ n met.
                  elim (eqb_tells n node) [
                    | inl e ↦ subst (λ (m : ℕ). Contains (found ++ node ∷ []) m) (sym e.1) (Contains-push found node)
                    | inr differ ↦ Contains-append_left found (node ∷ []) n (before.listed n (sym (others n differ.1) ∙ met))
                  ];
              met = λ n c.
                  elim (Contains-push_cases found node n c) [
                    | inr e ↦ subst (λ (m : ℕ). place_at (set places node (met_place d)) m ≡ met_place d) e here
                    | inl earlier ↦
                        elim (eqb_tells n node) [
                          | inl e ↦ absurd (not_met (subst (λ (m : ℕ). place_at places m ≡ met_place d) e.1 (before.met n earlier)))
                          | inr differ ↦ others n differ.1 ∙ before.met n earlier
                        ]
                  ];
              led_to = λ n c.
                  elim (Contains-push_cases found node n c) [
                    | inl earlier ↦ before.led_to n earlier
                    | inr e ↦ led n (subst (λ (m : ℕ). Contains (node ∷ []) m) e (one_contains node))
                  ];
            };
        none_open = λ n c. ap (is_open d) (subst (λ (m : ℕ). place_at (set places node (met_place d)) m ≡ met_place d) (sym (contains_one node n c)) here) ∙ met-not_open d;
        fewer = λ n open_now. ap (is_open d) (sym (others n (shut_now n open_now))) ∙ open_now;
        from_either = λ n c. Contains-append_cases found (node ∷ []) n c;
        within = λ inside n c.
            elim (Contains-push_cases found node n c) [
              | inl earlier ↦ let below : n < length places = inside n earlier in rw length-set below
              | inr e ↦ let below : node < length places = open-below d places node open_here in rw length-set (subst (λ (m : ℕ). m < length places) e below)
            ];
        longer = omega (arith, length-append found (node ∷ []));
        kept = λ k below. get_or_append_left found (node ∷ []) 0 k below;
      }
