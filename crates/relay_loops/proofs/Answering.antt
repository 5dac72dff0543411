-- The beginning and the end of the answers.
use Rattle.std.proofs.Common.{◌≡◌, ℕ, true, false, List, [], filter, Contains, refl, sym, ap, ◌∙◌, ◌⊎◌, inl, inr}
use Rattle.std.proofs.lemmas.List.Kept.{IsStrictlyIncreasing-filter}
use Rattle.relay_tables.specs.GraphParts.{GraphParts}
use Rattle.relay_tables.specs.Graphs.{child_numbers}
use Rattle.relay_loops.specs.declared.place.Place.{Place}
use Rattle.relay_loops.specs.declared.place.Place.TheVariants.{Left, Ahead, Around, Looped, Clear}
use Rattle.relay_loops.specs.Judging.{IsResting, IsJudged}
use Rattle.relay_loops.specs.Leading.{HasLoops}
use Rattle.relay_loops.specs.Loops.{IsClosedPart, AreLoopsOf}
use Rattle.relay_loops.specs.Places.{place_at, is_left, is_looped, is_resting, IsChangedAt}
use Rattle.relay_loops.proofs.Members.{contains_dec, Contains-filter, Contains-from_filter}
use Rattle.relay_loops.proofs.Placing.{looped_place}
use Rattle.relay_loops.proofs.Walking.{cycle_through, leads_here}

module _ (g : GraphParts) (part nodes : List ℕ) (closed : IsClosedPart g part) (has : HasLoops g part nodes) (places : List Place) (first : IsChangedAt (λ _. Left) nodes [] places) where
  first_other : (n : ℕ) → (Contains nodes n × (place_at places n ≡ Left)) ⊎ (place_at places n ≡ Clear)
  first_other n =
      elim (contains_dec nodes n) [
        | inl c ↦ inl (c, first.changed n c)
        | inr absent ↦ inr (first.same n absent)
      ]

  pub first_resting : IsResting places
  first_resting n = elim (first_other n) [ inl left ↦ ap is_resting left.1 | inr clear ↦ ap is_resting clear ]

  pub first_judged : IsJudged g part places
  first_judged =
      record {
        whole = λ x y left step back.
            elim (first_other x) [
              | inl h ↦
                  let next : ℕ → ℕ → Type 0 = λ parent child. Contains (child_numbers g parent) child in
                  let round = cycle_through next y x y back step (leads_here next y) in
                  first.changed y (has.loops y (closed.children x y (has.among x h.0) step) round)
              | inr clear ↦ let h : Clear ≡ Left = sym clear ∙ left in absurd (cc)
            ];
        looped = λ n e.
            elim (first_other n) [
              | inl left ↦ let h : Left ≡ Looped = sym left.1 ∙ e in absurd (cc)
              | inr clear ↦ let h : Clear ≡ Looped = sym clear ∙ e in absurd (cc)
            ];
        clear = λ n c e loop. let h : Left ≡ Clear = sym (first.changed n (has.loops n c loop)) ∙ e in absurd (cc);
      }

answer_cases : (p : Place) → is_left p ≡ false → is_resting p ≡ true → (p ≡ Looped) ⊎ (p ≡ Clear)
answer_cases Left h r = cc
answer_cases Ahead h r = cc
answer_cases Around h r = cc
answer_cases Looped h r = inl refl
answer_cases Clear h r = inr refl

pub answers_all : (g : GraphParts) (part nodes : List ℕ) (places : List Place) → HasLoops g part nodes → IsResting places → IsJudged g part places → ((n : ℕ) → Contains nodes n → is_left (place_at places n) ≡ false)
    → AreLoopsOf g part (filter (λ n. is_looped (place_at places n)) nodes)
answers_all g part nodes places has resting known answered =
    record {
      ascending = IsStrictlyIncreasing-filter (λ (n : ℕ). is_looped (place_at places n)) nodes has.ascending;
      members = λ n. (
        λ c.
            let f = Contains-from_filter (λ (m : ℕ). is_looped (place_at places m)) nodes n c in
            (has.among n f.0, known.looped n (looped_place (place_at places n) f.1)),
        λ h.
            let among = has.loops n h.0 h.1 in
            elim (answer_cases (place_at places n) (answered n among) (resting n)) [
              | inl looped ↦ Contains-filter (λ (m : ℕ). is_looped (place_at places m)) nodes n among (ap is_looped looped)
              | inr clear ↦ absurd (known.clear n h.0 clear h.1)
            ],
      );
    }
