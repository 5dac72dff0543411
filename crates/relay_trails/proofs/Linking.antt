-- The trails of steps, and of one step more.
use Rattle.std.proofs.Common.{◌≡◌, ℕ, ◌+◌, ◌<◌, ◌≤◌, List, [], ◌∷◌, ◌++◌, length, get_or, refl, sym, ap, ◌∙◌, subst, inl, inr, ◌⊎◌, arith}
use Rattle.std.proofs.lemmas.Bool.{cases_lt}
use Rattle.std.proofs.lemmas.List.{length-append, get_or_append_left, get_or_push}
use Rattle.relay_trails.specs.declared.step.Link.{Link}
use Rattle.relay_trails.specs.declared.step.Link.TheVariants.{Recipient, Item}
use Rattle.relay_trails.specs.declared.step.Step.{Step}
use Rattle.relay_trails.specs.Trails.{Trail, IsLess}
use Rattle.relay_trails.specs.Steps.{AreLinked, IsBackward, IsEarlier, link_at, next_trail, no_step, no_trail, pair_at, place_at, trail_at, trail_by, trails_of, trails_on, with_item}
use Rattle.relay_trails.proofs.Orders.{recipients_less, recipient_less, less_item, item_less}

on_push : (trails : List Trail) (steps : List Step) (s : Step) → trails_on trails (steps ++ s ∷ []) ≡ trails_on trails steps ++ trail_by (trails_on trails steps) s.link ∷ []
on_push trails [] s = refl
on_push trails (x ∷ steps) s = on_push (trails ++ trail_by trails x.link ∷ []) steps s

on_length : (trails : List Trail) (steps : List Step) → length (trails_on trails steps) ≡ length trails + length steps
on_length trails [] = omega arith
on_length trails (x ∷ steps) =
    let e : length (trails ++ trail_by trails x.link ∷ []) ≡ length trails + 1 = length-append trails (trail_by trails x.link ∷ []) in
    let h = on_length (trails ++ trail_by trails x.link ∷ []) steps in
    omega arith

trails_push : (steps : List Step) (s : Step) → trails_of (steps ++ s ∷ []) ≡ trails_of steps ++ trail_by (trails_of steps) s.link ∷ []
unfolding trails_of
trails_push steps s = on_push [] steps s

trails_length : (steps : List Step) → length (trails_of steps) ≡ length steps
unfolding trails_of
trails_length steps = omega (arith, on_length [] steps)

pub earlier_backward : (a b : Link) (n : ℕ) → IsEarlier a b → IsBackward b n → IsBackward a n
earlier_backward (Recipient q) b n h k = tt
earlier_backward (Item j i) (Recipient r) n h k = elim h [ ]
earlier_backward (Item j i) (Item m l) n h k = elim h [ inl less ↦ omega arith | inr same ↦ let e = same.0 in omega arith ]

pub backward_more : (a : Link) (m n : ℕ) → m ≤ n → IsBackward a m → IsBackward a n
backward_more (Recipient q) m n h k = tt
backward_more (Item j i) m n h k = omega arith

module _ (steps : List Step) (s : Step) where
  pub one_more : length (steps ++ s ∷ []) ≡ length steps + 1
  one_more = length-append steps (s ∷ [])

  pub last_cases : (k : ℕ) → k < length (steps ++ s ∷ []) → (k < length steps) ⊎ (k ≡ length steps)
  last_cases k h =
      let e = one_more in
      elim (cases_lt k (length steps)) [ inl less ↦ inl less | inr no_less ↦ inr (omega arith) ]

  pub trail_before : (k : ℕ) → k < length steps → trail_at (steps ++ s ∷ []) k ≡ trail_at steps k
  trail_before k h =
      let e = trails_length steps in
      ap (λ (ts : List Trail). get_or ts k no_trail) (trails_push steps s) ∙ get_or_append_left (trails_of steps) (next_trail steps s.link ∷ []) no_trail k (omega arith)

  pub trail_new : trail_at (steps ++ s ∷ []) (length steps) ≡ next_trail steps s.link
  trail_new = ap (λ (ts : List Trail). get_or ts (length steps) no_trail) (trails_push steps s) ∙ get_or_push (trails_of steps) (next_trail steps s.link) no_trail (length steps) (trails_length steps)

  step_before : (k : ℕ) → k < length steps → get_or (steps ++ s ∷ []) k no_step ≡ get_or steps k no_step
  step_before k h = get_or_append_left steps (s ∷ []) no_step k h

  step_new : get_or (steps ++ s ∷ []) (length steps) no_step ≡ s
  step_new = get_or_push steps s no_step (length steps) refl

  pub place_before : (k : ℕ) → k < length steps → place_at (steps ++ s ∷ []) k ≡ place_at steps k
  place_before k h = ap (λ (x : Step). x.place) (step_before k h)

  pub place_new : place_at (steps ++ s ∷ []) (length steps) ≡ s.place
  place_new = ap (λ (x : Step). x.place) step_new

  pub pair_before : (k : ℕ) → k < length steps → pair_at (steps ++ s ∷ []) k ≡ pair_at steps k
  pair_before k h = ap (λ (x : Step). x.pair) (step_before k h)

  pub pair_new : pair_at (steps ++ s ∷ []) (length steps) ≡ s.pair
  pair_new = ap (λ (x : Step). x.pair) step_new

  pub link_before : (k : ℕ) → k < length steps → link_at (steps ++ s ∷ []) k ≡ link_at steps k
  link_before k h = ap (λ (x : Step). x.link) (step_before k h)

  pub link_new : link_at (steps ++ s ∷ []) (length steps) ≡ s.link
  link_new = ap (λ (x : Step). x.link) step_new

  -- a link to one of the steps means the same trail after one step more
  pub next_same : (a : Link) → IsBackward a (length steps) → next_trail (steps ++ s ∷ []) a ≡ next_trail steps a
  next_same (Recipient r) h = refl
  next_same (Item k i) h = ap (λ (t : Trail). with_item t i) (trail_before k h)

  pub linked_push : AreLinked steps → IsBackward s.link (length steps) → AreLinked (steps ++ s ∷ [])
  linked_push linked back =
      record {
        backward = λ k below.
            elim (last_cases k below) [
              | inl old ↦ subst (λ (a : Link). IsBackward a k) (sym (link_before k old)) (linked.backward k old)
              | inr new ↦
                  let here : IsBackward (link_at (steps ++ s ∷ []) (length steps)) (length steps) = subst (λ (a : Link). IsBackward a (length steps)) (sym link_new) back in
                  subst (λ (n : ℕ). IsBackward (link_at (steps ++ s ∷ []) n) n) (sym new) here
            ];
        trails = λ k below.
            elim (last_cases k below) [
              | inl old ↦
                  let a : Link = link_at steps k in
                  trail_before k old ∙ linked.trails k old ∙ sym (next_same a (backward_more a k (length steps) (omega arith) (linked.backward k old))) ∙ ap (next_trail (steps ++ s ∷ [])) (sym (link_before k old))
              | inr new ↦
                  let here : trail_at (steps ++ s ∷ []) (length steps) ≡ next_trail (steps ++ s ∷ []) (link_at (steps ++ s ∷ []) (length steps)) =
                  trail_new ∙ sym (next_same s.link back) ∙ ap (next_trail (steps ++ s ∷ [])) (sym link_new) in
                  subst (λ (n : ℕ). trail_at (steps ++ s ∷ []) n ≡ next_trail (steps ++ s ∷ []) (link_at (steps ++ s ∷ []) n)) (sym new) here
            ];
      }

-- where the trails of steps rise, those of links rise as the search takes them
pub links_rise : (steps : List Step) → ((j k : ℕ) → j < k → k < length steps → IsLess (trail_at steps j) (trail_at steps k)) → (a b : Link) → IsEarlier a b → IsBackward b (length steps) → IsLess (next_trail steps a) (next_trail steps b)
links_rise steps rising (Recipient q) (Recipient r) h back = recipients_less q r h
links_rise steps rising (Recipient q) (Item k i) h back = recipient_less q (trail_at steps k) i
links_rise steps rising (Item j h) (Recipient r) e back = elim e [ ]
links_rise steps rising (Item j h) (Item k i) e back =
    elim e [
      | inl less ↦ less_item (trail_at steps j) (trail_at steps k) h i (rising j k less back)
      | inr same ↦ subst (λ (n : ℕ). IsLess (with_item (trail_at steps j) h) (with_item (trail_at steps n) i)) same.0 (item_less (trail_at steps j) h i same.1)
    ]
