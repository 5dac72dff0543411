-- Walks along a relation of numbers.
use Rattle.std.proofs.Common.{◌≡◌, ℕ, List, [], ◌∷◌, ◌++◌, refl, sym, subst, ◌⊎◌, inl, inr}
use Rattle.relay_rounds.specs.Walks.{IsWalk, IsOnCycle}
use Rattle.relay_loops.specs.Judging.{Leads}

module _ (next : ℕ → ℕ → Type 0) where
  pub leads_here : (a : ℕ) → Leads next a a
  leads_here a = record { path = []; walk = refl }

  pub leads_first : (a b c : ℕ) → next a b → Leads next b c → Leads next a c
  leads_first a b c step r = record { path = b ∷ r.path; walk = (step, r.walk) }

  walk_on : (a b c : ℕ) (p q : List ℕ) → IsWalk next a p b → IsWalk next b q c → IsWalk next a (p ++ q) c
  walk_on a b c [] q h k = subst (λ (x : ℕ). IsWalk next x q c) (sym h) k
  walk_on a b c (x ∷ p) q h k = (h.0, walk_on x b c p q h.1 k)

  pub leads_on : (a b c : ℕ) → Leads next a b → Leads next b c → Leads next a c
  leads_on a b c r s = record { path = r.path ++ s.path; walk = walk_on a b c r.path s.path r.walk s.walk }

  pub leads_last : (a b c : ℕ) → Leads next a b → next b c → Leads next a c
  leads_last a b c r step = leads_on a b c r (leads_first b c c step (leads_here c))

  -- what steps keep, walks keep
  keeps_walk : (C : ℕ → Type 0) → ((x y : ℕ) → next x y → C x → C y) → (a b : ℕ) (p : List ℕ) → IsWalk next a p b → C a → C b
  keeps_walk C keeps a b [] h here = subst C h here
  keeps_walk C keeps a b (x ∷ p) h here = keeps_walk C keeps x b p h.1 (keeps a x h.0 here)

  pub leads_keeps : (C : ℕ → Type 0) → ((x y : ℕ) → next x y → C x → C y) → (a b : ℕ) → Leads next a b → C a → C b
  leads_keeps C keeps a b r here = keeps_walk C keeps a b r.path r.walk here

  -- the first step of a way, if it has one
  walk_split : (a b : ℕ) (p : List ℕ) → IsWalk next a p b → (a ≡ b) ⊎ ((x : ℕ) × next a x × Leads next x b)
  walk_split a b [] h = inl h
  walk_split a b (x ∷ p) h = let rest : Leads next x b = record { path = p; walk = h.1 } in inr (x, h.0, rest)

  pub leads_split : (a b : ℕ) → Leads next a b → (a ≡ b) ⊎ ((x : ℕ) × next a x × Leads next x b)
  leads_split a b r = walk_split a b r.path r.walk

  -- round by way of a step
  pub cycle_through : (x p s : ℕ) → Leads next x p → next p s → Leads next s x → IsOnCycle next x
  cycle_through x p s there step back =
      elim (leads_split x p there) [
        | inl e ↦ (s, back.path, subst (λ (y : ℕ). next y s) (sym e) step, back.walk)
        | inr way ↦
            let rest : Leads next way.0 x = leads_on way.0 p x way.2 (leads_first p s x step back) in
            (way.0, rest.path, way.1, rest.walk)
      ]

module _ (next other : ℕ → ℕ → Type 0) where
  walk_as : ((x y : ℕ) → next x y → other x y) → (a b : ℕ) (p : List ℕ) → IsWalk next a p b → IsWalk other a p b
  walk_as as_other a b [] h = h
  walk_as as_other a b (x ∷ p) h = (as_other a x h.0, walk_as as_other x b p h.1)

  pub leads_as : ((x y : ℕ) → next x y → other x y) → (a b : ℕ) → Leads next a b → Leads other a b
  leads_as as_other a b r = record { path = r.path; walk = walk_as as_other a b r.path r.walk }

  -- steps one way that are steps the other way lead back
  walk_back : ((x y : ℕ) → next x y → other y x) → (a b : ℕ) (p : List ℕ) → IsWalk next a p b → Leads other b a
  walk_back turned a b [] h = subst (λ (x : ℕ). Leads other x a) h (leads_here other a)
  walk_back turned a b (x ∷ p) h = leads_last other b x a (walk_back turned x b p h.1) (turned a x h.0)

  pub leads_back : ((x y : ℕ) → next x y → other y x) → (a b : ℕ) → Leads next a b → Leads other b a
  leads_back turned a b r = walk_back turned a b r.path r.walk

  -- steps that may also stay where they are
  walk_lazy : ((x y : ℕ) → next x y → (x ≡ y) ⊎ other x y) → (a b : ℕ) (p : List ℕ) → IsWalk next a p b → Leads other a b
  walk_lazy lazy a b [] h = subst (λ (x : ℕ). Leads other a x) h (leads_here other a)
  walk_lazy lazy a b (x ∷ p) h =
      let rest : Leads other x b = walk_lazy lazy x b p h.1 in
      elim (lazy a x h.0) [
        | inl e ↦ subst (λ (y : ℕ). Leads other y b) (sym e) rest
        | inr step ↦ leads_first other a x b step rest
      ]

  pub leads_lazy : ((x y : ℕ) → next x y → (x ≡ y) ⊎ other x y) → (a b : ℕ) → Leads next a b → Leads other a b
  leads_lazy lazy a b r = walk_lazy lazy a b r.path r.walk

module _ (next : ℕ → ℕ → Type 0) (C : ℕ → Type 0) (keeps : (x y : ℕ) → next x y → Leads next y x → C x → C y) where
  round_walk : (a b : ℕ) (p : List ℕ) → IsWalk next a p b → Leads next b a → C a → C b
  round_walk a b [] h back here = subst C h here
  round_walk a b (x ∷ p) h back here =
      let rest : Leads next x b = record { path = p; walk = h.1 } in
      round_walk x b p h.1 (leads_last next b a x back h.0) (keeps a x h.0 (leads_on next x b a rest back) here)

  -- what the steps of a loop keep, the way along it keeps
  pub round_keeps : (a b : ℕ) → Leads next a b → Leads next b a → C a → C b
  round_keeps a b there back here = round_walk a b there.path there.walk back here
