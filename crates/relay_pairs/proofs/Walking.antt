-- What is reached along walks.
use Rattle.std.proofs.Common.{List, [], ◌∷◌, ◌++◌, refl, sym, subst}
use Rattle.relay_rounds.specs.Walks.{IsWalk, IsReached}

module _ {X : Type 0} (starts : X → Type 0) (next : X → X → Type 0) where
  pub reached_start : (x : X) → starts x → IsReached starts next x
  reached_start x s = (x, [], s, refl)

  walk_last : (a b c : X) (p : List X) → IsWalk next a p b → next b c → IsWalk next a (p ++ c ∷ []) c
  walk_last a b c [] h step = (subst (λ (x : X). next x c) (sym h) step, refl)
  walk_last a b c (x ∷ p) h step = (h.0, walk_last x b c p h.1 step)

  pub reached_step : (x y : X) → IsReached starts next x → next x y → IsReached starts next y
  reached_step x y r step = (r.0, r.1 ++ y ∷ [], r.2, walk_last r.0 x y r.1 r.3 step)

  -- what holds at the starts, and goes on along each step from what is reached, holds of all that is reached
  module _ (P : X → Type 0) (first : (x : X) → starts x → P x) (keeps : (x y : X) → IsReached starts next x → P x → next x y → P y) where
    along : (a b : X) (p : List X) → IsWalk next a p b → IsReached starts next a → P a → P b
    along a b [] h r here = subst P h here
    along a b (x ∷ p) h r here = along x b p h.1 (reached_step a x r h.0) (keeps a x r here h.0)

    pub reached_all : (x : X) → IsReached starts next x → P x
    reached_all x r = along r.0 x r.1 r.3 (reached_start r.0 r.2) (first r.0 r.2)
