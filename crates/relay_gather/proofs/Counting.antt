-- Files that are counted one after another.
use Rattle.std.proofs.Common.{◌≡◌, ℕ, ◌+◌, ◌<◌, List, [], ◌∷◌, ◌++◌, length, map, take, get_or, sym, ap, subst, ◌∙◌}
use Rattle.std.proofs.lemmas.List.{map-append, take_more}
use Rattle.relay_gather.specs.Source.{Answer, Refuses}
use Rattle.relay_gather.specs.Origins.{IsUncounted}
use Rattle.relay_job.specs.declared.fault.RunFault.{RunFault}
use Rattle.relay_gather.proofs.Joining.{same_answers}

pub one_more : {X Y : Type 0} (f : X → Y) (xs : List X) (i : ℕ) (x : X) (ys new : List Y) (y : Y) → i < length xs → x ≡ get_or xs i x → new ≡ ys ++ y ∷ [] → ys ≡ map f (take i xs) → y ≡ f x → new ≡ map f (take (i + 1) xs)
one_more f xs i x ys new y inside is put before here =
    put ∙ ap (λ l. l ++ y ∷ []) before ∙ ap (λ z. map f (take i xs) ++ z ∷ []) here ∙ ap (λ z. map f (take i xs) ++ f z ∷ []) is
    ∙ sym (map-append f (take i xs) (get_or xs i x ∷ [])) ∙ ap (map f) (sym (take_more xs i x inside))

-- what a source refuses later
pub refused_later : (before answer : List ℕ → Answer) (fault : RunFault) → ((p : List ℕ) → before p ≡ answer p) → Refuses before (IsUncounted before) fault → Refuses answer (IsUncounted answer) fault
refused_later before answer fault alike h = subst (λ (f : List ℕ → Answer). Refuses f (IsUncounted f) fault) (same_answers alike) h
