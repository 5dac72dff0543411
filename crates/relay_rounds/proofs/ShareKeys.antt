-- What is found share by share.
use Rattle.std.proofs.Common.{◌≡◌, ℕ, ◌<◌, List, [], ◌∷◌, ◌++◌, length, get_or, map, max, Ok, IfOk, arith, sym, refl, ap, ◌∙◌, subst, Bor}
use Rattle.std.specs.Prelude.{All, Contains, flat_map, ◌≤◌}
use Rattle.std.specs.List.{AllZip}
use Rattle.std.specs.declared.result.Result.{Result}
use Rattle.std.proofs.lemmas.List.Concat.{flat_map-append}
use Rattle.std.proofs.lemmas.List.Elements.{All-contains, Contains-get_or}
use Rattle.rayon.specs.Lists.{chunks_of}
use Rattle.rayon.proofs.ToStd.{chunks_of-concat}
use Rattle.relay_rounds.proofs.Keys.{all_of, in_flat_map}

-- what holds of each key holds of each key of each share
pub each_share : (P : ℕ → Type 0) (keys : List ℕ) (size : ℕ) → 0 < size → All P keys → All (λ (share : List ℕ). All P share) (chunks_of size keys)
each_share P keys size some all k d within =
    let shares : List (List ℕ) = chunks_of size keys in
    let share : List ℕ = get_or shares k d in
    all_of P share (λ key on. All-contains P keys key all
    (subst (λ (ks : List ℕ). Contains ks key) (chunks_of-concat size keys some) (in_flat_map (λ (l : List ℕ). l) shares share key (Contains-get_or shares k d within) on)))

-- what the shares lead to, put together, is what all keys lead to
pub shares_together : {V : Type 0} (E : Type 0) (items : V → List ℕ) (next : ℕ → List ℕ) (shares : List (Bor (List ℕ))) (parts : List V)
    → AllZip (λ (share : Bor (List ℕ)) (part : Result V E). IfOk part (λ v. items v ≡ flat_map next share.now)) shares (map Ok parts)
    → flat_map items parts ≡ flat_map next (flat_map (λ (l : List ℕ). l) (map (λ (share : Bor (List ℕ)). share.now) shares))
shares_together E items next [] [] each = refl
shares_together E items next [] (part ∷ parts) each = absurd each
shares_together E items next (share ∷ shares) [] each = absurd each
shares_together E items next (share ∷ shares) (part ∷ parts) each =
    let rest : List ℕ = flat_map (λ (l : List ℕ). l) (map (λ (s : Bor (List ℕ)). s.now) shares) in
    let later : flat_map items parts ≡ flat_map next rest = shares_together E items next shares parts each.1 in
    (λ i. each.0 i ++ later i) ∙ sym (flat_map-append next share.now rest)
