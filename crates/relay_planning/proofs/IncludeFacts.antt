-- Include files as they are read: each as it is put behind others, and all together.
use Rattle.std.proofs.Common.{◌≡◌, ℕ, ◌+◌, ◌<◌, List, [], ◌∷◌, ◌++◌, length, get_or, map, take, refl, sym, ap, subst, ◌∙◌, arith, inl, inr, zero, suc}
use Rattle.std.specs.Prelude.{All, IfSome}
use Rattle.std.proofs.lemmas.Bool.{cases_lt}
use Rattle.std.proofs.lemmas.List.{get_or_push, get_or_append_left, length_push, take_more}
use Rattle.relay_aliasfile.specs.IncludeFiles.{include_file_of}
use Rattle.relay_job.specs.declared.job.JobInclude.{JobInclude}
use Rattle.relay_planning.specs.declared.includes.IncludeReading.{IncludeReading}
use Rattle.relay_planning.specs.Includes.{include_in, IsReadingOf, IsSound, AreReadings}

-- what stands for an include file past the end of their list
abbrev no_include : JobInclude
no_include = record { path = []; bytes = [] }

module _ (R : JobInclude → IncludeReading → Type 0) where
  readings_push : (includes : List JobInclude) (readings : List IncludeReading) (include : JobInclude) (reading : IncludeReading) → AreReadings R includes readings → R include reading → AreReadings R (includes ++ include ∷ []) (readings ++ reading ∷ [])
  readings_push includes readings include reading so_far fits = record {
    long = omega (arith, so_far.long, length_push includes include, length_push readings reading);
    each = λ k i r within. elim (cases_lt k (length includes)) [
      | inl before ↦
          subst (λ x. R x (get_or (readings ++ reading ∷ []) k r)) (sym (get_or_append_left includes (include ∷ []) i k before))
          (subst (λ y. R (get_or includes k i) y) (sym (get_or_append_left readings (reading ∷ []) r k (omega (arith, before, so_far.long)))) (so_far.each k i r before))
      | inr late ↦
          (let last : length includes ≡ k = omega (arith, late, within, length_push includes include) in
          subst (λ x. R x (get_or (readings ++ reading ∷ []) k r)) (sym (get_or_push includes include i k last))
          (subst (λ y. R include y) (sym (get_or_push readings reading r k (so_far.long ∙ last))) fits))
    ];
  }

  -- one more include file
  pub readings_more : (includes : List JobInclude) (readings : List IncludeReading) (i : ℕ) (include : JobInclude) (reading : IncludeReading) → i < length includes → include ≡ get_or includes i include
      → AreReadings R (take i includes) readings → R include reading → AreReadings R (take (i + 1) includes) (readings ++ reading ∷ [])
  readings_more includes readings i include reading inside is so_far fits =
      let more : take (i + 1) includes ≡ take i includes ++ include ∷ [] = take_more includes i include inside ∙ ap (λ x. take i includes ++ x ∷ []) (sym is) in
      subst (λ is. AreReadings R is (readings ++ reading ∷ [])) (sym more) (readings_push (take i includes) readings include reading so_far fits)

module _ (includes : List JobInclude) (readings : List IncludeReading) (are : AreReadings IsReadingOf includes readings) where
  pub readings_sound : All IsSound readings
  readings_sound k reading inside =
      let at = are.each k no_include reading (omega (arith, inside, are.long)) in
      subst (λ i. IfSome (get_or readings k reading).file (λ file. file ≡ include_file_of i.bytes)) (sym at.of_include) at.file

  -- what was read is of the include files, in their order
  pub includes_of : map include_in readings ≡ includes
  includes_of = same_elements includes readings are.long (λ k include reading inside. (are.each k include reading inside).of_include) where
    same_elements : (is : List JobInclude) (rs : List IncludeReading) → length rs ≡ length is → ((k : ℕ) (include : JobInclude) (reading : IncludeReading) → k < length is → include_in (get_or rs k reading) ≡ get_or is k include) → map include_in rs ≡ is
    same_elements [] [] long each = refl
    same_elements [] (r ∷ rs) long each = absurd (omega (arith, long))
    same_elements (i ∷ is) [] long each = absurd (omega (arith, long))
    same_elements (i ∷ is) (r ∷ rs) long each =
        ap (λ x. x ∷ map include_in rs) (each zero i r (omega arith))
        ∙ ap (λ xs. i ∷ xs) (same_elements is rs (omega (arith, long)) (λ k include reading inside. each (suc k) include reading (omega (arith, inside))))
