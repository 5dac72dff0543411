-- What a step says that ends with a fault.
use Rattle.std.proofs.Common.{◌≡◌, ◌≢◌, List, ℕ, ◌<◌, length, Option, Some, None, Ok, Err, refl, ap, ◌∙◌}
use Rattle.std.specs.Option.{IfSome}
use Rattle.std.specs.declared.result.Result.{Result}
use Rattle.relay_job.specs.declared.fault.RunFault.{RunFault}
use Rattle.relay_job.specs.declared.fault.RunFault.TheVariants.{Read, TooLong, BadJob, BadSetting, BadEnvelope, TooManyNames, TooManyOwners, TooManyPairs, Write, Memory}
use Rattle.relay_planning.specs.declared.options.Limits.{Limits}
use Rattle.aliasplan.specs.Outcomes.{IsReadFault}
use Rattle.aliasplan_each.specs.Runs.{RefusesEach, RefusesEachBytes}

-- what holds where a step ends with a fault holds where the run does
pub told : {A B X Y : Type 0} (e f : RunFault) (a : Result A RunFault) (b : Result B RunFault) → a ≡ Err e → b ≡ Err e → (a ≡ Err f → X) × (a ≢ Err f → Y) → (b ≡ Err f → X) × (b ≢ Err f → Y)
told e f a b is was h = (
  λ q. let same : e ≡ f = cc in h.0 (is ∙ ap (λ (x : RunFault). Err x) same),
  λ n. h.1 (λ q. let same : e ≡ f = cc in n (was ∙ ap (λ (x : RunFault). Err x) same)),
)

-- where a step ends with neither's fault, both work as before
pub untold : {A X Y : Type 0} (e f : RunFault) (a : Result A RunFault) → a ≡ Err e → (e ≡ f → ⊥) → Y → (a ≡ Err f → X) × (a ≢ Err f → Y)
untold e f a is unlike y = (λ q. let same : e ≡ f = cc in absurd (unlike same), λ n. y)

-- a step that went well has no fault
pub never-err : {A E : Type 0} (x : A) (e : E) (r : Result A E) → r ≡ Ok x → r ≡ Err e → ⊥
never-err x e r is was = cc

-- but for these faults, the reader has ended
pub ended-else : {A X : Type 0} (fault : RunFault) (r : Result A RunFault) → r ≡ Err fault → IsReadFault fault → r ≢ Err Read → r ≢ Err TooLong → r ≢ Err Memory → X
ended-else Read r is only read long memory = absurd (read is)
ended-else TooLong r is only read long memory = absurd (long is)
ended-else Memory r is only read long memory = absurd (memory is)
ended-else (BadJob number) r is only read long memory = absurd only
ended-else (BadSetting number) r is only read long memory = absurd only
ended-else (BadEnvelope number) r is only read long memory = absurd only
ended-else TooManyNames r is only read long memory = absurd only
ended-else TooManyOwners r is only read long memory = absurd only
ended-else TooManyPairs r is only read long memory = absurd only
ended-else Write r is only read long memory = absurd only

module _ (limits : Limits) where
  -- a text that could not be read whole
  refuses-text : (input : List ℕ) (fault : RunFault) → IsReadFault fault → (fault ≡ TooLong → limits.bytes < length input) → RefusesEach limits input fault
  refuses-text input Read only long = tt
  refuses-text input TooLong only long = long refl
  refuses-text input Memory only long = tt
  refuses-text input (BadJob number) only long = absurd only
  refuses-text input (BadSetting number) only long = absurd only
  refuses-text input (BadEnvelope number) only long = absurd only
  refuses-text input TooManyNames only long = absurd only
  refuses-text input TooManyOwners only long = absurd only
  refuses-text input TooManyPairs only long = absurd only
  refuses-text input Write only long = absurd only

  pub refuses-read : (remaining : Option (List ℕ)) (fault : RunFault) → IsReadFault fault → (fault ≡ TooLong → IfSome remaining (λ input. limits.bytes < length input)) → IfSome remaining (λ input. RefusesEach limits input fault)
  refuses-read None fault only long = tt
  refuses-read (Some input) fault only long = refuses-text input fault only long

  -- a text that was read whole
  refuses-whole : (input : List ℕ) (fault : RunFault) → RefusesEachBytes limits input fault → RefusesEach limits input fault
  refuses-whole input (BadJob number) h = h
  refuses-whole input (BadSetting number) h = h
  refuses-whole input TooManyNames h = h
  refuses-whole input TooManyOwners h = h
  refuses-whole input Memory h = tt
  refuses-whole input Read h = tt
  refuses-whole input Write h = tt
  refuses-whole input TooLong h = absurd h
  refuses-whole input (BadEnvelope number) h = absurd h
  refuses-whole input TooManyPairs h = absurd h

  pub refuses-bytes : (remaining : Option (List ℕ)) (text : List ℕ) (fault : RunFault) → IfSome remaining (λ input. text ≡ input) → RefusesEachBytes limits text fault → IfSome remaining (λ input. RefusesEach limits input fault)
  refuses-bytes None text fault all h = tt
  refuses-bytes (Some input) text fault all h = rw all at (refuses-whole text fault h)
