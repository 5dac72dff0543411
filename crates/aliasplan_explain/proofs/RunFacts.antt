-- Which faults the lines of recipients have in a text that is a job, and what of an explanation is written.
use Rattle.std.proofs.Common.{◌≡◌, List, [], ◌∷◌, ◌++◌, ◌+◌, ◌<◌, ◌||◌, ℕ, zero, suc, Bool, Option, None, Some, option_map, Ok, Err, get_or, take, drop, length, refl, sym, ap, ◌∙◌, subst, append_assoc, arith}
use Rattle.std.specs.Prelude.{IfSome}
use Rattle.std.specs.List.{list_any}
use Rattle.std.specs.Io.KnownBytes.{Appends}
use Rattle.std.proofs.lemmas.List.{take-append-drop}
use Rattle.std.proofs.Math.Seq.{take-append_seam}
use Rattle.relay_job.specs.declared.job.Job.{Job}
use Rattle.relay_job.specs.declared.fault.RunFault.{RunFault}
use Rattle.relay_job.specs.declared.fault.RunFault.TheVariants.{Read, TooLong, BadJob, BadSetting, BadEnvelope, TooManyNames, TooManyOwners, TooManyPairs, Write, Memory}
use Rattle.relay_job.specs.JobParts.{Stops}
use Rattle.relay_job.specs.JobText.{job_of, bad_job}
use Rattle.relay_job.proofs.ParseFacts.{job-broken}
use Rattle.relay_explain.specs.declared.asked.Asked.{Asked}
use Rattle.relay_explain.specs.declared.outcome.Outcome.{Outcome}
use Rattle.relay_explain.specs.declared.told.Told.{Told}
use Rattle.relay_explain.specs.Explanations.{Answer}
use Rattle.relay_explain.specs.PiecedTexts.{text_of}
use Rattle.relay_explain.specs.Tellings.{AreTold}
use Rattle.relay_planning.specs.declared.options.Limits.{Limits}
use Rattle.aliasplan.specs.Transfers.{Fronts}
use Rattle.aliasplan_explain.specs.Explanations.{is_transaction}
use Rattle.aliasplan_explain.specs.Runs.{Explains, IsExplained, WritesExplanationFront}

-- a job has no bad line
unbroken : (text : List ℕ) (job : Job) → job_of text ≡ Ok job → (fault : RunFault) → option_map BadJob (bad_job text) ≡ Some fault → ⊥
unbroken text job is fault h =
    let broken : job_of text ≡ Err fault = job-broken text fault h in
    cc

-- so want of memory is all that can come
pub only_memory : (text : List ℕ) (job : Job) → job_of text ≡ Ok job → (fault : RunFault) → Stops (option_map BadJob (bad_job text)) fault → fault ≡ Memory
only_memory text job is Memory h = refl
only_memory text job is (BadJob line) h = absurd (unbroken text job is (BadJob line) h)
only_memory text job is (BadSetting line) h = absurd (unbroken text job is (BadSetting line) h)
only_memory text job is (BadEnvelope line) h = absurd (unbroken text job is (BadEnvelope line) h)
only_memory text job is Read h = absurd (unbroken text job is Read h)
only_memory text job is TooLong h = absurd (unbroken text job is TooLong h)
only_memory text job is TooManyNames h = absurd (unbroken text job is TooManyNames h)
only_memory text job is TooManyOwners h = absurd (unbroken text job is TooManyOwners h)
only_memory text job is TooManyPairs h = absurd (unbroken text job is TooManyPairs h)
only_memory text job is Write h = absurd (unbroken text job is Write h)

-- ---- what of an explanation is written
pub appends_both : (old mid new : Option (List ℕ)) (x y : List ℕ) → Appends old mid x → Appends mid new y → Appends old new (x ++ y)
appends_both None mid new x y one other = tt
appends_both (Some p) None new x y one other = absurd one
appends_both (Some p) (Some q) None x y one other = absurd other
appends_both (Some p) (Some q) (Some r) x y one other = other ∙ ap (λ (l : List ℕ). l ++ y) one ∙ append_assoc p x y

front_of : (x y z : List ℕ) (n : ℕ) → take (length (x ++ take n y)) (x ++ (y ++ z)) ≡ x ++ take n y
front_of x y z n =
    let cut : x ++ (y ++ z) ≡ (x ++ take n y) ++ (drop n y ++ z) = ap (λ (l : List ℕ). x ++ (l ++ z)) (sym (take-append-drop n y)) ∙ ap (λ (l : List ℕ). x ++ l) (append_assoc (take n y) (drop n y) z) ∙ sym (append_assoc x (take n y) (drop n y ++ z)) in
    ap (λ (l : List ℕ). take (length (x ++ take n y)) l) cut ∙ take-append_seam (x ++ take n y) (drop n y ++ z)

-- a front of what stands behind a text that is written
pub fronts_behind : (old mid new : Option (List ℕ)) (x y z : List ℕ) → Appends old mid x → Fronts mid new y → Fronts old new (x ++ (y ++ z))
fronts_behind old mid new x y z one other =
    record {
      count = length (x ++ take other.count y);
      written = subst (λ (l : List ℕ). Appends old new l) (sym (front_of x y z other.count)) (appends_both old mid new x (take other.count y) one other.written);
    }

-- the pieces before one, that one, and those behind it
pub pieces_apart : (ps : List (List ℕ)) (i : ℕ) (d : List ℕ) → i < length ps → text_of ps ≡ text_of (take i ps) ++ (get_or ps i d ++ text_of (drop (i + 1) ps))
pieces_apart [] i d short = absurd (omega (arith, short))
pieces_apart (p ∷ ps) zero d short = refl
pieces_apart (p ∷ ps) (suc i) d short =
    let next : suc (i + 1) ≡ suc i + 1 = omega arith in
    ap (λ (l : List ℕ). p ++ l) (pieces_apart ps i d (omega (arith, short)))
    ∙ sym (append_assoc p (text_of (take i ps)) (get_or ps i d ++ text_of (drop (i + 1) ps)))
    ∙ ap (λ (n : ℕ). (p ++ text_of (take i ps)) ++ (get_or ps i d ++ text_of (drop n (p ∷ ps)))) next

-- whether some answer says that a transaction has the address
pub transaction_told : (answers : List Answer) (told : List Told) → AreTold answers told → list_any (λ (t : Told). is_transaction t.outcome) told ≡ list_any (λ (a : Answer). is_transaction a.outcome) answers
transaction_told [] [] are = refl
transaction_told [] (t ∷ told) are = absurd are
transaction_told (a ∷ answers) [] are = absurd are
transaction_told (a ∷ answers) (t ∷ told) are =
    ap (λ (o : Option Outcome). is_transaction o || list_any (λ (u : Told). is_transaction u.outcome) told) are.0.outcome
    ∙ ap (λ (b : Bool). is_transaction a.outcome || b) (transaction_told answers told are.1)

-- what is written of a text that was read whole, and a front of it
module _ (limits : Limits) (question : Asked) (input text : List ℕ) (old new : Option (List ℕ)) (in_plan : Bool) (due : IsExplained limits question input text in_plan) where
  pub explains_read : (remaining : Option (List ℕ)) → IfSome remaining (λ bytes. input ≡ bytes) → Appends old new text → IfSome remaining (λ bytes. Explains limits question bytes old new in_plan)
  explains_read None same written = tt
  explains_read (Some bytes) same written = record { text = text; due = subst (λ (b : List ℕ). IsExplained limits question b text in_plan) same due; written = written }

  pub front_read : (remaining : Option (List ℕ)) → IfSome remaining (λ bytes. input ≡ bytes) → Fronts old new text → IfSome remaining (λ bytes. WritesExplanationFront limits question bytes old new)
  front_read None same front = tt
  front_read (Some bytes) same front = record {
    text = text;
    in_plan = in_plan;
    due = subst (λ (b : List ℕ). IsExplained limits question b text in_plan) same due;
    count = front.count;
    written = front.written;
  }
