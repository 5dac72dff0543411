-- What a text of many envelopes is, by its front and its envelopes.
use Rattle.std.proofs.Common.{◌≡◌, ℕ, List, [], ◌∷◌, ◌++◌, length, Option, Some, None, Result, Ok, Err, refl, sym, ap, ◌∙◌, subst, arith}
use Rattle.std.specs.Option.{option_map}
use Rattle.std.proofs.lemmas.List.{length-append}
use Rattle.relay_text.specs.Bytes.{first_of}
use Rattle.relay_job.specs.declared.job.Job.{Job}
use Rattle.relay_job.specs.declared.fault.RunFault.{RunFault}
use Rattle.relay_job.specs.declared.fault.RunFault.TheVariants.{Read, TooLong, BadJob, BadSetting, BadEnvelope, TooManyNames, TooManyOwners, TooManyPairs, Write, Memory}
use Rattle.relay_job.specs.JobAnswers.{Fails}
use Rattle.relay_job.specs.JobParts.{Stops}
use Rattle.relay_job.specs.JobText.{bad_job, bad_setting, sections_of, job_unless}
use Rattle.relay_job.specs.Tables.{tables_of, without_envelope}
use Rattle.relay_job.proofs.ParseFacts.{Fails-from_stop}
use Rattle.relay_envelopes.specs.Sections.{Section, front_of, lines_behind, envelopes_of, bad_envelopes, each_tables_of}
use Rattle.aliasplan_each.specs.Runs.{AreEachParts, earlier_of}

module _ (tables : Job) where
  -- by the first bad line of the front, and by its first bad setting
  abbrev front_by : Option ℕ → Option ℕ → Result Job RunFault
  front_by broken unset = job_unless (first_of (option_map BadJob broken ∷ option_map BadSetting unset ∷ [])) tables

  -- and between them by the first bad line of the envelopes
  abbrev each_by : Option ℕ → Option ℕ → Option ℕ → Result Job RunFault
  each_by broken stray unset = job_unless (first_of (option_map BadJob broken ∷ option_map BadJob stray ∷ option_map BadSetting unset ∷ [])) tables

  unbroken_each : (broken unset : Option ℕ) → each_by broken None unset ≡ front_by broken unset
  unbroken_each (Some n) unset = refl
  unbroken_each None unset = refl

  -- a front whose settings are judged has no bad line
  judged : (broken unset : Option ℕ) (read : Job) → front_by broken unset ≡ Ok read → broken ≡ None
  judged None unset read h = refl
  judged (Some n) unset read h = absurd (let no : ⊥ = cc in no)

  judged_setting : (broken unset : Option ℕ) (number : ℕ) → front_by broken unset ≡ Err (BadSetting number) → broken ≡ None
  judged_setting None unset number h = refl
  judged_setting (Some n) unset number h = absurd (let no : ⊥ = cc in no)

  broken_front : (broken unset : Option ℕ) (number : ℕ) → front_by broken unset ≡ Err (BadJob number) → broken ≡ Some number
  broken_front (Some n) unset number h = cc
  broken_front None (Some n) number h = absurd (let no : ⊥ = cc in no)
  broken_front None None number h = absurd (let no : ⊥ = cc in no)

  stray_alone : (stray unset : Option ℕ) (fault : RunFault) → option_map BadJob stray ≡ Some fault → each_by None stray unset ≡ Err fault
  stray_alone (Some n) unset fault h = cc
  stray_alone None unset fault h = absurd (let no : ⊥ = cc in no)

  stray_first : (stray unset : Option ℕ) (fault : RunFault) (result : RunFault) → Stops (option_map BadJob stray) fault → Stops (Some fault) result → Fails result (each_by None stray unset)
  stray_first stray unset fault Memory s t = tt
  stray_first stray unset fault Read s t = let same : fault ≡ Read = cc in stray_alone stray unset Read (subst (Stops (option_map BadJob stray)) same s)
  stray_first stray unset fault TooLong s t = let same : fault ≡ TooLong = cc in stray_alone stray unset TooLong (subst (Stops (option_map BadJob stray)) same s)
  stray_first stray unset fault (BadJob n) s t = let same : fault ≡ BadJob n = cc in stray_alone stray unset (BadJob n) (subst (Stops (option_map BadJob stray)) same s)
  stray_first stray unset fault (BadSetting n) s t = let same : fault ≡ BadSetting n = cc in stray_alone stray unset (BadSetting n) (subst (Stops (option_map BadJob stray)) same s)
  stray_first stray unset fault (BadEnvelope n) s t = let same : fault ≡ BadEnvelope n = cc in stray_alone stray unset (BadEnvelope n) (subst (Stops (option_map BadJob stray)) same s)
  stray_first stray unset fault TooManyNames s t = let same : fault ≡ TooManyNames = cc in stray_alone stray unset TooManyNames (subst (Stops (option_map BadJob stray)) same s)
  stray_first stray unset fault TooManyOwners s t = let same : fault ≡ TooManyOwners = cc in stray_alone stray unset TooManyOwners (subst (Stops (option_map BadJob stray)) same s)
  stray_first stray unset fault TooManyPairs s t = let same : fault ≡ TooManyPairs = cc in stray_alone stray unset TooManyPairs (subst (Stops (option_map BadJob stray)) same s)
  stray_first stray unset fault Write s t = let same : fault ≡ Write = cc in stray_alone stray unset Write (subst (Stops (option_map BadJob stray)) same s)

  each_first : (broken stray unset : Option ℕ) (fault result : RunFault) → Stops (option_map BadJob stray) fault → Stops (first_of (option_map BadJob broken ∷ Some fault ∷ [])) result → Fails result (each_by broken stray unset)
  each_first (Some n) stray unset fault result s t = Fails-from_stop (Some (BadJob n)) result (each_by (Some n) stray unset) (λ f g. let is : each_by (Some n) stray unset ≡ Err (BadJob n) = refl in cc) t
  each_first None stray unset fault result s t = stray_first stray unset fault result s t

-- the two faults of files and tables
abbrev pub IsTablesFault : RunFault → Type 0
IsTablesFault (BadJob line) = Unit {0}
IsTablesFault (BadSetting line) = Unit {0}
IsTablesFault (BadEnvelope line) = ⊥
IsTablesFault Read = ⊥
IsTablesFault TooLong = ⊥
IsTablesFault TooManyNames = ⊥
IsTablesFault TooManyOwners = ⊥
IsTablesFault TooManyPairs = ⊥
IsTablesFault Write = ⊥
IsTablesFault Memory = ⊥

fault_among : (tables : Job) (broken unset : Option ℕ) (fault : RunFault) → front_by tables broken unset ≡ Err fault → IsTablesFault fault
fault_among tables (Some n) unset fault h = let e : BadJob n ≡ fault = cc in subst IsTablesFault e tt
fault_among tables None (Some n) fault h = let e : BadSetting n ≡ fault = cc in subst IsTablesFault e tt
fault_among tables None None fault h = cc

front_fault : (front : List ℕ) (fault : RunFault) → tables_of front ≡ Err fault → IsTablesFault fault
unfolding tables_of
front_fault front fault h = fault_among (without_envelope (sections_of front)) (bad_job front) (bad_setting front) fault h

-- and those of a text of many envelopes
each_fault_among : (tables : Job) (broken stray unset : Option ℕ) (fault : RunFault) → each_by tables broken stray unset ≡ Err fault → IsTablesFault fault
each_fault_among tables (Some n) stray unset fault h = let e : BadJob n ≡ fault = cc in subst IsTablesFault e tt
each_fault_among tables None (Some n) unset fault h = let e : BadJob n ≡ fault = cc in subst IsTablesFault e tt
each_fault_among tables None None (Some n) fault h = let e : BadSetting n ≡ fault = cc in subst IsTablesFault e tt
each_fault_among tables None None None fault h = cc

pub fault_of_each : (text : List ℕ) (fault : RunFault) → each_tables_of text ≡ Err fault → IsTablesFault fault
unfolding each_tables_of
fault_of_each text fault h = each_fault_among (without_envelope (sections_of (front_of text))) (bad_job (front_of text)) (bad_envelopes (lines_behind text)) (bad_setting (front_of text)) fault h

-- a fault is the first, unless the front is broken
unbroken_stop : (broken : Option ℕ) (fault : RunFault) → broken ≡ None → Stops (first_of (option_map BadJob broken ∷ Some fault ∷ [])) fault
unbroken_stop None Memory e = tt
unbroken_stop None Read e = refl
unbroken_stop None TooLong e = refl
unbroken_stop None (BadJob n) e = refl
unbroken_stop None (BadSetting n) e = refl
unbroken_stop None (BadEnvelope n) e = refl
unbroken_stop None TooManyNames e = refl
unbroken_stop None TooManyOwners e = refl
unbroken_stop None TooManyPairs e = refl
unbroken_stop None Write e = refl
unbroken_stop (Some n) fault e = absurd (let no : ⊥ = cc in no)

module _ (front : List ℕ) (fault : RunFault) where
  abbrev pub first_stop : RunFault → Type 0
  first_stop result = Stops (first_of (option_map BadJob (bad_job front) ∷ Some fault ∷ [])) result

  pub stop_of_tables : (tables : Job) → tables_of front ≡ Ok tables → first_stop fault
  unfolding tables_of
  stop_of_tables tables h = unbroken_stop (bad_job front) fault (judged (without_envelope (sections_of front)) (bad_job front) (bad_setting front) tables h)

  stop_of_setting : (number : ℕ) → tables_of front ≡ Err (BadSetting number) → first_stop fault
  unfolding tables_of
  stop_of_setting number h = unbroken_stop (bad_job front) fault (judged_setting (without_envelope (sections_of front)) (bad_job front) (bad_setting front) number h)

  stop_of_line : (number : ℕ) → tables_of front ≡ Err (BadJob number) → first_stop (BadJob number)
  unfolding tables_of
  stop_of_line number h =
      let broken : bad_job front ≡ Some number = broken_front (without_envelope (sections_of front)) (bad_job front) (bad_setting front) number h in
      ap (λ (o : Option ℕ). first_of (option_map BadJob o ∷ Some fault ∷ [])) broken

  -- what a front with a fault means
  pub stop_of_fault : (first : RunFault) → Fails first (tables_of front) → first_stop (earlier_of first fault)
  stop_of_fault (BadSetting number) h = stop_of_setting number h
  stop_of_fault (BadJob number) h = stop_of_line number h
  stop_of_fault Memory h = tt
  stop_of_fault Read h = absurd (front_fault front Read h)
  stop_of_fault TooLong h = absurd (front_fault front TooLong h)
  stop_of_fault (BadEnvelope number) h = absurd (front_fault front (BadEnvelope number) h)
  stop_of_fault TooManyNames h = absurd (front_fault front TooManyNames h)
  stop_of_fault TooManyOwners h = absurd (front_fault front TooManyOwners h)
  stop_of_fault TooManyPairs h = absurd (front_fault front TooManyPairs h)
  stop_of_fault Write h = absurd (front_fault front Write h)

module _ (text : List ℕ) where
  each_is : each_tables_of text ≡ each_by (without_envelope (sections_of (front_of text))) (bad_job (front_of text)) (bad_envelopes (lines_behind text)) (bad_setting (front_of text))
  unfolding each_tables_of
  each_is = refl

  -- headings that are good leave the front's faults
  each_as_front : bad_envelopes (lines_behind text) ≡ None → each_tables_of text ≡ tables_of (front_of text)
  unfolding each_tables_of tables_of
  each_as_front e =
      ap (λ (o : Option ℕ). each_by (without_envelope (sections_of (front_of text))) (bad_job (front_of text)) o (bad_setting (front_of text))) e
      ∙ unbroken_each (without_envelope (sections_of (front_of text))) (bad_job (front_of text)) (bad_setting (front_of text))

  pub fails_by_front : (fault : RunFault) → bad_envelopes (lines_behind text) ≡ None → Fails fault (tables_of (front_of text)) → Fails fault (each_tables_of text)
  fails_by_front fault e h = subst (λ (r : Result Job RunFault). Fails fault r) (sym (each_as_front e)) h

  pub fails_by_envelopes : (fault result : RunFault) → Stops (option_map BadJob (bad_envelopes (lines_behind text))) fault → Stops (first_of (option_map BadJob (bad_job (front_of text)) ∷ Some fault ∷ [])) result → Fails result (each_tables_of text)
  fails_by_envelopes fault result s t =
      subst (λ (r : Result Job RunFault). Fails result r) (sym each_is)
      (each_first (without_envelope (sections_of (front_of text))) (bad_job (front_of text)) (bad_envelopes (lines_behind text)) (bad_setting (front_of text)) fault result s t)

  pub parts_are : (rest : List ℕ) (tables : Job) (sections : List Section) → text ≡ front_of text ++ rest → bad_envelopes (lines_behind text) ≡ None → tables_of (front_of text) ≡ Ok tables → sections ≡ envelopes_of (lines_behind text) → AreEachParts text tables sections
  parts_are rest tables sections e none is found = record {
    read = each_as_front none ∙ is;
    within = (front_of text, omega (arith, ap length e, length-append (front_of text) rest), is);
    sections_are = found;
  }
