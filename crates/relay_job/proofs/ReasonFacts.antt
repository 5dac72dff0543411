-- Which rule a line of a job breaks.
use Rattle.std.proofs.Common.{◌≡◌, ℕ, ◌+◌, Bool, true, false, cond, ◌==◌, ◌&&◌, ltb, List, [], ◌∷◌, length, drop, Option, Some, None, refl, sym, ap, ◌∙◌, arith}
use Rattle.std.specs.List.{slice_get}
use Rattle.std.specs.Option.{option_map}
use Rattle.std.proofs.lemmas.Option.{same_Some}
use Rattle.std.proofs.lemmas.Bool.{le-ltb}
use Rattle.relay_text.specs.Bytes.{first_of}
use Rattle.relay_text.specs.AddressParts.{AddressParts}
use Rattle.relay_text.specs.declared.lines.Line.{Line}
use Rattle.relay_job.specs.declared.setting_values.SettingValues.{SettingValues}
use Rattle.relay_job.specs.declared.fault.RunFault.{RunFault}
use Rattle.relay_job.specs.declared.fault.RunFault.TheVariants.{Read, TooLong, BadJob, BadSetting, BadEnvelope, TooManyNames, TooManyOwners, TooManyPairs, Write, Memory}
use Rattle.relay_job.specs.declared.reason.Reason.{Reason}
use Rattle.relay_job.specs.declared.reason.Reason.TheVariants.{NotHost, NotDomains, NotDelimiter, NotLimit, NotTransport, NotVia, NotSeed, NotChoice}
use Rattle.relay_job.specs.Settings.{is_good_setting}
use Rattle.relay_job.specs.SettingValues.{values_by, AreRead}
use Rattle.relay_job.specs.JobText.{JobLine, is_heading, sender_in, bad_job, bad_setting, bad_envelope, job_settings, envelope_part, job_fault}
use Rattle.relay_job.specs.JobParts.{bad_recipients, first_bad_command, Stops}
use Rattle.relay_job.specs.Reasons.{own_number, located, value_reason, HasSetting, BreaksSettings, BreaksEnvelope}
use Rattle.relay_job.proofs.EnvelopeFacts.{first_bad-behind}

pub and_true : (a : Bool) → (a && true) ≡ a
and_true true = refl
and_true false = refl

pub none_are_read : (v : SettingValues) → v ≡ values_by (λ name. None) → AreRead (λ name. None) v
none_are_read v h = record { values = h; good = λ s e. absurd (let no : ⊥ = cc in no) }

-- A bad value breaks what its key asks for.
module _ (earlier : List Line) (text : List ℕ) where
  abbrev Told : Option Reason → Type 0
  Told o = (r : Reason) → o ≡ Some r → HasSetting text (λ s. (value_reason s.key ≡ Some r) × (is_good_setting s ≡ false)) → BreaksSettings earlier text r

  told : (x : Reason) → (HasSetting text (λ s. (value_reason s.key ≡ Some x) × (is_good_setting s ≡ false)) → BreaksSettings earlier text x) → Told (Some x)
  told x f r e = let same : x ≡ r = same_Some x r e in rw (← same) f

  none-told : Told None
  none-told r e = cc

  either : (t : Bool) (a b : Option Reason) → Told a → Told b → Told (cond t a b)
  either true a b p q = p
  either false a b p q = q

  pub value-broken : (key : List ℕ) → Told (value_reason key)
  value-broken key =
      either _ _ _ (told NotHost (λ h. h))
      (either _ _ _ (told NotDomains (λ h. h))
      (either _ _ _ (told NotDelimiter (λ h. h))
      (either _ _ _ (told NotLimit (λ h. h))
      (either _ _ _ (told NotTransport (λ h. h))
      (either _ _ _ (told NotVia (λ h. h))
      (either _ _ _ (told NotSeed (λ h. h))
      (either _ _ _ (told NotChoice (λ h. h)) none-told)))))))

-- Where the sender is good and a command stands behind it, the first that is bad names no recipient.
pub recipient-broken : (origin : List ℕ) (heading number : ℕ) (commands : List Line) (x y : Line) (ys : List Line) (xs : List Line) (sender : Option AddressParts) → commands ≡ x ∷ xs → xs ≡ y ∷ ys → sender_in origin x.text ≡ Some sender → first_bad_command origin heading commands ≡ Some number → slice_get (bad_recipients origin (drop 1 commands)) 0 ≡ Some number
recipient-broken origin heading number commands x y ys xs sender c d e h =
    let enough : ltb (length (x ∷ xs)) 2 ≡ false = le-ltb (length (x ∷ xs)) 2 (omega (arith, ap length d)) in
    let behind : first_of (slice_get (bad_recipients origin xs) 0 ∷ cond (ltb (length (x ∷ xs)) 2) (Some heading) None ∷ []) ≡ Some number = sym (first_bad-behind origin heading x xs sender e) ∙ rw c at h in
    rw c (at (slice_get (bad_recipients origin xs) 0) (rw enough at behind)) where
      at : (o : Option ℕ) → first_of (o ∷ None ∷ []) ≡ Some number → o ≡ Some number
      at None g = g
      at (Some n) g = g

-- A job whose fault is the envelope's has no fault before it.
pub stops-memory : (o : Option RunFault) (fault : RunFault) → o ≡ None → Stops o fault → fault ≡ Memory
stops-memory o Read e h = absurd (let no : ⊥ = cc in no)
stops-memory o TooLong e h = absurd (let no : ⊥ = cc in no)
stops-memory o (BadJob n) e h = absurd (let no : ⊥ = cc in no)
stops-memory o (BadSetting n) e h = absurd (let no : ⊥ = cc in no)
stops-memory o (BadEnvelope n) e h = absurd (let no : ⊥ = cc in no)
stops-memory o TooManyNames e h = absurd (let no : ⊥ = cc in no)
stops-memory o TooManyOwners e h = absurd (let no : ⊥ = cc in no)
stops-memory o TooManyPairs e h = absurd (let no : ⊥ = cc in no)
stops-memory o Write e h = absurd (let no : ⊥ = cc in no)
stops-memory o Memory e h = refl

pub no_bad_job : (text : List ℕ) (number : ℕ) → job_fault text ≡ Some (BadEnvelope number) → bad_job text ≡ None
no_bad_job text number = at (bad_job text) where
  at : (o : Option ℕ) → first_of (option_map BadJob o ∷ option_map BadSetting (bad_setting text) ∷ option_map BadEnvelope (bad_envelope (job_settings text).origin (envelope_part text)) ∷ []) ≡ Some (BadEnvelope number) → o ≡ None
  at None h = refl
  at (Some n) h = absurd (let no : ⊥ = cc in no)

pub no_bad_setting : (text : List ℕ) (number : ℕ) → job_fault text ≡ Some (BadEnvelope number) → bad_setting text ≡ None
no_bad_setting text number h = at (bad_setting text) (rw (no_bad_job text number h) at h) where
  at : (o : Option ℕ) → first_of (None ∷ option_map BadSetting o ∷ option_map BadEnvelope (bad_envelope (job_settings text).origin (envelope_part text)) ∷ []) ≡ Some (BadEnvelope number) → o ≡ None
  at None h = refl
  at (Some n) h = absurd (let no : ⊥ = cc in no)

pub envelope-told : (o p : List ℕ) (h k : ℕ) (c d : List Line) (reason : Reason) → o ≡ p → h ≡ k → c ≡ d → ((number : ℕ) → first_bad_command o h c ≡ Some number → BreaksEnvelope o number h c reason) → (number : ℕ) → first_bad_command p k d ≡ Some number → BreaksEnvelope p number k d reason
envelope-told o p h k c d reason e f g told = rw (← e, ← f, ← g) told

-- The line of a number, behind one of another number.
pub located-behind : (number before own : ℕ) (l : JobLine) (ls : List JobLine) → (l.number == number) ≡ false → own ≡ own_number before l → located number before (l ∷ ls) ≡ located number own ls
located-behind number before own l ls e o = rw (e, o)

pub own-heading : (before : ℕ) (l : JobLine) → is_heading l ≡ true → 0 ≡ own_number before l
own-heading before l e = sym (rw e)

pub own-other : (before : ℕ) (l : JobLine) → is_heading l ≡ false → before + 1 ≡ own_number before l
own-other before l e = sym (rw e)
