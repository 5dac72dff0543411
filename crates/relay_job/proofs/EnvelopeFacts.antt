-- How the envelope follows from a pass over its commands.
use Rattle.std.proofs.Common.{◌≡◌, ℕ, ◌+◌, ◌<◌, ◌≤◌, Bool, true, false, cond, ltb, List, [], ◌∷◌, ◌++◌, length, take, drop, Option, Some, None, Result, Ok, Err, refl, sym, ap, ◌∙◌, arith}
use Rattle.std.specs.Prelude.{IfOk, IfErr}
use Rattle.std.specs.List.{list_all, slice_get}
use Rattle.std.specs.Option.{option_map, is_none}
use Rattle.std.proofs.lemmas.List.{length-append, length-take, length-map, append_assoc, append-nil, nil_from_length}
use Rattle.std.proofs.lemmas.Slice.Eq.{bytes_eq-Decides}
use Rattle.std.proofs.lemmas.Bool.{le-ltb}
use Rattle.std.proofs.lemmas.Result.{IfOk-weaker, IfErr-weaker}
use Rattle.relay_text.specs.Bytes.{is_white, folded, trimmed_end, begins_with_word, each_after, first_of}
use Rattle.relay_text.specs.AddressParts.{AddressParts}
use Rattle.relay_text.specs.Addresses.{path_of, Fails}
use Rattle.relay_text.specs.declared.fault.TextFault.{TextFault}
use Rattle.relay_text.specs.declared.fault.TextFault.TheVariants as texts
use Rattle.relay_text.specs.declared.lines.Line.{Line}
use Rattle.relay_job.specs.declared.place.Place.{Place}
use Rattle.relay_job.specs.declared.envelope.Envelope.{Envelope}
use Rattle.relay_job.specs.declared.fault.RunFault.{RunFault}
use Rattle.relay_job.specs.declared.fault.RunFault.TheVariants.{Read, TooLong, BadJob, BadSetting, BadEnvelope, TooManyNames, TooManyOwners, TooManyPairs, Write, Memory}
use Rattle.relay_job.specs.JobText.{command_path, sender_in, recipient_in, breaks_envelope}
use Rattle.relay_job.specs.JobParts.{commands_of, commands_at, recipients_of, bad_recipients, first_bad_recipient, first_bad_command, bad_envelope_at, sender_of, AreRecipientsOf, HasNamed, HasSender, IsEnvelopeAt, Stops}

-- A line that begins with a word is at least as long.
pub begins_with_word-length : (word line : List ℕ) → begins_with_word word line ≡ true → length word ≤ length line
begins_with_word-length word line h =
    let same : folded (take (length word) line) ≡ word = (bytes_eq-Decides _ _).0 h in
    let long : length (take (length word) line) ≡ length word = sym (length-map (take (length word) line) _) ∙ ap length same in
    omega (arith, length-take (length word) line, long)

-- The path of a command.
pub command_path-other : (word origin line : List ℕ) → begins_with_word word line ≡ false → None ≡ command_path word origin line
command_path-other word origin line e = sym (rw e)

pub command_path-path : (word origin line text : List ℕ) (path : Option AddressParts) → begins_with_word word line ≡ true → text ≡ trimmed_end (drop (length word) line) → path_of origin text ≡ Ok path → Some path ≡ command_path word origin line
command_path-path word origin line text path e t h = let at : path_of origin (trimmed_end (drop (length word) line)) ≡ Ok path = rw t at h in sym (rw (e, at))

pub command_path-fault : (word origin line text : List ℕ) (fault : TextFault) → begins_with_word word line ≡ true → text ≡ trimmed_end (drop (length word) line) → path_of origin text ≡ Err fault → None ≡ command_path word origin line
command_path-fault word origin line text fault e t h = let at : path_of origin (trimmed_end (drop (length word) line)) ≡ Err fault = rw t at h in sym (rw (e, at))

pub fault-known : {A : Type 0} (fault : TextFault) (given : Result A TextFault) → (fault ≡ texts.Memory → ⊥) → Fails fault given → given ≡ Err fault
fault-known texts.Empty given h e = e
fault-known texts.BadByte given h e = e
fault-known texts.BadQuote given h e = e
fault-known texts.BadDomain given h e = e
fault-known texts.TooLong given h e = e
fault-known texts.Memory given h e = absurd (h refl)

-- What a pass over the recipients knows before the commands of `rest`.
pub record RecipientsRead (origin : List ℕ) (commands rest : List Line) (recipients : List AddressParts) : Type 0 where
  pub named : recipients ++ recipients_of origin rest ≡ recipients_of origin commands
  pub number : length recipients + length rest ≡ length commands
  pub unbroken : bad_recipients origin rest ≡ bad_recipients origin commands

pub RecipientsRead-start : (origin : List ℕ) (commands : List Line) → RecipientsRead origin commands commands []
RecipientsRead-start origin commands = record { named = refl; number = omega arith; unbroken = refl }

pub RecipientsRead-more : (origin : List ℕ) (commands : List Line) (x : Line) (xs : List Line) (recipients : List AddressParts) (a : AddressParts) → RecipientsRead origin commands (x ∷ xs) recipients → recipient_in origin x.text ≡ Some a → RecipientsRead origin commands xs (recipients ++ a ∷ [])
RecipientsRead-more origin commands x xs recipients a h e = record {
  named = append_assoc recipients (a ∷ []) (recipients_of origin xs) ∙ rw e at h.named;
  number = omega (arith, h.number, length-append recipients (a ∷ []));
  unbroken = rw e at h.unbroken;
}

pub RecipientsRead-bad : (origin : List ℕ) (commands : List Line) (x : Line) (xs : List Line) (recipients : List AddressParts) → RecipientsRead origin commands (x ∷ xs) recipients → recipient_in origin x.text ≡ None → slice_get (bad_recipients origin commands) 0 ≡ Some x.number
RecipientsRead-bad origin commands x xs recipients h e = ap (λ (ns : List ℕ). slice_get ns 0) (sym (rw e at h.unbroken))

pub RecipientsRead-end : (origin : List ℕ) (commands rest : List Line) (recipients : List AddressParts) → RecipientsRead origin commands rest recipients → rest ≡ [] → AreRecipientsOf origin commands recipients
RecipientsRead-end origin commands rest recipients h e = record {
  named = sym (append-nil recipients) ∙ rw e at h.named;
  number = omega (arith, h.number, ap length e);
  unbroken = sym (rw e at h.unbroken);
}

-- Behind the sender each command names a recipient.
pub broken_behind_sender : (origin : List ℕ) (sender : Line) (earlier rest : List Line) → each_after (λ before x. cond (breaks_envelope origin before x) (x.number ∷ []) []) (sender ∷ earlier) rest ≡ bad_recipients origin rest
broken_behind_sender origin sender earlier [] = refl
broken_behind_sender origin sender earlier (x ∷ xs) = ap (λ (ns : List ℕ). cond (is_none (recipient_in origin x.text)) (x.number ∷ []) [] ++ ns) (broken_behind_sender origin sender (earlier ++ x ∷ []) xs)

abbrev early : ℕ → List Line → Option ℕ
early heading commands = cond (ltb (length commands) 2) (Some heading) None

pub first_bad-behind : (origin : List ℕ) (heading : ℕ) (x : Line) (xs : List Line) (sender : Option AddressParts) → sender_in origin x.text ≡ Some sender → first_bad_command origin heading (x ∷ xs) ≡ first_of (slice_get (bad_recipients origin xs) 0 ∷ early heading (x ∷ xs) ∷ [])
first_bad-behind origin heading x xs sender e = rw e (ap (λ (ns : List ℕ). first_of (slice_get ns 0 ∷ early heading (x ∷ xs) ∷ [])) (broken_behind_sender origin x [] xs))

pub first_bad-none : (origin : List ℕ) (heading : ℕ) (commands : List Line) → commands ≡ [] → first_bad_command origin heading commands ≡ Some heading
first_bad-none origin heading commands e = rw e

pub first_bad-sender : (origin : List ℕ) (heading : ℕ) (commands : List Line) (x : Line) (xs : List Line) → commands ≡ x ∷ xs → sender_in origin x.text ≡ None → first_bad_command origin heading commands ≡ Some x.number
first_bad-sender origin heading commands x xs c e = rw (c, e)

pub Stops-from : (o p : Option RunFault) (fault : RunFault) → ((f : RunFault) → o ≡ Some f → p ≡ Some f) → Stops o fault → Stops p fault
Stops-from o p Read h s = h _ s
Stops-from o p TooLong h s = h _ s
Stops-from o p (BadJob n) h s = h _ s
Stops-from o p (BadSetting n) h s = h _ s
Stops-from o p (BadEnvelope n) h s = h _ s
Stops-from o p TooManyNames h s = h _ s
Stops-from o p TooManyOwners h s = h _ s
Stops-from o p TooManyPairs h s = h _ s
Stops-from o p Write h s = h _ s
Stops-from o p Memory h s = tt

-- A command that names a recipient is read, and one that names none is the first that is bad.
pub RecipientsRead-named : (origin : List ℕ) (commands rest : List Line) (x : Line) (xs : List Line) (recipients more : List AddressParts) → RecipientsRead origin commands rest recipients → rest ≡ x ∷ xs → HasNamed origin x recipients more → RecipientsRead origin commands xs more
RecipientsRead-named origin commands rest x xs recipients more h cut n = rw n.added (RecipientsRead-more origin commands x xs recipients n.recipient (rw cut at h) n.named)

pub RecipientsRead-refused : (origin : List ℕ) (commands rest : List Line) (x : Line) (xs : List Line) (recipients : List AddressParts) (fault : RunFault) → RecipientsRead origin commands rest recipients → rest ≡ x ∷ xs → Stops (first_bad_recipient origin (x ∷ [])) fault → Stops (first_bad_recipient origin commands) fault
RecipientsRead-refused origin commands rest x xs recipients fault h cut =
    let read : RecipientsRead origin commands (x ∷ xs) recipients = rw cut at h in
    Stops-from _ _ fault (λ f g. ap (λ (ns : List ℕ). option_map BadEnvelope (slice_get ns 0)) (sym read.unbroken) ∙ at (is_none (recipient_in origin x.text)) f g) where
      at : (t : Bool) (f : RunFault) → option_map BadEnvelope (slice_get (cond t (x.number ∷ []) [] ++ []) 0) ≡ Some f → option_map BadEnvelope (slice_get (cond t (x.number ∷ []) [] ++ bad_recipients origin xs) 0) ≡ Some f
      at true f g = g
      at false f g = cc

pub first_bad-recipients : (origin : List ℕ) (heading : ℕ) (commands : List Line) (x : Line) (xs : List Line) (sender : Option AddressParts) (fault : RunFault) → commands ≡ x ∷ xs → sender_in origin x.text ≡ Some sender → Stops (option_map BadEnvelope (slice_get (bad_recipients origin xs) 0)) fault → Stops (option_map BadEnvelope (first_bad_command origin heading commands)) fault
first_bad-recipients origin heading commands x xs sender fault c e h = Stops-from _ _ fault (λ f g. rw c (ap (option_map BadEnvelope) (first_bad-behind origin heading x xs sender e) ∙ at (slice_get (bad_recipients origin xs) 0) f g)) h where
  at : (o : Option ℕ) (f : RunFault) → option_map BadEnvelope o ≡ Some f → option_map BadEnvelope (first_of (o ∷ early heading (x ∷ xs) ∷ [])) ≡ Some f
  at None f g = cc
  at (Some n) f g = g

pub first_bad-early : (origin : List ℕ) (heading : ℕ) (commands : List Line) (x : Line) (xs : List Line) (sender : Option AddressParts) → commands ≡ x ∷ xs → sender_in origin x.text ≡ Some sender → length xs ≡ 0 → first_bad_command origin heading commands ≡ Some heading
first_bad-early origin heading commands x xs sender c e h = let none : xs ≡ [] = nil_from_length xs h in rw (c, none, e)

pub first_bad-good : (origin : List ℕ) (heading : ℕ) (commands : List Line) (x : Line) (xs : List Line) (sender : Option AddressParts) → commands ≡ x ∷ xs → sender_in origin x.text ≡ Some sender → bad_recipients origin xs ≡ [] → 0 < length xs → first_bad_command origin heading commands ≡ None
first_bad-good origin heading commands x xs sender c e b h =
    let enough : ltb (length (x ∷ xs)) 2 ≡ false = le-ltb (length (x ∷ xs)) 2 (omega arith) in
    rw c (first_bad-behind origin heading x xs sender e ∙ rw (b, enough))

pub sender_of-first : (origin : List ℕ) (commands : List Line) (x : Line) (xs : List Line) (sender : Option AddressParts) → commands ≡ x ∷ xs → sender_in origin x.text ≡ Some sender → sender ≡ sender_of origin commands
sender_of-first origin commands x xs sender c e = sym (rw (c, e))

pub recipients_of-rest : (origin : List ℕ) (commands : List Line) (x : Line) (xs : List Line) (recipients : List AddressParts) → commands ≡ x ∷ xs → recipients ≡ recipients_of origin xs → recipients ≡ recipients_of origin (drop 1 commands)
recipients_of-rest origin commands x xs recipients c h = rw c h

-- Behind a sender, what was read of the recipients makes the envelope.
abbrev IsMadeOf : Option AddressParts → List AddressParts → Envelope → Type 0
IsMadeOf sender recipients e = (e.sender ≡ sender) × (e.recipients ≡ recipients) × (0 < length recipients)

abbrev IsTooEarly : ℕ → List AddressParts → RunFault → Type 0
IsTooEarly heading recipients fault = (fault ≡ BadEnvelope heading) × (length recipients ≡ 0)

module _ (origin : List ℕ) (section : Place) (sender : Option AddressParts) (behind : List Line) (h : HasSender origin (commands_at section) sender behind) where
  pub recipients-refused : (fault : RunFault) → Stops (first_bad_recipient origin behind) fault → Stops (bad_envelope_at origin section) fault
  recipients-refused fault s = first_bad-recipients origin section.line (commands_at section) h.first behind sender fault h.parted h.named s

  module _ (recipients : List AddressParts) (read : AreRecipientsOf origin behind recipients) (made : Result Envelope RunFault) where
    pub envelope-made : IfOk made (IsMadeOf sender recipients) → IfOk made (IsEnvelopeAt origin section)
    envelope-made = IfOk-weaker made _ _ (λ e is. record {
      unbroken = first_bad-good origin section.line (commands_at section) h.first behind sender h.parted h.named read.unbroken (omega (arith, is.2, read.number));
      sender = is.0 ∙ sender_of-first origin (commands_at section) h.first behind sender h.parted h.named;
      recipients = is.1 ∙ recipients_of-rest origin (commands_at section) h.first behind recipients h.parted read.named;
    })

    pub envelope-early : IfErr made (IsTooEarly section.line recipients) → IfErr made (Stops (bad_envelope_at origin section))
    envelope-early = IfErr-weaker made _ _ (λ fault is. rw is.0 (ap (option_map BadEnvelope) (first_bad-early origin section.line (commands_at section) h.first behind sender h.parted h.named (omega (arith, is.1, read.number)))))

-- A line of white space alone is no command.
pub commands_of-blank : (commands : List Line) (x : Line) (xs : List Line) → commands ≡ x ∷ xs → list_all is_white x.text ≡ true → commands_of commands ≡ commands_of xs
commands_of-blank commands x xs c e = rw (c, e)

pub commands_of-first : (commands : List Line) (x : Line) (xs : List Line) → commands ≡ x ∷ xs → list_all is_white x.text ≡ false → commands_of commands ≡ x ∷ commands_of xs
commands_of-first commands x xs c e = rw (c, e)
