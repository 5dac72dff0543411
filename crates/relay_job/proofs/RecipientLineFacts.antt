-- The lines of an envelope's recipients.
use Rattle.std.proofs.Common.{◌≡◌, ℕ, ◌-◌, cond, suc, List, [], ◌∷◌, ◌++◌, length, drop, slice_get, Option, Some, None, Ok, refl, sym, ap, ◌∙◌}
use Rattle.std.specs.List.{cons_option}
use Rattle.std.specs.Option.{option_map, is_none}
use Rattle.std.proofs.lemmas.List.{length-map}
use Rattle.relay_text.specs.Bytes.{first_of, each_after}
use Rattle.relay_text.specs.AddressParts.{AddressParts}
use Rattle.relay_text.specs.declared.lines.Line.{Line}
use Rattle.relay_job.specs.declared.fault.RunFault.{RunFault}
use Rattle.relay_job.specs.declared.fault.RunFault.TheVariants.{BadJob, BadSetting, BadEnvelope}
use Rattle.relay_job.specs.declared.job.Job.{Job}
use Rattle.relay_job.specs.JobText.{bad_job, bad_setting, bad_envelope, breaks_envelope, broken, first_broken, envelope_lines, envelope_part, heading_number, job_fault, job_of, job_settings, job_unless, recipient_in, sections_of, too_early}
use Rattle.relay_job.specs.JobParts.{bad_recipients, recipients_of}
use Rattle.relay_job.specs.RecipientLines.{numbers_behind, recipient_lines_of}
use Rattle.relay_job.proofs.EnvelopeFacts.{broken_behind_sender}

all_named : (origin : List ℕ) (lines : List Line) → bad_recipients origin lines ≡ [] → length (recipients_of origin lines) ≡ length lines
all_named origin [] h = refl
all_named origin (x ∷ xs) h = at (recipient_in origin x.text) refl h (all_named origin xs) where
  at : (o : Option AddressParts) → recipient_in origin x.text ≡ o → cond (is_none o) (x.number ∷ []) [] ++ bad_recipients origin xs ≡ [] → (bad_recipients origin xs ≡ [] → length (recipients_of origin xs) ≡ length xs) → length (cons_option o (recipients_of origin xs)) ≡ suc (length xs)
  at None e g rest = cc
  at (Some a) e g rest = ap suc (rest g)

third_none : (a b c : Option ℕ) → first_of (option_map BadJob a ∷ option_map BadSetting b ∷ option_map BadEnvelope c ∷ []) ≡ None → c ≡ None
third_none None None None h = refl
third_none None None (Some n) h = cc
third_none None (Some n) c h = cc
third_none (Some n) b c h = cc

first_none : (a b : Option ℕ) → first_of (a ∷ b ∷ []) ≡ None → a ≡ None
first_none None b h = refl
first_none (Some n) b h = cc

none_in : (xs : List ℕ) → slice_get xs 0 ≡ None → xs ≡ []
none_in [] h = refl
none_in (x ∷ xs) h = cc

second_none : (xs ys : List ℕ) → xs ++ ys ≡ [] → ys ≡ []
second_none [] ys h = h
second_none (x ∷ xs) ys h = cc

behind_sender : (origin : List ℕ) (lines : List Line) → first_broken (breaks_envelope origin) (λ (l : Line). l.number) lines ≡ None → length (recipients_of origin (drop 1 lines)) ≡ length (drop 1 lines)
behind_sender origin [] h = refl
behind_sender origin (x ∷ xs) h =
    let all : broken (breaks_envelope origin) (λ (l : Line). l.number) (x ∷ xs) ≡ [] = none_in _ h in
    let later : each_after (λ before y. cond (breaks_envelope origin before y) (y.number ∷ []) []) (x ∷ []) xs ≡ [] = second_none (cond (breaks_envelope origin [] x) (x.number ∷ []) []) _ all in
    all_named origin xs (sym (broken_behind_sender origin x [] xs) ∙ later)

pub lines_fit : (text : List ℕ) (job : Job) → job_of text ≡ Ok job → length (recipient_lines_of text) ≡ length job.recipients
unfolding recipient_lines_of job_of
lines_fit text job h = at (job_fault text) refl h where
  at : (o : Option RunFault) → job_fault text ≡ o → job_unless o (sections_of text) ≡ Ok job → length (numbers_behind (heading_number (envelope_part text)) (drop 1 (envelope_lines (envelope_part text)))) ≡ length job.recipients
  at None e g =
      let same : sections_of text ≡ job = cc in
      let bad : bad_envelope (job_settings text).origin (envelope_part text) ≡ None = third_none (bad_job text) (bad_setting text) _ e in
      let good : first_broken (breaks_envelope (job_settings text).origin) (λ (l : Line). l.number) (envelope_lines (envelope_part text)) ≡ None = first_none _ (too_early (envelope_part text)) bad in
      length-map (drop 1 (envelope_lines (envelope_part text))) (λ (l : Line). l.number - heading_number (envelope_part text))
      ∙ sym (behind_sender (job_settings text).origin (envelope_lines (envelope_part text)) good)
      ∙ ap (λ (j : Job). length j.recipients) same
  at (Some fault) e g = cc

-- what is read behind the sender's command
pub lines_read : (text : List ℕ) (heading : ℕ) (commands : List Line) (x : Line) (xs : List Line) → heading_number (envelope_part text) ≡ heading → envelope_lines (envelope_part text) ≡ commands → commands ≡ x ∷ xs → numbers_behind heading xs ≡ recipient_lines_of text
unfolding recipient_lines_of
lines_read text heading commands x xs h c e =
    let lines : envelope_lines (envelope_part text) ≡ x ∷ xs = c ∙ e in
    ap (λ (n : ℕ). numbers_behind n xs) (sym h) ∙ ap (λ (ls : List Line). numbers_behind (heading_number (envelope_part text)) (drop 1 ls)) (sym lines)

pub no_lines_read : (text : List ℕ) (commands : List Line) → envelope_lines (envelope_part text) ≡ commands → commands ≡ [] → [] ≡ recipient_lines_of text
unfolding recipient_lines_of
no_lines_read text commands c e = ap (λ (ls : List Line). numbers_behind (heading_number (envelope_part text)) (drop 1 ls)) (sym (c ∙ e))
