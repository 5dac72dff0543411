-- Commands of an envelope under other numbers.
use Rattle.std.proofs.Common.{◌≡◌, ℕ, ◌+◌, Bool, true, false, not, cond, ltb, List, [], ◌∷◌, ◌++◌, length, map, drop, Some, None, refl, sym, ap, ◌∙◌, arith}
use Rattle.std.specs.List.{list_all, cons_option, slice_get}
use Rattle.std.specs.Option.{option_map, is_none}
use Rattle.std.proofs.lemmas.List.{length-map}
use Rattle.relay_text.specs.Bytes.{is_white, first_of}
use Rattle.relay_text.specs.declared.lines.Line.{Line}
use Rattle.relay_job.specs.JobText.{broken, breaks_envelope, sender_in, recipient_in}
use Rattle.relay_job.specs.Places.{numbered_from}
use Rattle.relay_job.specs.JobParts.{command_of, lines_of, commands_of, recipients_of, bad_recipients, first_bad_command, sender_of}
use Rattle.relay_job.proofs.EnvelopeFacts.{broken_behind_sender}

-- a line whose number is larger by so much
abbrev pub shifted : ℕ → Line → Line
shifted by l = record { number = by + l.number; text = l.text }

pub lines_of-shifted : (by number other : ℕ) (raws : List (List ℕ)) → by + number ≡ other → lines_of (numbered_from other raws) ≡ map (shifted by) (lines_of (numbered_from number raws))
lines_of-shifted by number other [] e = refl
lines_of-shifted by number other (raw ∷ raws) e = rw (← e) (ap (λ (lines : List Line). command_of (record { number = by + number; raw = raw }) ∷ lines) (lines_of-shifted by (number + 1) (by + number + 1) raws (omega arith)))

module _ (by : ℕ) where
  pub commands_of-shifted : (lines : List Line) → commands_of (map (shifted by) lines) ≡ map (shifted by) (commands_of lines)
  commands_of-shifted [] = refl
  commands_of-shifted (x ∷ xs) = at (not (list_all is_white x.text)) (commands_of-shifted xs) where
    at : (t : Bool) → commands_of (map (shifted by) xs) ≡ map (shifted by) (commands_of xs) → cond t (shifted by x ∷ commands_of (map (shifted by) xs)) (commands_of (map (shifted by) xs)) ≡ map (shifted by) (cond t (x ∷ commands_of xs) (commands_of xs))
    at true later = ap (λ (lines : List Line). shifted by x ∷ lines) later
    at false later = later

  pub sender_of-shifted : (origin : List ℕ) (commands : List Line) → sender_of origin (map (shifted by) commands) ≡ sender_of origin commands
  sender_of-shifted origin [] = refl
  sender_of-shifted origin (x ∷ xs) = refl

  recipients_of-all : (origin : List ℕ) (commands : List Line) → recipients_of origin (map (shifted by) commands) ≡ recipients_of origin commands
  recipients_of-all origin [] = refl
  recipients_of-all origin (x ∷ xs) = ap (cons_option (recipient_in origin x.text)) (recipients_of-all origin xs)

  pub recipients_of-shifted : (origin : List ℕ) (commands : List Line) → recipients_of origin (drop 1 (map (shifted by) commands)) ≡ recipients_of origin (drop 1 commands)
  recipients_of-shifted origin [] = refl
  recipients_of-shifted origin (x ∷ xs) = recipients_of-all origin xs

  -- the numbers that are larger by so much
  abbrev numbers : List ℕ → List ℕ
  numbers ns = map (λ n. by + n) ns

  bad_recipients-shifted : (origin : List ℕ) (commands : List Line) → bad_recipients origin (map (shifted by) commands) ≡ numbers (bad_recipients origin commands)
  bad_recipients-shifted origin [] = refl
  bad_recipients-shifted origin (x ∷ xs) = at (is_none (recipient_in origin x.text)) (bad_recipients-shifted origin xs) where
    at : (t : Bool) → bad_recipients origin (map (shifted by) xs) ≡ numbers (bad_recipients origin xs) → cond t ((by + x.number) ∷ []) [] ++ bad_recipients origin (map (shifted by) xs) ≡ numbers (cond t (x.number ∷ []) [] ++ bad_recipients origin xs)
    at true later = ap (λ (ns : List ℕ). (by + x.number) ∷ ns) later
    at false later = later

  broken-first : (origin : List ℕ) (x : Line) (xs : List Line) → broken (breaks_envelope origin) (λ (l : Line). l.number) (x ∷ xs) ≡ cond (is_none (sender_in origin x.text)) (x.number ∷ []) [] ++ bad_recipients origin xs
  broken-first origin x xs = ap (λ (ns : List ℕ). cond (is_none (sender_in origin x.text)) (x.number ∷ []) [] ++ ns) (broken_behind_sender origin x [] xs)

  broken-shifted : (origin : List ℕ) (commands : List Line) → broken (breaks_envelope origin) (λ (l : Line). l.number) (map (shifted by) commands) ≡ numbers (broken (breaks_envelope origin) (λ (l : Line). l.number) commands)
  broken-shifted origin [] = refl
  broken-shifted origin (x ∷ xs) = broken-first origin (shifted by x) (map (shifted by) xs) ∙ at (is_none (sender_in origin x.text)) ∙ ap numbers (sym (broken-first origin x xs)) where
    at : (t : Bool) → cond t ((by + x.number) ∷ []) [] ++ bad_recipients origin (map (shifted by) xs) ≡ numbers (cond t (x.number ∷ []) [] ++ bad_recipients origin xs)
    at true = ap (λ (ns : List ℕ). (by + x.number) ∷ ns) (bad_recipients-shifted origin xs)
    at false = bad_recipients-shifted origin xs

  first-shifted : (ns : List ℕ) (early : Bool) → first_of (slice_get (numbers ns) 0 ∷ cond early (Some by) None ∷ []) ≡ option_map (λ n. by + n) (first_of (slice_get ns 0 ∷ cond early (Some 0) None ∷ []))
  first-shifted [] true = ap Some (omega arith)
  first-shifted [] false = refl
  first-shifted (n ∷ ns) early = refl

  -- the first bad command, where the heading's number is larger by so much too
  pub first_bad-shifted : (origin : List ℕ) (commands : List Line) → first_bad_command origin by (map (shifted by) commands) ≡ option_map (λ n. by + n) (first_bad_command origin 0 commands)
  first_bad-shifted origin commands =
      ap (λ (ns : List ℕ). first_of (slice_get ns 0 ∷ cond (ltb (length (map (shifted by) commands)) 2) (Some by) None ∷ [])) (broken-shifted origin commands)
      ∙ ap (λ n. first_of (slice_get (numbers (broken (breaks_envelope origin) (λ (l : Line). l.number) commands)) 0 ∷ cond (ltb n 2) (Some by) None ∷ [])) (length-map commands (shifted by))
      ∙ first-shifted (broken (breaks_envelope origin) (λ (l : Line). l.number) commands) (ltb (length commands) 2)
