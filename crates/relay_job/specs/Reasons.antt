-- Which rule a line of a job breaks.
use Rattle.std.specs.Prelude.{◌≡◌, ◌<◌, ℕ, Bool, true, false, ◌==◌, ◌||◌, ◌+◌, List, [], ◌∷◌, length, drop, codes, slice_get, Option, Some, None, if◌then◌else◌}
use Rattle.std.specs.List.{list_any, list_all}
use Rattle.std.specs.Str.{bytes_eq}
use Rattle.relay_text.specs.Bytes.{is_white}
use Rattle.relay_text.specs.declared.lines.Line.{Line}
use Rattle.relay_job.specs.declared.reason.Reason.{Reason}
use Rattle.relay_job.specs.declared.reason.Reason.TheVariants.{UnknownHeading, RepeatedHeading, BeforeHeadings, NoEquals, UnknownKey, RepeatedKey, NotHost, NotDomains, NotDelimiter, NotLimit, NotTransport, NotVia, NotSeed, NotChoice, NotSender, NotRecipient, TooFewCommands}
use Rattle.relay_job.specs.Settings.{Setting, setting_of, is_good_setting, has_key}
use Rattle.relay_job.specs.JobText.{JobLine, Section, section_of, has_section, is_heading, text_of, sender_in}
use Rattle.relay_job.specs.JobParts.{bad_recipients}

-- A line of a job, and its number behind the heading before it, from 1; 0 for a heading.
pub record Located : Type 0 where
  pub line : JobLine
  pub own : ℕ

abbrev pub own_number : ℕ → JobLine → ℕ
own_number before l = if is_heading l then 0 else before + 1

-- the line of a number, after a line whose own number this is
abbrev pub located : ℕ → ℕ → List JobLine → Option Located
located number before [] = None
located number before (l ∷ ls) = if l.number == number then Some (record { line = l; own = own_number before l }) else located number (own_number before l) ls

-- What a line of the job breaks, after those before it.
pub record HasHeading (text : List ℕ) (Holds : Section → Type 0) : Type 0 where
  pub section : Section
  pub names : section_of text ≡ Some section
  pub holds : Holds section

abbrev pub BreaksJob : List JobLine → JobLine → Reason → Type 0
BreaksJob earlier l UnknownHeading = (is_heading l ≡ true) × (section_of (text_of l) ≡ None)
BreaksJob earlier l RepeatedHeading = (is_heading l ≡ true) × HasHeading (text_of l) (λ s. has_section earlier s ≡ true)
BreaksJob earlier l BeforeHeadings = (is_heading l ≡ false) × (list_any is_heading earlier ≡ false) × (list_all is_white (text_of l) ≡ false)
BreaksJob earlier l reason = ⊥

-- the keys of limits
abbrev pub is_limit_key : List ℕ → Bool
is_limit_key key =
    bytes_eq key (codes "default_destination_recipient_limit")
    || bytes_eq key (codes "smtp_destination_recipient_limit")
    || bytes_eq key (codes "relay_destination_recipient_limit")
    || bytes_eq key (codes "lmtp_destination_recipient_limit")

-- What a bad value of a key is not; none where there is no such key.
abbrev pub value_reason : List ℕ → Option Reason
value_reason key =
    if bytes_eq key (codes "myhostname") || bytes_eq key (codes "myorigin") then Some NotHost
    else (if bytes_eq key (codes "mydestination") then Some NotDomains
    else (if bytes_eq key (codes "recipient_delimiter") then Some NotDelimiter
    else (if is_limit_key key then Some NotLimit
    else (if bytes_eq key (codes "default_transport") then Some NotTransport
    else (if bytes_eq key (codes "mailbox_transport") then Some NotVia
    else (if bytes_eq key (codes "seed") then Some NotSeed
    else (if bytes_eq key (codes "expand_owner_alias") then Some NotChoice
    else None)))))))

-- What a line of the settings breaks, after those before it.
pub record HasSetting (text : List ℕ) (Holds : Setting → Type 0) : Type 0 where
  pub setting : Setting
  pub names : setting_of text ≡ Some setting
  pub holds : Holds setting

abbrev pub BreaksSettings : List Line → List ℕ → Reason → Type 0
BreaksSettings earlier text NoEquals = setting_of text ≡ None
BreaksSettings earlier text UnknownKey = HasSetting text (λ s. value_reason s.key ≡ None)
BreaksSettings earlier text RepeatedKey = HasSetting text (λ s. (is_good_setting s ≡ true) × (has_key earlier s.key ≡ true))
BreaksSettings earlier text reason = HasSetting text (λ s. (value_reason s.key ≡ Some reason) × (is_good_setting s ≡ false))

-- What the commands of an envelope break at the line of a number, where its heading has that number.
pub record IsBadSender (origin : List ℕ) (number : ℕ) (commands : List Line) : Type 0 where
  pub sender : Line
  pub later : List Line
  pub first : commands ≡ sender ∷ later
  pub bad : sender_in origin sender.text ≡ None
  pub place : sender.number ≡ number

abbrev pub BreaksEnvelope : List ℕ → ℕ → ℕ → List Line → Reason → Type 0
BreaksEnvelope origin number heading commands NotSender = IsBadSender origin number commands
BreaksEnvelope origin number heading commands NotRecipient = slice_get (bad_recipients origin (drop 1 commands)) 0 ≡ Some number
BreaksEnvelope origin number heading commands TooFewCommands = (number ≡ heading) × (length commands < 2)
BreaksEnvelope origin number heading commands reason = ⊥
