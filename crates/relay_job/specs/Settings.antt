-- The settings of a job (postconf(5) of Postfix: myhostname, myorigin, mydestination, recipient_delimiter,
-- default_destination_recipient_limit and transport_destination_recipient_limit, default_transport, mailbox_transport,
-- expand_owner_alias; the text's form is this profile's own).
use Rattle.std.specs.Prelude.{ℕ, Bool, true, false, not, ◌&&◌, ◌||◌, ◌==◌, nat_le, List, [], ◌∷◌, length, map, filter, codes, Option, Some, None, is_some, option_and_then, unwrap_or, if◌then◌else◌}
use Rattle.std.specs.List.{slice_split, list_all, list_any, before_first, after_first}
use Rattle.std.specs.Str.{bytes_eq}
use Rattle.relay_text.specs.Bytes.{is_white, trimmed, folded, first_of}
use Rattle.relay_text.specs.Lines.{is_ignored}
use Rattle.relay_text.specs.Addresses.{is_atext, is_domain, is_domain_name, is_empty}
use Rattle.relay_text.specs.declared.lines.Line.{Line}
use Rattle.relay_routes.specs.declared.transport.Transport.{Transport}
use Rattle.relay_routes.specs.declared.transport.Transport.TheVariants.{Smtp, Relay, Lmtp}
use Rattle.relay_routes.specs.Transports.{transport_named}
use Rattle.relay_routes.specs.Nexthops.{via_setting_of}
use Rattle.relay_text.specs.Numbers.{number_within}
use Rattle.relay_job.specs.declared.settings.Settings.{Settings}

-- A setting is a line `key = value`, with white space round both trimmed.
pub record Setting : Type 0 where
  pub key : List ℕ
  pub value : List ℕ

abbrev pub is_equals : ℕ → Bool
is_equals b = b == 61

abbrev pub setting_of : List ℕ → Option Setting
setting_of line =
    if list_any is_equals line
    then Some (record { key = trimmed (before_first is_equals line); value = trimmed (after_first is_equals line) })
    else None

-- The values of each kind.
abbrev pub host_value : List ℕ → Option (List ℕ)
host_value text = if is_domain_name text && nat_le (length text) 189 then Some (folded text) else None

-- domains separated by commas or white space, perhaps none
abbrev pub domain_texts : List ℕ → List (List ℕ)
domain_texts text = filter (λ piece. not (is_empty piece)) (slice_split (λ b. is_white b || (b == 44)) text)

abbrev pub domains_value : List ℕ → Option (List (List ℕ))
domains_value text = if list_all is_domain (domain_texts text) then Some (map folded (domain_texts text)) else None

-- nothing, or one byte of atext
abbrev pub delimiter_value : List ℕ → Option (Option ℕ)
delimiter_value [] = Some None
delimiter_value (b ∷ []) = if is_atext b then Some (Some b) else None
delimiter_value (b ∷ c ∷ bs) = None

abbrev pub limit_value : List ℕ → Option ℕ
limit_value text = number_within 1 65535 text

abbrev pub seed_value : List ℕ → Option ℕ
seed_value text = number_within 0 18446744073709551615 text

abbrev pub choice_value : List ℕ → Option Bool
choice_value text = if bytes_eq text (codes "yes") then Some true else (if bytes_eq text (codes "no") then Some false else None)

-- the keys, and whether a value of each is good
pub record Key : Type 0 where
  pub name : List ℕ
  pub is_good : List ℕ → Bool

abbrev pub key : List ℕ → (List ℕ → Bool) → Key
key name is_good = record { name = name; is_good = is_good }

abbrev pub keys : List Key
keys =
    key (codes "myhostname") (λ v. is_some (host_value v))
    ∷ key (codes "myorigin") (λ v. is_some (host_value v))
    ∷ key (codes "mydestination") (λ v. is_some (domains_value v))
    ∷ key (codes "recipient_delimiter") (λ v. is_some (delimiter_value v))
    ∷ key (codes "default_destination_recipient_limit") (λ v. is_some (limit_value v))
    ∷ key (codes "smtp_destination_recipient_limit") (λ v. is_some (limit_value v))
    ∷ key (codes "relay_destination_recipient_limit") (λ v. is_some (limit_value v))
    ∷ key (codes "lmtp_destination_recipient_limit") (λ v. is_some (limit_value v))
    ∷ key (codes "default_transport") (λ v. is_some (transport_named v))
    ∷ key (codes "mailbox_transport") (λ v. is_some (via_setting_of v))
    ∷ key (codes "seed") (λ v. is_some (seed_value v))
    ∷ key (codes "expand_owner_alias") (λ v. is_some (choice_value v))
    ∷ []

-- a known key with a good value
abbrev pub is_good_setting : Setting → Bool
is_good_setting s = list_any (λ k. bytes_eq k.name s.key && k.is_good s.value) keys

abbrev pub has_key : List Line → List ℕ → Bool
has_key lines name = list_any (λ l. names_key (setting_of l.text)) lines where
  names_key : Option Setting → Bool
  names_key None = false
  names_key (Some s) = bytes_eq s.key name

-- A line breaks the settings where it isn't ignored and has no `=`, or names an unknown key, a bad value or a key of an earlier line.
abbrev pub breaks_settings : List Line → Line → Bool
breaks_settings earlier l = not (is_ignored l.text) && is_bad (setting_of l.text) where
  is_bad : Option Setting → Bool
  is_bad None = true
  is_bad (Some s) = not (is_good_setting s) || has_key earlier s.key

-- the lines that aren't ignored, before which stands no other
abbrev pub setting_lines : List Line → List Line
setting_lines lines = filter (λ l. not (is_ignored l.text)) lines

-- the value of a key, where a line sets it
abbrev pub value_at : List Line → List ℕ → Option (List ℕ)
value_at lines name = first_of (map (λ l. value_if (setting_of l.text)) (setting_lines lines)) where
  value_if : Option Setting → Option (List ℕ)
  value_if None = None
  value_if (Some s) = if bytes_eq s.key name then Some s.value else None

-- a key's value as it is read, or its default
abbrev pub read_or : {X : Type 0} → (List ℕ → Option X) → X → Option (List ℕ) → X
read_or read default text = unwrap_or (option_and_then read text) default

abbrev pub settings_of : List Line → Settings
settings_of lines =
    let at : List ℕ → Option (List ℕ) = value_at lines in
    let hostname : List ℕ = read_or host_value (codes "localhost") (at (codes "myhostname")) in
    let limit : ℕ = read_or limit_value 50 (at (codes "default_destination_recipient_limit")) in
    record {
      hostname = hostname;
      origin = read_or host_value hostname (at (codes "myorigin"));
      destinations = read_or domains_value (hostname ∷ codes "localhost" ∷ []) (at (codes "mydestination"));
      delimiter = read_or delimiter_value None (at (codes "recipient_delimiter"));
      smtp_limit = read_or limit_value limit (at (codes "smtp_destination_recipient_limit"));
      relay_limit = read_or limit_value limit (at (codes "relay_destination_recipient_limit"));
      lmtp_limit = read_or limit_value limit (at (codes "lmtp_destination_recipient_limit"));
      default_transport = read_or transport_named Smtp (at (codes "default_transport"));
      mailbox_transport = read_or via_setting_of (record { transport = Lmtp; nexthop = Some (codes "unix:mailbox") }) (at (codes "mailbox_transport"));
      seed = read_or seed_value 0 (at (codes "seed"));
      expand = read_or choice_value false (at (codes "expand_owner_alias"));
    }

-- how many recipients a transaction of a transport takes
abbrev pub limit_of : Settings → Transport → ℕ
limit_of s Smtp = s.smtp_limit
limit_of s Relay = s.relay_limit
limit_of s Lmtp = s.lmtp_limit
