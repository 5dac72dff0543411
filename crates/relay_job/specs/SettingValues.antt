-- The values of the keys, and the settings that they make.
use Rattle.std.specs.Prelude.{◌≡◌, ℕ, Bool, true, false, not, ◌&&◌, ◌||◌, List, [], ◌∷◌, codes, Option, Some, None, is_some, option_and_then, unwrap_or, if◌then◌else◌}
use Rattle.std.specs.Str.{bytes_eq}
use Rattle.relay_text.specs.declared.lines.Line.{Line}
use Rattle.relay_routes.specs.declared.transport.Transport.TheVariants.{Smtp, Lmtp}
use Rattle.relay_routes.specs.declared.via.Via.{Via}
use Rattle.relay_routes.specs.Nexthops.{via_setting_of}
use Rattle.relay_routes.specs.Transports.{transport_named}
use Rattle.relay_job.specs.declared.setting.Setting as lines
use Rattle.relay_job.specs.declared.setting_values.SettingValues.{SettingValues}
use Rattle.relay_job.specs.declared.settings.Settings.{Settings}
use Rattle.relay_job.specs.Settings.{Setting, setting_of, is_good_setting, value_at, host_value, domains_value, delimiter_value, limit_value, seed_value, choice_value}
use Rattle.relay_job.specs.JobParts.{first_bad_setting}

abbrev pub setting_in : lines.Setting → Setting
setting_in s = record { key = s.key.now; value = s.value.now }

-- what the texts of keys say
abbrev pub values_by : (List ℕ → Option (List ℕ)) → SettingValues
values_by at = record {
  hostname = option_and_then host_value (at (codes "myhostname"));
  origin = option_and_then host_value (at (codes "myorigin"));
  destinations = option_and_then domains_value (at (codes "mydestination"));
  delimiter = option_and_then delimiter_value (at (codes "recipient_delimiter"));
  limit = option_and_then limit_value (at (codes "default_destination_recipient_limit"));
  smtp_limit = option_and_then limit_value (at (codes "smtp_destination_recipient_limit"));
  relay_limit = option_and_then limit_value (at (codes "relay_destination_recipient_limit"));
  lmtp_limit = option_and_then limit_value (at (codes "lmtp_destination_recipient_limit"));
  default_transport = option_and_then transport_named (at (codes "default_transport"));
  mailbox_transport = option_and_then via_setting_of (at (codes "mailbox_transport"));
  seed = option_and_then seed_value (at (codes "seed"));
  expand = option_and_then choice_value (at (codes "expand_owner_alias"));
}

-- the transport of mailboxes where no setting names one
abbrev pub default_via : Via
default_via = record { transport = Lmtp; nexthop = Some (codes "unix:mailbox") }

-- the settings, each at its value or its default
abbrev pub settings_with : SettingValues → Settings
settings_with v =
    let hostname : List ℕ = unwrap_or v.hostname (codes "localhost") in
    let limit : ℕ = unwrap_or v.limit 50 in
    record {
      hostname = hostname;
      origin = unwrap_or v.origin hostname;
      destinations = unwrap_or v.destinations (hostname ∷ codes "localhost" ∷ []);
      delimiter = unwrap_or v.delimiter None;
      smtp_limit = unwrap_or v.smtp_limit limit;
      relay_limit = unwrap_or v.relay_limit limit;
      lmtp_limit = unwrap_or v.lmtp_limit limit;
      default_transport = unwrap_or v.default_transport Smtp;
      mailbox_transport = unwrap_or v.mailbox_transport default_via;
      seed = unwrap_or v.seed 0;
      expand = unwrap_or v.expand false;
    }

-- the texts of keys beside one more
abbrev pub with_setting : (List ℕ → Option (List ℕ)) → Setting → List ℕ → Option (List ℕ)
with_setting at s name = if bytes_eq s.key name then Some s.value else at name

-- These are the values of keys by their texts, which are good.
pub record AreRead (at : List ℕ → Option (List ℕ)) (v : SettingValues) : Type 0 where
  pub values : v ≡ values_by at
  pub good : (s : Setting) → at s.key ≡ Some s.value → is_good_setting s ≡ true

-- A key is set where it's known, has no value yet, and takes this one.
pub record HasSet (at : List ℕ → Option (List ℕ)) (s : Setting) (good : Bool) (v : SettingValues) : Type 0 where
  pub fresh : good ≡ (is_good_setting s && not (is_some (at s.key)))
  pub set : good ≡ true → v ≡ values_by (with_setting at s)

-- A line sets a key so.
pub record HasSetBy (old : SettingValues) (text : List ℕ) (good : Bool) (new : SettingValues) : Type 0 where
  pub setting : Setting
  pub names : setting_of text ≡ Some setting
  pub set : (at : List ℕ → Option (List ℕ)) → AreRead at old → HasSet at setting good new

-- the keys whose values take memory
abbrev pub takes_memory : List ℕ → Bool
takes_memory key =
    bytes_eq key (codes "myhostname")
    || bytes_eq key (codes "myorigin")
    || bytes_eq key (codes "mydestination")
    || bytes_eq key (codes "mailbox_transport")

-- No line breaks the settings, and each key has its value.
pub record AreValuesOf (lines : List Line) (v : SettingValues) : Type 0 where
  pub unbroken : first_bad_setting lines ≡ None
  pub values : v ≡ values_by (value_at lines)
