-- What holds of the settings of every job.
use Rattle.std.proofs.Common.{◌≡◌, ℕ, ◌≤◌, true, cond, ◌&&◌, leb, List, [], ◌∷◌, length, map, codes, Option, Some, None, Ok, Err, refl, sym, ap, ◌∙◌, IsTrue, arith}
use Rattle.std.specs.List.{list_all, AllByRecursion}
use Rattle.std.specs.Char.{to_ascii_lowercase}
use Rattle.std.specs.Option.{unwrap_or}
use Rattle.std.proofs.lemmas.List.{length-map}
use Rattle.std.proofs.lemmas.Bool.{and_parts, or_left, leb-true}
use Rattle.std.proofs.lemmas.Option.{cond_some, option_and_then_some}
use Rattle.relay_text.specs.Bytes.{folded}
use Rattle.relay_text.specs.Addresses.{is_domain, is_domain_name, is_literal, is_origin}
use Rattle.relay_text.specs.Numbers.{number_of}
use Rattle.relay_text.specs.declared.lines.Line.{Line}
use Rattle.relay_text.proofs.Folds.{is_domain-folded, folded-folded}
use Rattle.relay_text.proofs.Limits.{origin_parts, origin_from_parts}
use Rattle.relay_routes.specs.declared.transport.Transport.{Transport}
use Rattle.relay_routes.specs.declared.transport.Transport.TheVariants.{Smtp, Relay, Lmtp}
use Rattle.relay_job.specs.declared.fault.RunFault.{RunFault}
use Rattle.relay_job.specs.declared.job.Job.{Job}
use Rattle.relay_job.specs.Settings.{host_value, domains_value, domain_texts, limit_value, value_at, read_or, settings_of, limit_of}
use Rattle.relay_job.specs.JobText.{settings_part, job_fault, sections_of, job_of}
use Rattle.relay_job.proofs.ParseFacts.{job-fault, job-good}

-- what holds of a key's default and of each value that is read holds of the key
read_or-holds : {X : Type 0} (P : X → Type 0) (read : List ℕ → Option X) (default : X) → P default → ((text : List ℕ) (v : X) → read text ≡ Some v → P v) → (o : Option (List ℕ)) → P (read_or read default o)
read_or-holds P read default here values None = here
read_or-holds {X} P read default here values (Some text) = at (read text) refl where
  at : (o : Option X) → read text ≡ o → P (unwrap_or o default)
  at None e = here
  at (Some v) e = values text v e

abbrev IsOrigin : List ℕ → Type 0
IsOrigin domain = IsTrue (is_origin domain)

domain_from_name : (text : List ℕ) → is_domain_name text ≡ true → is_domain text ≡ true
unfolding is_domain
domain_from_name text e = or_left (is_domain_name text) (is_literal text) e

-- A host name is folded, a domain, and short enough.
host_is_origin : (text host : List ℕ) → host_value text ≡ Some host → IsOrigin host
host_is_origin text host h =
    let read = cond_some (is_domain_name text && leb (length text) 189) (folded text) host h in
    let good = and_parts (is_domain_name text) (leb (length text) 189) read.0 in
    let domain : is_domain (folded text) ≡ true = is_domain-folded text ∙ domain_from_name text good.0 in
    rw (← read.1) (origin_from_parts (folded text) domain (folded-folded text) (omega (arith, length-map text to_ascii_lowercase, leb-true _ _ good.1)))

localhost_is_origin : IsOrigin (codes "localhost")
unfolding is_origin is_domain
localhost_is_origin = refl

limit_is_some : (text : List ℕ) (limit : ℕ) → limit_value text ≡ Some limit → 1 ≤ limit
limit_is_some text limit h = option_and_then_some (λ n. cond (leb 1 n && leb n 65535) (Some n) None) (number_of text) limit h (λ n e f.
    let read = cond_some (leb 1 n && leb n 65535) n limit f in
    rw (← read.1) (leb-true 1 n (and_parts (leb 1 n) (leb n 65535) read.0).0))

abbrev IsFolded : List ℕ → Type 0
IsFolded text = folded text ≡ text

all_folded : (texts : List (List ℕ)) → AllByRecursion IsFolded (map folded texts)
all_folded [] = tt
all_folded (text ∷ texts) = (folded-folded text, all_folded texts)

domains_are_folded : (text : List ℕ) (domains : List (List ℕ)) → domains_value text ≡ Some domains → AllByRecursion IsFolded domains
domains_are_folded text domains h = rw (← (cond_some (list_all is_domain (domain_texts text)) (map folded (domain_texts text)) domains h).1) (all_folded (domain_texts text))

-- by the lines of the settings
module _ (lines : List Line) where
  hostname_of : IsOrigin (settings_of lines).hostname
  hostname_of = read_or-holds IsOrigin host_value (codes "localhost") localhost_is_origin host_is_origin (value_at lines (codes "myhostname"))

  pub settings_of-origin : IsTrue (is_origin (settings_of lines).origin)
  settings_of-origin = read_or-holds IsOrigin host_value (settings_of lines).hostname hostname_of host_is_origin (value_at lines (codes "myorigin"))

  pub settings_of-destinations : AllByRecursion (λ domain. folded domain ≡ domain) (settings_of lines).destinations
  settings_of-destinations =
      read_or-holds (AllByRecursion IsFolded) domains_value ((settings_of lines).hostname ∷ codes "localhost" ∷ []) ((origin_parts (settings_of lines).hostname hostname_of).1, (refl, tt)) domains_are_folded (value_at lines (codes "mydestination"))

  limit_at : (key : List ℕ) → 1 ≤ read_or limit_value (read_or limit_value 50 (value_at lines (codes "default_destination_recipient_limit"))) (value_at lines key)
  limit_at key =
      let default : 1 ≤ read_or limit_value 50 (value_at lines (codes "default_destination_recipient_limit")) = read_or-holds (λ n. 1 ≤ n) limit_value 50 (omega arith) limit_is_some (value_at lines (codes "default_destination_recipient_limit")) in
      read_or-holds (λ n. 1 ≤ n) limit_value (read_or limit_value 50 (value_at lines (codes "default_destination_recipient_limit"))) default limit_is_some (value_at lines key)

  pub settings_of-limit : (transport : Transport) → 1 ≤ limit_of (settings_of lines) transport
  settings_of-limit Smtp = limit_at (codes "smtp_destination_recipient_limit")
  settings_of-limit Relay = limit_at (codes "relay_destination_recipient_limit")
  settings_of-limit Lmtp = limit_at (codes "lmtp_destination_recipient_limit")

-- A text that is a job has no fault, and its sections are the job.
pub job_is-sections : (text : List ℕ) (job : Job) → job_of text ≡ Ok job → sections_of text ≡ job
job_is-sections text job h = at (job_fault text) refl where
  at : (o : Option RunFault) → job_fault text ≡ o → sections_of text ≡ job
  at None e = let same : job_of text ≡ Ok (sections_of text) = job-good text e in cc
  at (Some fault) e = let other : job_of text ≡ Err fault = job-fault text fault e in cc

pub job-settings : (text : List ℕ) (job : Job) → job_of text ≡ Ok job → job.settings ≡ settings_of (settings_part text)
job-settings text job h = sym (ap (λ (j : Job). j.settings) (job_is-sections text job h))
