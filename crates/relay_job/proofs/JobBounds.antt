-- What holds of each job that a text is.
use Rattle.std.proofs.Common.{◌≡◌, ℕ, ◌≤◌, List, Ok, sym, subst}
use Rattle.std.specs.Prelude.{IsTrue, All}
use Rattle.std.proofs.lemmas.List.Elements.{All-from_recursion}
use Rattle.relay_text.specs.Bytes.{folded}
use Rattle.relay_text.specs.Addresses.{is_origin}
use Rattle.relay_routes.specs.declared.transport.Transport.{Transport}
use Rattle.relay_job.specs.declared.job.Job.{Job}
use Rattle.relay_job.specs.declared.settings.Settings.{Settings}
use Rattle.relay_job.specs.Settings.{limit_of}
use Rattle.relay_job.specs.JobText.{job_of, job_settings, settings_part}
use Rattle.relay_job.proofs.JobFacts.{settings_of-origin, settings_of-destinations, settings_of-limit, job-settings}

-- the local domains of a text's settings are folded
pub all_destinations : (text : List ℕ) → All (λ domain. folded domain ≡ domain) (job_settings text).destinations
all_destinations text = All-from_recursion (λ (domain : List ℕ). folded domain ≡ domain) _ (settings_of-destinations (settings_part text))

module _ (text : List ℕ) (job : Job) (h : job_of text ≡ Ok job) where
  -- the origin is one
  pub text_origin : IsTrue (is_origin job.settings.origin)
  text_origin = subst (λ (s : Settings). IsTrue (is_origin s.origin)) (sym (job-settings text job h)) (settings_of-origin (settings_part text))

  -- the local domains are folded
  pub text_destinations : All (λ domain. folded domain ≡ domain) job.settings.destinations
  text_destinations = subst (λ (s : Settings). All (λ domain. folded domain ≡ domain) s.destinations) (sym (job-settings text job h)) (all_destinations text)

  -- each limit is at least 1
  pub text_limit : (transport : Transport) → 1 ≤ limit_of job.settings transport
  text_limit transport = subst (λ (s : Settings). 1 ≤ limit_of s transport) (sym (job-settings text job h)) (settings_of-limit (settings_part text) transport)
