-- What holds of the files and tables that a text has.
use Rattle.std.proofs.Common.{◌≡◌, ◌≢◌, ℕ, ◌+◌, ◌≤◌, List, length, Ok, subst}
use Rattle.std.specs.Prelude.{IsTrue, All, AllPairs}
use Rattle.relay_text.specs.Bytes.{folded}
use Rattle.relay_text.specs.Addresses.{is_origin}
use Rattle.relay_routes.specs.declared.transport.Transport.{Transport}
use Rattle.relay_job.specs.declared.job.Job.{Job}
use Rattle.relay_job.specs.Settings.{limit_of}
use Rattle.relay_job.specs.JobSizes.{include_size, job_size}
use Rattle.relay_job.specs.JobText.{sections_of, settings_part}
use Rattle.relay_job.specs.Tables.{without_envelope, tables_of}
use Rattle.relay_job.proofs.JobFacts.{settings_of-origin, settings_of-limit}
use Rattle.relay_job.proofs.JobBounds.{all_destinations}
use Rattle.relay_job.proofs.PathFacts.{sections_paths}
use Rattle.relay_job.proofs.SizeFacts.{sections_fit, sections_includes_fit}
use Rattle.relay_job.proofs.TablesFacts.{tables_are-sections, unbroken_tables}

module _ (text : List ℕ) (tables : Job) (h : tables_of text ≡ Ok tables) where
  -- what holds of the sections without the envelope holds of the tables
  of_sections : (P : Job → Type 0) → P (without_envelope (sections_of text)) → P tables
  of_sections P holds = subst P (tables_are-sections text tables h) holds

  pub tables_paths : AllPairs (λ a b. a.path ≢ b.path) tables.includes
  tables_paths = of_sections (λ (j : Job). AllPairs (λ a b. a.path ≢ b.path) j.includes) (sections_paths text (unbroken_tables text tables h))

  pub tables_origin : IsTrue (is_origin tables.settings.origin)
  tables_origin = of_sections (λ (j : Job). IsTrue (is_origin j.settings.origin)) (settings_of-origin (settings_part text))

  pub tables_destinations : All (λ domain. folded domain ≡ domain) tables.settings.destinations
  tables_destinations = of_sections (λ (j : Job). All (λ domain. folded domain ≡ domain) j.settings.destinations) (all_destinations text)

  pub tables_limit : (transport : Transport) → 1 ≤ limit_of tables.settings transport
  tables_limit transport = of_sections (λ (j : Job). 1 ≤ limit_of j.settings transport) (settings_of-limit (settings_part text) transport)

  pub tables_fit : job_size tables + length tables.includes ≤ length text
  tables_fit = of_sections (λ (j : Job). job_size j + length j.includes ≤ length text) (sections_fit text)

  pub tables_includes_fit : All (λ i. include_size i ≤ length text) tables.includes
  tables_includes_fit = of_sections (λ (j : Job). All (λ i. include_size i ≤ length text) j.includes) (sections_includes_fit text)
