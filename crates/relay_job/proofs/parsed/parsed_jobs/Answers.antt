use Rattle.relay_job.proofs.JobBounds.{text_origin, text_destinations, text_limit}
use Rattle.relay_job.proofs.PathFacts.{job_paths}
use Rattle.relay_job.proofs.SizeFacts.{job_fits, includes_fit}
use Rattle.relay_job.proofs.parsed.parsed_jobs.Goals as goal

pub returns : goal.returns
returns c = record { paths = job_paths; origin = text_origin; destinations = text_destinations; limits = text_limit; sizes = job_fits; includes = includes_fit }
