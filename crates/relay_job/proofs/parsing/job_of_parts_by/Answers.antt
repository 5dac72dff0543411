use Rattle.std.proofs.lemmas.Result.{err_from_is_err_and}
use Rattle.relay_job.specs.SectionPlaces.{setting_lines_of}
use Rattle.relay_job.proofs.JobFacts.{settings_of-origin}
use Rattle.relay_job.proofs.ParseFacts.{parts-settings, parts-envelope, parts-job}
use Rattle.relay_job.proofs.parsing.job_of_parts_by.Goals as goal

pub returns-in_err-settings : goal.returns-in_err-settings
returns-in_err-settings g c = λ text found.
    let p = err_from_is_err_and c.from_residual.result c.from_residual.ensures.1 in
    rw (p.1, p.2) (parts-settings text c.args.parts.now found _ c.in_err-settings.ensures.err)

pub returns-in_err-envelope : goal.returns-in_err-envelope
returns-in_err-envelope g c = λ text found.
    let p = err_from_is_err_and c.from_residual-in_err-envelope.result c.from_residual-in_err-envelope.ensures.1 in
    rw (p.1, p.2) (parts-envelope text c.args.parts.now found c.in_ok-settings.settings c.as_bytes-origin.result.now c.section-section.result c.in_ok-settings.ensures.ok c.as_bytes-origin.ensures
    (record { lines = c.section-section.ensures.lines; heading = c.section-section.ensures.heading }) _ c.in_err-envelope.ensures.err)

pub returns : goal.returns
returns g c = λ text found.
    parts-job text c.args.parts.now found c.in_ok-settings.settings c.as_bytes-origin.result.now c.section-section.result c.in_ok-settings.ensures.ok c.as_bytes-origin.ensures
    (record { lines = c.section-section.ensures.lines; heading = c.section-section.ensures.heading }) c.in_ok-envelope.files c.in_ok-envelope.envelope c.of.result c.in_ok-envelope.ensures.ok.1
    c.in_ok-envelope.ensures.ok.0 c.of.ensures

pub read_both-requires-after_bounds : goal.read_both-requires-after_bounds
read_both-requires-after_bounds g c κs within = rw (c.as_bytes-origin.ensures, c.in_ok-settings.ensures.ok.are) (settings_of-origin (setting_lines_of c.args.parts.now))
