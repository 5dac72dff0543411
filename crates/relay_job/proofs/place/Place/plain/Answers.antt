use Rattle.std.proofs.Common.{◌+◌, sym, ◌∙◌}
use Rattle.relay_job.proofs.PercentLineFacts.{section_front}
use Rattle.relay_job.proofs.PlaceCuts.{plain_within, plain_content}
use Rattle.relay_job.proofs.place.Place.plain.Goals as goal

pub returns-clause-content : goal.returns-clause-content
returns-clause-content c =
    plain_content c.args.self.now.line c.args.self.now.rest.now c.percent_line_place.result c.split_at.result.0.now c.split_at.result.1.now
    (record { len = c.percent_line_place.ensures.len; is_front = c.split_at.ensures.front; is_rest = c.split_at.ensures.back })
    (sym c.is_doubled.ensures ∙ c.if-is_doubled.false)

pub returns-clause-within : goal.returns-clause-within
returns-clause-within c =
    plain_within c.args.self.now.line c.args.self.now.rest.now c.percent_line_place.result c.split_at.result.0.now c.split_at.result.1.now
    (record { len = c.percent_line_place.ensures.len; is_front = c.split_at.ensures.front; is_rest = c.split_at.ensures.back })

pub returns-clause-bytes : goal.returns-clause-bytes
returns-clause-bytes c =
    section_front (c.args.self.now.line + 1) c.args.self.now.rest.now c.percent_line_place.result c.split_at.result.0.now c.split_at.result.1.now
    (record { len = c.percent_line_place.ensures.len; is_front = c.split_at.ensures.front; is_rest = c.split_at.ensures.back })
    (sym c.is_doubled.ensures ∙ c.if-is_doubled.false)
