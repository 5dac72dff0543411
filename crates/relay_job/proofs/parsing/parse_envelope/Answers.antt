use Rattle.std.proofs.Common.{◌≡◌, List, ap}
use Rattle.relay_job.specs.JobText.{JobLine, is_heading}
use Rattle.relay_job.specs.JobParts.{commands_of, lines_of, commands_at}
use Rattle.relay_job.specs.Envelopes.{envelope_commands}
use Rattle.relay_text.specs.Lines.{cut_before}
use Rattle.relay_job.proofs.EnvelopeTextFacts.{envelope-read}
use Rattle.relay_job.proofs.parsing.parse_envelope.Goals as goal

pub returns : goal.returns
returns c =
    let commands : commands_at c.start.result ≡ envelope_commands c.args.bytes.now = ap (λ (lines : List JobLine). commands_of (lines_of (cut_before is_heading lines).before)) c.start.ensures.lines in
    envelope-read c.args.origin.now c.args.bytes.now c.start.result c.read.result c.start.ensures.number commands c.read.ensures.ok c.read.ensures.err
