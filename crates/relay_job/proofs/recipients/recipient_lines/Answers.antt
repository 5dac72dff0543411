use Rattle.std.proofs.Common.{◌≡◌, List, sym, ap, ◌∙◌}
use Rattle.relay_job.specs.JobText.{JobLine, envelope_lines, envelope_part, heading_number}
use Rattle.relay_job.specs.JobParts.{commands_at, commands_of, line_in, lines_of}
use Rattle.relay_job.proofs.ParseFacts.{envelope_commands, envelope_heading}
use Rattle.relay_job.proofs.RecipientLineFacts.{lines_read, no_lines_read}
use Rattle.relay_job.proofs.recipients.recipient_lines.Goals as goal

pub returns-in-Some-clause-lines : goal.returns-in-Some-clause-lines
returns-in-Some-clause-lines c =
    let text = c.args.bytes.now in
    let found = c.in_ok-parts.ensures.ok in
    let section = c.section-section.result in
    let heading : heading_number (envelope_part text) ≡ section.line = envelope_heading text c.in_ok-parts.parts found ∙ sym c.section-section.ensures.heading in
    let commands : envelope_lines (envelope_part text) ≡ commands_at section = envelope_commands text c.in_ok-parts.parts found ∙ ap (λ (l : List JobLine). commands_of (lines_of l)) (sym c.section-section.ensures.lines) in
    c.in_ok-numbers_behind-in-Some.ensures
    ∙ lines_read text section.line (commands_at section) (line_in c.in-Some._sender) (commands_at c.in-Some.behind) heading commands c.in-Some.ensures.lines

pub returns-clause-lines : goal.returns-clause-lines
returns-clause-lines c =
    let text = c.args.bytes.now in
    let commands : envelope_lines (envelope_part text) ≡ commands_at c.section-section.result = envelope_commands text c.in_ok-parts.parts c.in_ok-parts.ensures.ok ∙ ap (λ (l : List JobLine). commands_of (lines_of l)) (sym c.section-section.ensures.lines) in
    c.new.ensures.items ∙ no_lines_read text (commands_at c.section-section.result) commands c.in-None.ensures.none
