use Rattle.std.proofs.Common.{◌≡◌, true, sym, ap, ◌∙◌}
use Rattle.relay_job.specs.JobText.{text_of, is_heading}
use Rattle.relay_job.specs.Places.{line_of, lines_at}
use Rattle.relay_envelopes.specs.Headings.{is_end}
use Rattle.relay_envelopes.specs.Sections.{envelopes_of}
use Rattle.relay_envelopes.proofs.SectionFacts.{heading-first, end-found}
use Rattle.relay_envelopes.proofs.parts.behind_end.Goals as goal

pub returns-then-is_end-clause-sections : goal.returns-then-is_end-clause-sections
returns-then-is_end-clause-sections c =
    let x = line_of c.in-Some.line in
    let first : is_heading x ≡ true = heading-first _ x _ c.in-Some.ensures.lines c.requires in
    let ends : is_end (text_of x) ≡ true = sym (rw c.text.ensures at c.is_end.ensures) ∙ c.if-is_end.true in
    rw (ap envelopes_of c.in-Some.ensures.lines ∙ end-found x (lines_at c.in-Some.after) first ends) c.first_heading.ensures.sections
