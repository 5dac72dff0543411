use Rattle.std.proofs.Common.{◌≡◌, false, sym, ◌∙◌}
use Rattle.relay_job.specs.JobText.{is_heading}
use Rattle.relay_job.specs.Places.{line_of}
use Rattle.relay_envelopes.proofs.SectionFacts.{IsPast-line}
use Rattle.relay_envelopes.proofs.parts.next_heading.Goals as goal

pub loop-line-preserved : goal.loop-line-preserved
loop-line-preserved c =
    let other : is_heading (line_of c.in-Some.line) ≡ false = sym c.is_heading.ensures ∙ c.if-is_heading.false in
    IsPast-line is_heading _ _ _ _ _ _ (line_of c.in-Some.line) c.loop-line.invariant c.in-Some.ensures.lines c.in-Some.ensures.bytes other
