use Rattle.std.proofs.Common.{◌≡◌, true, false, sym, ap, ◌∙◌, arith}
use Rattle.std.specs.List.{list_all}
use Rattle.relay_text.specs.Bytes.{is_white}
use Rattle.relay_job.specs.JobText.{text_of, is_heading}
use Rattle.relay_job.specs.Places.{line_of, lines_at}
use Rattle.relay_envelopes.specs.Sections.{envelopes_of}
use Rattle.relay_envelopes.specs.Envelopes.{bad_behind}
use Rattle.relay_envelopes.proofs.SectionFacts.{blank-passed, other-passed}
use Rattle.relay_envelopes.proofs.parts.first_heading.Goals as goal

pub loop-line-preserved : goal.loop-line-preserved
loop-line-preserved c =
    let other : is_heading (line_of c.in-Some.line) ≡ false = sym c.is_heading.ensures ∙ c.if-is_heading.false in
    let blank : list_all is_white (text_of (line_of c.in-Some.line)) ≡ true = sym c.is_blank.ensures ∙ c.if-not-is_blank.false in
    record {
      sections = c.loop-line.invariant.sections ∙ ap envelopes_of c.in-Some.ensures.lines ∙ other-passed (line_of c.in-Some.line) (lines_at c.in-Some.after) other;
      unbroken = λ ids. c.loop-line.invariant.unbroken ids ∙ ap (bad_behind false ids) c.in-Some.ensures.lines ∙ blank-passed ids (line_of c.in-Some.line) (lines_at c.in-Some.after) other blank;
      no_longer = omega (arith, c.in-Some.ensures.shorter, c.loop-line.invariant.no_longer);
    }
