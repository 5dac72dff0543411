use Rattle.std.proofs.Common.{◌≡◌, false, sym, ◌∙◌}
use Rattle.relay_job.specs.JobText.{text_of}
use Rattle.relay_job.specs.Places.{line_of}
use Rattle.relay_envelopes.specs.Headings.{is_envelope_word}
use Rattle.relay_envelopes.specs.Sections.{begins_envelopes}
use Rattle.relay_envelopes.proofs.SectionFacts.{no-word, no-heading, IsPast-start, IsPast-line}
use Rattle.relay_envelopes.proofs.parts.envelopes_place.Goals as goal
use Rattle.relay_envelopes.proofs.parts.envelopes_place.Goals.{else-is_heading-via-then-is_heading+else-is_envelope_word, else-is_heading-via-else-is_heading}

pub loop-line-init : goal.loop-line-init
loop-line-init c = IsPast-start begins_envelopes c.args.text.now c.start-place.result c.start-place.ensures.lines

pub loop-line-preserved : goal.loop-line-preserved
loop-line-preserved c =
    let other : begins_envelopes (line_of c.in-Some.line) ≡ false = elim c.else-is_heading.branch [
      | else-is_heading-via-then-is_heading+else-is_envelope_word w ↦
          (let wordless : is_envelope_word (text_of (line_of c.in-Some.line)) ≡ false = sym (rw w.text.ensures at w.is_envelope_word.ensures) ∙ w.if-is_envelope_word.false in no-word (line_of c.in-Some.line) wordless)
      | else-is_heading-via-else-is_heading w ↦ no-heading (line_of c.in-Some.line) (sym c.is_heading.ensures ∙ w.if-is_heading.false)
    ] in
    IsPast-line begins_envelopes _ _ _ _ _ _ (line_of c.in-Some.line) c.loop-line.invariant c.in-Some.ensures.lines c.in-Some.ensures.bytes other
