use Rattle.std.proofs.Common.{◌≡◌, true, false, ◌==◌, ap, ◌∙◌, arith}
use Rattle.std.proofs.lemmas.Bool.Decides.{nat_tests}
use Rattle.relay_job.specs.JobText.{is_heading}
use Rattle.relay_job.specs.Places.{line_of, lines_at}
use Rattle.relay_job.specs.Reasons.{located}
use Rattle.relay_job.proofs.ReasonFacts.{located-behind, own-heading, own-other}
use Rattle.relay_job.proofs.located.LocatedLine.find.Goals as goal
use Rattle.relay_job.proofs.located.LocatedLine.find.Goals.{then-is_heading, else-is_heading}

pub loop-line-preserved : goal.loop-line-preserved
loop-line-preserved c =
    let other : (c.in-Some.line.number == c.args.number) ≡ false = grind (arith, nat_tests) in
    let passed = c.loop-line.invariant.same ∙ ap (located c.args.number c.loop-line.before) c.in-Some.ensures.lines in
    elim c.if-is_heading.branch [
      | then-is_heading w ↦
          (let e : is_heading (line_of c.in-Some.line) ≡ true = cc in
          record {
            same = passed ∙ located-behind c.args.number c.loop-line.before c.if-is_heading.own_number (line_of c.in-Some.line) (lines_at c.in-Some.after) other (w.own_number-is ∙ own-heading c.loop-line.before (line_of c.in-Some.line) e);
            few = omega (arith, w.own_number-is, c.loop-line.invariant.few, c.in-Some.ensures.shorter);
          })
      | else-is_heading w ↦
          (let e : is_heading (line_of c.in-Some.line) ≡ false = cc in
          record {
            same = passed ∙ located-behind c.args.number c.loop-line.before c.if-is_heading.own_number (line_of c.in-Some.line) (lines_at c.in-Some.after) other (w.own_number-is ∙ own-other c.loop-line.before (line_of c.in-Some.line) e);
            few = omega (arith, w.own_number-is, c.loop-line.invariant.few, c.in-Some.ensures.shorter);
          })
    ]
