use Rattle.std.proofs.Common.{rules, refl}
use Rattle.relay_job.specs.Places.{line_of, lines_at}
use Rattle.relay_envelopes.proofs.ReplacedFacts.{put_next, put_last}
use Rattle.relay_envelopes.proofs.replacing.put_emptied.Goals as goal

pub loop-line-preserved : goal.loop-line-preserved
loop-line-preserved c =
    put_next c.loop-line.is_within _ c.loop-line.out.items _ _ _ (line_of c.in-Some.line) (lines_at c.in-Some.after) (lines_at c.loop-line.place) c.in-Some.ensures.lines c.is_own-is_within.ensures refl (search rules) c.loop-line.invariant

pub returns : goal.returns
returns c = put_last c.loop-line.is_within c.loop-line.out.items _ (lines_at c.loop-line.place) c.in_default.ensures.none c.loop-line.invariant
