use Rattle.std.proofs.Common.{sym, ◌∙◌}
use Rattle.relay_job.proofs.PercentLineFacts.{percent_line_here, IsSearched-on, no_percent_line}
use Rattle.relay_job.proofs.PlaceCuts.{percent_line_ends}
use Rattle.relay_job.proofs.percent_line.percent_line_place.Goals as goal

pub returns-then-begins_line-clause-len : goal.returns-then-begins_line-clause-len
returns-then-begins_line-clause-len c = percent_line_here c.args.bytes.now c.loop-place.rest.now c.in-Some.place c.loop-place.invariant c.in-Some.ensures (sym c.begins_line.ensures ∙ c.if-begins_line.true)

pub returns-then-begins_line-clause-begins : goal.returns-then-begins_line-clause-begins
returns-then-begins_line-clause-begins c =
    percent_line_ends c.args.bytes.now _ (percent_line_here c.args.bytes.now c.loop-place.rest.now c.in-Some.place c.loop-place.invariant c.in-Some.ensures (sym c.begins_line.ensures ∙ c.if-begins_line.true))

pub loop-place-preserved : goal.loop-place-preserved
loop-place-preserved c =
    IsSearched-on c.args.bytes.now c.loop-place.rest.now c.in-Some.place c.loop-place.invariant c.in-Some.ensures c.next_line_place.result c.split_at.result.1.now
    (sym c.begins_line.ensures ∙ c.if-begins_line.false) c.next_line_place.ensures.passed c.next_line_place.ensures.within c.split_at.ensures.back

pub returns-clause-len : goal.returns-clause-len
returns-clause-len c = no_percent_line c.args.bytes.now c.loop-place.rest.now c.loop-place.invariant c.in_default.ensures
