use Rattle.std.proofs.Common.{rules, ◌<◌, ◌^◌, arith, length}
use Rattle.std.proofs.lemmas.List.Sums.{count_by-le-length}
use Rattle.relay_job.proofs.LineFeeds.{is_feed, feeds_past}
use Rattle.relay_job.proofs.line_feeds.line_feeds.Goals as goal

pub overflow_add-count : goal.overflow_add-count
overflow_add-count c =
    let few : length c.args.bytes.now < 2 ^ 64 = search rules in
    let past = feeds_past c.loop-group.rest.now c.in-Some.group.now c.in-Some.more.now (search rules) (search rules) in
    omega (arith, few, past, c.group_feeds-count.ensures, count_by-le-length is_feed c.args.bytes.now, c.loop-group.invariant)

pub loop-group-preserved : goal.loop-group-preserved
loop-group-preserved c =
    let past = feeds_past c.loop-group.rest.now c.in-Some.group.now c.in-Some.more.now (search rules) (search rules) in
    omega (arith, past, c.group_feeds-count.ensures, c.loop-group.invariant)
