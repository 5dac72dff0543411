use Rattle.std.proofs.Common.{rules, ◌+◌, IfOk, ap}
use Rattle.std.specs.Result.{result_ok}
use Rattle.std.proofs.lemmas.Result.{IfOk-weaker}
use Rattle.relay_halves.specs.PartReads.{BothMake}
use Rattle.relay_halves.proofs.PartsTogether.{whole_read}
use Rattle.relay_halves.proofs.part_read.+fn-read_by-join+arg2+fn-read_by-join+arg3+read_by.Goals as goal

pub returns : goal.returns
returns g t c =
    let laws = g.met.P.PartRead g.world.𝓛 g.world.𝓜 g.world.𝓡 ((λ s x. x), (λ x. x), (λ x. x), λ x. x) in
    let is_read = g.P.PartRead.is_read in
    let makes = g.P.PartRead.makes in
    let front = c.in-Some.front.now in
    let back = c.in-Some.back.now in
    let behind = c.args.passed + c.line_count.result in
    let one : IfOk c.join-here.result.0 (is_read c.args.passed front) = search rules in
    let two : IfOk c.join-here.result.1 (is_read behind back) = search rules in
    IfOk-weaker c.both.result (BothMake makes (result_ok c.join-here.result.0) (result_ok c.join-here.result.1)) (is_read c.args.passed c.args.bytes.now)
    (λ both h. whole_read is_read makes laws.reads_on c.args.passed behind c.args.bytes.now front back c.join-here.result.0 c.join-here.result.1 both
    c.in-Some.ensures.bytes c.in-Some.ensures.front c.in-Some.ensures.back (ap (λ n. c.args.passed + n) c.line_count.ensures.lines) one two h) c.both.ensures
