use Rattle.std.proofs.Common.{rules, IfOk}
use Rattle.std.specs.Result.{result_ok}
use Rattle.std.proofs.lemmas.Result.{IfOk-weaker}
use Rattle.relay_aliasfile.specs.ListParts.{AreBoth, IsRead}
use Rattle.relay_aliasfile.proofs.CutLists.{parts_both}
use Rattle.relay_aliasfile.proofs.list_parts.+ListPart-read_by+fn-ListPart-read_by-join+arg3.Goals as goal

pub returns : goal.returns
returns g t c =
    let front = c.in-Some.front.now in
    let back = c.in-Some.back.now in
    let there = c.join-there.result.0 in
    let here = c.join-there.result.1 in
    let one : IfOk here (IsRead c.args.line front) = search rules in
    let two : IfOk there (IsRead c.args.line back) = search rules in
    IfOk-weaker c.both.result (AreBoth (result_ok here) (result_ok there)) (IsRead c.args.line c.args.list.now)
    (λ both h. parts_both c.args.line c.args.list.now front back here there both c.in-Some.ensures.texts one two h) c.both.ensures
