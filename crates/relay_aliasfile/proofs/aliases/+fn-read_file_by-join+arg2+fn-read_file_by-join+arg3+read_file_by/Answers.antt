use Rattle.std.proofs.Common.{rules, ◌≡◌, ◌+◌, [], IfOk, ap}
use Rattle.std.specs.Result.{result_ok}
use Rattle.std.proofs.lemmas.Result.{IfOk-weaker}
use Rattle.relay_aliasfile.specs.AliasTables.{file_behind, IsBoth}
use Rattle.relay_aliasfile.proofs.HalvedEntries.{file_both}
use Rattle.relay_aliasfile.proofs.aliases.+fn-read_file_by-join+arg2+fn-read_file_by-join+arg3+read_file_by.Goals as goal

pub returns : goal.returns
returns g t c =
    let front = c.in-Some.front.now in
    let back = c.in-Some.back.now in
    let behind = c.args.passed + c.line_count.result in
    let one : IfOk c.join-here.result.0 (λ file. file ≡ file_behind c.args.passed [] front) = search rules in
    let two : IfOk c.join-here.result.1 (λ file. file ≡ file_behind behind [] back) = search rules in
    IfOk-weaker c.both_files.result (IsBoth (result_ok c.join-here.result.0) (result_ok c.join-here.result.1)) (λ file. file ≡ file_behind c.args.passed [] c.args.bytes.now)
    (λ file h. file_both c.args.passed behind c.args.bytes.now front back c.join-here.result.0 c.join-here.result.1 file
    c.in-Some.ensures.bytes c.in-Some.ensures.front c.in-Some.ensures.back (ap (λ n. c.args.passed + n) c.line_count.ensures.lines) one two h) c.both_files.ensures
