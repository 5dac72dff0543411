use Rattle.std.proofs.lemmas.Result.{err_from_is_err_and}
use Rattle.relay_gather.proofs.Putting.{HasPut-start, HasPut-more, HasPut-stop, HasPut-end}
use Rattle.relay_gather.proofs.gathered.Gathered.put_body.Goals as goal

pub loop-line-init : goal.loop-line-init
loop-line-init c = HasPut-start c.args.file.now c.args.self.now

pub loop-line-preserved : goal.loop-line-preserved
loop-line-preserved c = HasPut-more c.args.file.now c.loop-line.rest.now c.in-Some.line.now c.in-Some.after.now c.args.self.now c.loop-line.self c.put_line.new.self c.loop-line.invariant c.in-Some.ensures.lines c.in_ok-put_line.ensures.ok

pub returns-in_err-put_line-clause-err : goal.returns-in_err-put_line-clause-err
returns-in_err-put_line-clause-err c =
    let p = err_from_is_err_and c.from_residual.result c.from_residual.ensures.1 in
    rw (p.1, p.2) (HasPut-stop c.args.file.now c.loop-line.rest.now c.in-Some.line.now c.in-Some.after.now c.args.self.now c.loop-line.self _ c.loop-line.invariant c.in-Some.ensures.lines c.in_err-put_line.ensures.err)

pub returns-clause-ok : goal.returns-clause-ok
returns-clause-ok c = HasPut-end c.args.file.now c.loop-line.rest.now c.args.self.now c.loop-line.self c.loop-line.invariant c.in_default.ensures.none
