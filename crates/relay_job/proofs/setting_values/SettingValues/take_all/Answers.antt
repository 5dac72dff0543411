use Rattle.std.proofs.Common.{◌≡◌, true, false, ◌∷◌, sym, ◌∙◌}
use Rattle.std.proofs.lemmas.Result.{err_from_is_err_and}
use Rattle.relay_text.specs.Lines.{is_ignored}
use Rattle.relay_job.specs.Places.{line_of, content_at}
use Rattle.relay_job.specs.JobParts.{command_of, lines_of}
use Rattle.relay_job.specs.SettingValues.{HasSetBy}
use Rattle.relay_job.proofs.SettingFacts.{ValuesScanned, ValuesScanned-start, ValuesScanned-bad, ValuesScanned-ignored, ValuesScanned-taken, ValuesScanned-end}
use Rattle.relay_job.proofs.setting_values.SettingValues.take_all.Goals as goal

pub loop-line-init : goal.loop-line-init
loop-line-init c = ValuesScanned-start _ c.args.self.now c.requires

pub loop-line-preserved-then-is_ignored : goal.loop-line-preserved-then-is_ignored
loop-line-preserved-then-is_ignored c =
    let scanned : ValuesScanned (lines_of (content_at c.args.section)) (command_of (line_of c.in-Some.line) ∷ lines_of (content_at c.in-Some.after)) c.loop-line.self = rw c.in-Some.ensures.lines at c.loop-line.invariant in
    ValuesScanned-ignored _ (command_of (line_of c.in-Some.line)) (lines_of (content_at c.in-Some.after)) c.loop-line.self scanned (rw c.content_text-text.ensures at (sym c.is_ignored.ensures ∙ c.if-is_ignored.true))

pub returns-in_err-take-clause-err : goal.returns-in_err-take-clause-err
returns-in_err-take-clause-err c =
    let scanned : ValuesScanned (lines_of (content_at c.args.section)) (command_of (line_of c.in-Some.line) ∷ lines_of (content_at c.in-Some.after)) c.loop-line.self = rw c.in-Some.ensures.lines at c.loop-line.invariant in
    let kept : is_ignored (command_of (line_of c.in-Some.line)).text ≡ false = rw c.content_text-text.ensures at (sym c.is_ignored.ensures ∙ c.if-is_ignored.false) in
    let p = err_from_is_err_and c.from_residual.result c.from_residual.ensures.1 in
    rw (p.1, p.2) (ValuesScanned-bad _ (command_of (line_of c.in-Some.line)) (lines_of (content_at c.in-Some.after)) c.loop-line.self scanned kept c.take.new.self _ (rw c.content_text-text.ensures at c.in_err-take.ensures.err))

pub loop-line-preserved : goal.loop-line-preserved
loop-line-preserved c =
    let scanned : ValuesScanned (lines_of (content_at c.args.section)) (command_of (line_of c.in-Some.line) ∷ lines_of (content_at c.in-Some.after)) c.loop-line.self = rw c.in-Some.ensures.lines at c.loop-line.invariant in
    let kept : is_ignored (command_of (line_of c.in-Some.line)).text ≡ false = rw c.content_text-text.ensures at (sym c.is_ignored.ensures ∙ c.if-is_ignored.false) in
    let taken : HasSetBy c.loop-line.self (command_of (line_of c.in-Some.line)).text true c.take.new.self = rw c.content_text-text.ensures at c.in_ok-take.ensures.ok in
    ValuesScanned-taken _ (command_of (line_of c.in-Some.line)) (lines_of (content_at c.in-Some.after)) c.loop-line.self scanned kept taken.setting c.take.new.self taken.names (taken.set scanned.at scanned.read)

pub returns-clause-ok : goal.returns-clause-ok
returns-clause-ok c = ValuesScanned-end _ c.loop-line.self (rw c.in_default.ensures.none at c.loop-line.invariant)
