use Rattle.std.proofs.Common.{◌≡◌, true, false, ◌∷◌, refl, sym, ◌∙◌, arith}
use Rattle.std.specs.List.{list_all}
use Rattle.std.proofs.lemmas.Result.{err_from_is_err_and}
use Rattle.relay_text.specs.Bytes.{is_white}
use Rattle.relay_job.specs.JobText.{is_heading, text_of}
use Rattle.relay_job.specs.Places.{lines_at, line_of}
use Rattle.relay_job.proofs.SectionFacts.{Scanned, Scanned-other, Scanned-start, Scanned-taken, Scanned-bad, Scanned-end}
use Rattle.relay_job.proofs.PercentLineFacts.{Scanned-passed}
use Rattle.relay_job.proofs.parts.Parts.take_all.Goals as goal

pub loop-line-init : goal.loop-line-init
loop-line-init c = Scanned-start c.args.bytes.now (lines_at c.start-place.result) c.args.self.now c.start-place.ensures.lines c.requires.sections c.requires.includes c.requires.paths

pub returns-in_err-take_heading-clause-err : goal.returns-in_err-take_heading-clause-err
returns-in_err-take_heading-clause-err c =
    let h : Scanned c.args.bytes.now (line_of c.in-Some.line ∷ lines_at c.in-Some.after) c.loop-line.self c.loop-line.started = rw c.in-Some.ensures.lines at c.loop-line.invariant in
    let p = err_from_is_err_and c.from_residual.result c.from_residual.ensures.1 in
    rw (p.1, p.2) (Scanned-bad _ _ _ _ _ _ h (sym c.is_heading.ensures ∙ c.if-is_heading.true) c.in_err-take_heading.ensures.err)

pub loop-line-preserved-then-is_heading : goal.loop-line-preserved-then-is_heading
loop-line-preserved-then-is_heading c =
    let h : Scanned c.args.bytes.now (line_of c.in-Some.line ∷ lines_at c.in-Some.after) c.loop-line.self c.loop-line.started = rw c.in-Some.ensures.lines at c.loop-line.invariant in
    let e : is_heading (line_of c.in-Some.line) ≡ true = sym c.is_heading.ensures ∙ c.if-is_heading.true in
    let part = c.in_ok-take_heading.ensures.ok in
    let taken : Scanned c.args.bytes.now (lines_at c.in-Some.after) c.take_heading.new.self true = Scanned-taken _ _ _ _ _ _ part.heading h e part.names part.fresh c.in-Some.ensures.number part.taken in
    rw c.before_percent_line-place.ensures.lines (Scanned-passed _ _ _ taken)

pub loop-line-preserved-then-started : goal.loop-line-preserved-then-started
loop-line-preserved-then-started c =
    let h : Scanned c.args.bytes.now (line_of c.in-Some.line ∷ lines_at c.in-Some.after) c.loop-line.self c.loop-line.started = rw c.in-Some.ensures.lines at c.loop-line.invariant in
    let e : is_heading (line_of c.in-Some.line) ≡ false = sym c.is_heading.ensures ∙ c.if-is_heading.false in
    let started : Scanned c.args.bytes.now (line_of c.in-Some.line ∷ lines_at c.in-Some.after) c.loop-line.self true = rw c.if-started.true at h in
    let passed : Scanned c.args.bytes.now (lines_at c.in-Some.after) c.loop-line.self true = Scanned-other _ _ _ _ true (list_all is_white (text_of (line_of c.in-Some.line))) started e refl refl in
    rw c.if-started.true (rw c.before_percent_line-place-then-started.ensures.lines (Scanned-passed _ _ _ passed))

pub loop-line-preserved : goal.loop-line-preserved
loop-line-preserved c =
    let h : Scanned c.args.bytes.now (line_of c.in-Some.line ∷ lines_at c.in-Some.after) c.loop-line.self c.loop-line.started = rw c.in-Some.ensures.lines at c.loop-line.invariant in
    let e : is_heading (line_of c.in-Some.line) ≡ false = sym c.is_heading.ensures ∙ c.if-is_heading.false in
    let blank : list_all is_white (text_of (line_of c.in-Some.line)) ≡ true = cc in
    Scanned-other _ _ _ _ c.loop-line.started true h e blank (grind arith)

pub returns-clause-ok : goal.returns-clause-ok
returns-clause-ok c = Scanned-end _ _ _ _ c.loop-line.invariant c.in_default.ensures.none
