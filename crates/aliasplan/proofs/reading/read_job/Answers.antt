use Rattle.std.proofs.Common.{◌≡◌, List, ℕ, Err, ap, arith, length, length-append, refl, subst, sym}
use Rattle.std.specs.Io.KnownBytes.{Consumes}
use Rattle.std.proofs.lemmas.Grind.{common_steps}
use Rattle.std.proofs.lemmas.Result.{err_from_is_err_and}
use Rattle.relay_job.specs.declared.fault.RunFault.TheVariants.{TooLong}
use Rattle.aliasplan.proofs.Bytes.{consumes_more}
use Rattle.aliasplan.proofs.RunFacts.{told}
use Rattle.aliasplan.proofs.reading.read_job.Goals as goal

pub loop-preserved : goal.loop-preserved
loop-preserved g c =
    let remaining = g.F.Feed.remaining in
    let step = c.in_ok-count.ensures in
    let taken = step.taken in
    let old = c.loop.invariant in
    let kept : c.make_room.new.text.items ≡ c.loop.text.items = c.make_room.ensures.items in
    let told = subst (λ (text : List ℕ). Consumes (remaining c.args.reader.now) (remaining c.loop.reader) text) (sym kept) old.told in
    record {
      told =
          subst (λ (text : List ℕ). Consumes (remaining c.args.reader.now) (remaining c.read_some.new.reader) text) (sym taken.grown)
          (consumes_more (remaining c.args.reader.now) (remaining c.loop.reader) (remaining c.read_some.new.reader) c.make_room.new.text.items taken.bytes told taken.given);
      works = step.read.1 (λ e. let no : ⊥ = cc in no);
      goes_on = grind (arith, common_steps, step.ended);
      grows =
          omega
          (arith, ap length taken.grown, length-append c.make_room.new.text.items taken.bytes, taken.counted, c.if-count-eq0.false, c.read_some.new.text.ok.0, c.make_room.new.text.ok.0, c.make_room.ensures.len, old.grows);
      within = omega (arith, c.if-len-max.false, c.len-in-loop-2.ensures);
      room = old.room;
    }

pub returns-in_err-chunk : goal.returns-in_err-chunk
returns-in_err-chunk g c =
    let p = err_from_is_err_and c.from_residual.result c.from_residual.ensures.1 in
    rw (p.1, p.2) (record {
      all = tt;
      size = tt;
      at_end = tt;
      ended = tt;
      read = (λ e. absurd (let no : ⊥ = cc in no), λ _. c.requires.fresh.0);
      too_long = λ e. absurd (let no : ⊥ = cc in no);
      only = tt;
    })

pub returns-in_err-text : goal.returns-in_err-text
returns-in_err-text g c =
    let p = err_from_is_err_and c.from_residual-in_err-text.result c.from_residual-in_err-text.ensures.1 in
    rw (p.1, p.2) (record {
      all = tt;
      size = tt;
      at_end = tt;
      ended = tt;
      read = (λ e. absurd (let no : ⊥ = cc in no), λ _. c.requires.fresh.0);
      too_long = λ e. absurd (let no : ⊥ = cc in no);
      only = tt;
    })

pub returns-in_err-count : goal.returns-in_err-count
returns-in_err-count g c =
    let p = err_from_is_err_and c.from_residual-in_err-count.result c.from_residual-in_err-count.ensures.1 in
    let step = c.in_err-count.ensures in
    rw (p.1, p.2) (record {
      all = tt;
      size = tt;
      at_end = tt;
      ended = tt;
      read = told _ _ _ _ refl refl step.read;
      too_long = λ e. absurd (step.not_long (let same : c.in_err-count.field-0.0 ≡ TooLong = cc in ap Err same));
      only = step.only;
    })
