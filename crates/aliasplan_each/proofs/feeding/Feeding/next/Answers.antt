use Rattle.std.proofs.Common.{ap, arith, refl, Ok}
use Rattle.std.proofs.lemmas.Grind.{common_steps}
use Rattle.std.proofs.lemmas.Result.{err_from_is_err_and}
use Rattle.std.specs.Io.KnownBytes.{prepend_known}
use Rattle.aliasplan_each.proofs.FeedingFacts.{LeadsKnown-start, LeadsKnown-line, fewer-line, no-more, smaller-line}
use Rattle.aliasplan_each.proofs.FaultFacts.{told, never-err}
use Rattle.aliasplan_each.proofs.feeding.Feeding.next.Goals as goal

pub loop-self-init : goal.loop-self-init
loop-self-init g c = record {
  works = c.requires.works;
  told = c.requires.told;
  empty = c.new-line.ensures.items;
  asked = c.requires.asked;
  leads = LeadsKnown-start _ _ _ _ _;
  fewer = omega arith;
}

pub returns-in_err-next_line-clause-read : goal.returns-in_err-next_line-clause-read
returns-in_err-next_line-clause-read g c =
    let p = err_from_is_err_and c.from_residual.result c.from_residual.ensures.1 in
    rw (p.1, p.2) (told _ _ _ _ refl refl c.in_err-next_line.ensures.read)

pub returns-in-Some-clause-given : goal.returns-in-Some-clause-given
returns-in-Some-clause-given g c = rw c.in_ok-section.ensures.pending (rw c.in-Some.is at (LeadsKnown-line _ _ _ _ _ _ _ _ _ _ _ _ _ _ (prepend_known c.next_line.new.self (g.F.Feed.remaining c.next_line.new.reader)) c.loop-self.invariant.leads (grind (arith, common_steps)) (c.in_ok-next_line.ensures.line (ap Ok c.if-not-branch.false)) c.in_ok-section.ensures.number (rw c.deref.ensures.value at c.in_ok-section.ensures.given) (rw c.deref.ensures.value at c.in_ok-section.ensures.begun)))

pub returns-in-Some-clause-fewer : goal.returns-in-Some-clause-fewer
returns-in-Some-clause-fewer g c = rw c.in-Some.is at (fewer-line _ _ _ _ _ _ _ _ _ _ _ c.in_ok-section.ensures.given c.in_ok-section.ensures.begun c.in_ok-section.ensures.number c.in_ok-section.ensures.within c.loop-self.invariant.fewer)

pub loop-self-smaller : goal.loop-self-smaller
loop-self-smaller g c = smaller-line _ _ c.in_ok-section.ensures.number c.in_ok-section.ensures.within

pub loop-self-preserved : goal.loop-self-preserved
loop-self-preserved g c = record {
  works = c.in_ok-next_line.ensures.read.1 (never-err _ _ _ refl);
  told = c.in_ok-next_line.ensures.told;
  empty = c.clear.ensures.items;
  asked = c.in_ok-section.ensures.asked;
  leads = rw c.in_ok-section.ensures.pending (rw c.in_default.is at (LeadsKnown-line _ _ _ _ _ _ _ _ _ _ _ _ _ _ (prepend_known c.next_line.new.self (g.F.Feed.remaining c.next_line.new.reader)) c.loop-self.invariant.leads (grind (arith, common_steps)) (c.in_ok-next_line.ensures.line (ap Ok c.if-not-branch.false)) c.in_ok-section.ensures.number (rw c.deref.ensures.value at c.in_ok-section.ensures.given) (rw c.deref.ensures.value at c.in_ok-section.ensures.begun)));
  fewer = no-more _ _ (rw c.in_default.is at (fewer-line _ _ _ _ _ _ _ _ _ _ _ c.in_ok-section.ensures.given c.in_ok-section.ensures.begun c.in_ok-section.ensures.number c.in_ok-section.ensures.within c.loop-self.invariant.fewer));
}
