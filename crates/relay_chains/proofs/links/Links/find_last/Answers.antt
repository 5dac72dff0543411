use Rattle.std.proofs.Common.{◌≡◌, ℕ, ◌-◌, suc, false, length, sym, subst, ⊎_elim, arith}
use Rattle.std.specs.Prelude.{Bool}
use Rattle.std.proofs.lemmas.Bool.{cases_order}
use Rattle.relay_chains.proofs.Under.{hash_of_last, last_under_le, last_under-last_under, after_last_under}
use Rattle.relay_chains.proofs.links.Links.find_last.Goals as goal

pub loop-word-init : goal.loop-word-init
loop-word-init g c =
    let hashes = c.args.self.now in
    record {
      within = omega (arith, c.newest-word.ensures, last_under_le hashes c.args.hash (length hashes));
      under = rw c.newest-word.ensures (last_under-last_under hashes c.args.hash (length hashes));
      after = λ k from below here. absurd (after_last_under hashes c.args.hash (length hashes) k (omega (arith, c.newest-word.ensures)) below here);
    }

pub older-word-requires-clause-under : goal.older-word-requires-clause-under
older-word-requires-clause-under g c =
    let word : c.loop-word.word ≡ suc (c.loop-word.word - 1) = omega (arith, c.loop-word-test.true) in
    hash_of_last c.args.self.now c.args.hash (c.loop-word.word - 1) (rw word at c.loop-word.invariant.under)

pub returns-then-is_sought-clause-found : goal.returns-then-is_sought-clause-found
returns-then-is_sought-clause-found g c =
    let number = c.loop-word.word - 1 in
    let word : c.loop-word.word ≡ suc number = omega (arith, c.loop-word-test.true) in (
      omega (arith, c.loop-word.invariant.within, c.loop-word-test.true),
      hash_of_last c.args.self.now c.args.hash number (rw word at c.loop-word.invariant.under),
      subst (λ (b : Bool). goal.F-post g c.args.is_sought number b) c.if-is_sought.true c.is_sought.ensures,
    )

pub loop-word-smaller : goal.loop-word-smaller
loop-word-smaller g c = omega (arith, c.older-word.ensures, last_under_le c.args.self.now c.args.hash (c.loop-word.word - 1), c.loop-word-test.true)

pub loop-word-preserved : goal.loop-word-preserved
loop-word-preserved g c =
    let hashes = c.args.self.now in
    let number = c.loop-word.word - 1 in
    let lower = last_under_le hashes c.args.hash number in
    record {
      within = omega (arith, c.older-word.ensures, c.loop-word.invariant.within, c.loop-word-test.true);
      under = rw c.older-word.ensures (last_under-last_under hashes c.args.hash number);
      after = λ k from below here. ⊎_elim
          (λ same. subst (λ (k' : ℕ). goal.F-post g c.args.is_sought k' false) (sym same) (subst (λ (b : Bool). goal.F-post g c.args.is_sought number b) c.if-is_sought.false c.is_sought.ensures))
          (λ order. ⊎_elim
          (λ before. absurd (after_last_under hashes c.args.hash number k (omega (arith, c.older-word.ensures)) before here))
          (λ behind. c.loop-word.invariant.after k (omega arith) below here)
          order)
          (cases_order k number);
    }
