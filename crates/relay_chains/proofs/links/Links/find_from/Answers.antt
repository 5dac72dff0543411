use Rattle.std.proofs.Common.{◌≡◌, ℕ, ◌-◌, ◌<◌, ◌≤◌, suc, false, get_or, sym, subst, ⊎_elim, arith}
use Rattle.std.specs.Prelude.{Bool}
use Rattle.std.proofs.lemmas.Bool.{cases_order}
use Rattle.relay_chains.proofs.Under.{hash_of_last, last_under_le, last_under-last_under, after_last_under}
use Rattle.relay_chains.proofs.links.Links.find_from.Goals as goal
use Rattle.relay_chains.proofs.links.Links.find_from.Goals.{then-is_sought, else-is_sought}

pub older-next-requires-clause-under : goal.older-next-requires-clause-under
older-next-requires-clause-under g c =
    let next : c.loop-next.next ≡ suc (c.loop-next.next - 1) = omega (arith, c.loop-next-test.true) in
    hash_of_last c.args.self.now c.args.hash (c.loop-next.next - 1) (rw next at c.loop-next.invariant.under)

pub loop-next-smaller : goal.loop-next-smaller
loop-next-smaller g c = omega (arith, c.older-next.ensures, last_under_le c.args.self.now c.args.hash (c.loop-next.next - 1), c.loop-next-test.true)

pub loop-next-preserved : goal.loop-next-preserved
loop-next-preserved g c =
    let hashes = c.args.self.now in
    let number = c.loop-next.next - 1 in
    let next : c.loop-next.next ≡ suc number = omega (arith, c.loop-next-test.true) in
    let here : get_or hashes number 0 ≡ c.args.hash = hash_of_last hashes c.args.hash number (rw next at c.loop-next.invariant.under) in
    let lower = last_under_le hashes c.args.hash number in
    let skipped : (k : ℕ) → c.older-next.result ≤ k → k < number → get_or hashes k 0 ≡ c.args.hash → ⊥ = λ k from below. after_last_under hashes c.args.hash number k (omega (arith, c.older-next.ensures)) below in
    record {
      within = omega (arith, c.older-next.ensures, c.loop-next.invariant.within, c.loop-next-test.true);
      under = rw c.older-next.ensures (last_under-last_under hashes c.args.hash number);
      found = elim c.if-is_sought.branch [
        | then-is_sought w ↦ rw w.found-is (omega (arith, c.loop-next.invariant.within, c.loop-next-test.true), here, subst (λ (b : Bool). goal.F-post g c.args.is_sought number b) w.if-is_sought.true c.is_sought.ensures)
        | else-is_sought w ↦ rw w.found-is c.loop-next.invariant.found
      ];
      before = elim c.if-is_sought.branch [
        | then-is_sought w ↦ rw w.found-is (λ k from below hash. absurd (skipped k from below hash))
        | else-is_sought w ↦ rw w.found-is (λ k from below hash. ⊎_elim
            (λ same. subst (λ (k' : ℕ). goal.F-post g c.args.is_sought k' false) (sym same) (subst (λ (b : Bool). goal.F-post g c.args.is_sought number b) w.if-is_sought.false c.is_sought.ensures))
            (λ order. ⊎_elim (λ lower. absurd (skipped k from lower hash)) (λ higher. c.loop-next.invariant.before k (omega arith) below hash) order)
            (cases_order k number))
      ];
    }
