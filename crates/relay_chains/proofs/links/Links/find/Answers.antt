use Rattle.std.proofs.Common.{◌≡◌, ℕ, ◌<◌, ◌≤◌, false, true, Some, None, length, get_or, IfSome, ⊎_elim, arith}
use Rattle.std.specs.Prelude.{unwrap_or, Option}
use Rattle.std.proofs.lemmas.Bool.{cases_lt}
use Rattle.relay_chains.proofs.Under.{last_under_le, last_under-last_under, after_last_under}
use Rattle.relay_chains.proofs.links.Links.find.Goals as goal

pub find_from-requires-clause-callable : goal.find_from-requires-clause-callable
find_from-requires-clause-callable g c = λ k below. c.requires k (omega (arith, c.newest.ensures, last_under_le c.args.self.now c.args.hash (length c.args.self.now)))

pub find_from-requires-clause-within : goal.find_from-requires-clause-within
find_from-requires-clause-within g c = omega (arith, c.newest.ensures, last_under_le c.args.self.now c.args.hash (length c.args.self.now))

pub find_from-requires-clause-under : goal.find_from-requires-clause-under
find_from-requires-clause-under g c = rw c.newest.ensures (last_under-last_under c.args.self.now c.args.hash (length c.args.self.now))

-- what is found below a word is found below the count
widened : (P Q : ℕ → Type 0) (found : Option ℕ) (word count : ℕ) → word ≤ count → IfSome found (λ k. (k < word) × P k × Q k) → IfSome found (λ k. (k < count) × P k × Q k)
widened P Q None word count within found = found
widened P Q (Some k) word count within found = (omega (arith, found.0), found.1, found.2)

-- what is known of the numbers below a word, where no other stands under the hash
lengthened : (P Q R : ℕ → Type 0) (found : Option ℕ) (word count : ℕ) → ((k : ℕ) → word ≤ k → k < count → R k) → IfSome found (λ k. (k < word) × P k × Q k)
    → ((k : ℕ) → k < unwrap_or found word → R k) → (k : ℕ) → k < unwrap_or found count → R k
lengthened P Q R None word count past found before k below = ⊎_elim (λ under. before k under) (λ over. past k over below) (cases_lt k word)
lengthened P Q R (Some n) word count past found before k below = before k below

pub returns-clause-found : goal.returns-clause-found
returns-clause-found g c =
    widened (λ k. get_or c.args.self.now k 0 ≡ c.args.hash) (λ k. goal.F-post g c.args.is_sought k true) c.find_from.result c.newest.result (length c.args.self.now)
    (omega (arith, c.newest.ensures, last_under_le c.args.self.now c.args.hash (length c.args.self.now))) c.find_from.ensures.found

pub returns-clause-before : goal.returns-clause-before
returns-clause-before g c =
    lengthened (λ k. get_or c.args.self.now k 0 ≡ c.args.hash) (λ k. goal.F-post g c.args.is_sought k true)
    (λ k. get_or c.args.self.now k 0 ≡ c.args.hash → goal.F-post g c.args.is_sought k false) c.find_from.result c.newest.result (length c.args.self.now)
    (λ k from below here. absurd (after_last_under c.args.self.now c.args.hash (length c.args.self.now) k (omega (arith, c.newest.ensures)) below here))
    c.find_from.ensures.found c.find_from.ensures.before
