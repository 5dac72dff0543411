-- What was read of both parts of a text makes what is read of the whole.
use Rattle.std.proofs.Common.{Result, Ok, Err, IfOk, ◌≡◌, ℕ, ◌+◌, List, ◌++◌, length, subst, sym}
use Rattle.std.specs.Result.{result_ok}
use Rattle.relay_text.specs.Lines.{raw_lines}
use Rattle.relay_halves.specs.Halves.{EndsWithLine, BeginsLogicalLine}
use Rattle.relay_halves.specs.PartReads.{BothMake}

module _ {P : Type 0} (is_read : ℕ → List ℕ → P → Type 0) (makes : P → P → P → Type 0)
    (reads_on : (passed behind : ℕ) (front back : List ℕ) (first second both : P) → EndsWithLine front → BeginsLogicalLine back
    → behind ≡ passed + length (raw_lines front) → is_read passed front first → is_read behind back second → makes first second both
    → is_read passed (front ++ back) both) where
  pub whole_read : {E : Type 0} (passed behind : ℕ) (text front back : List ℕ) (here there : Result P E) (both : P)
      → text ≡ front ++ back → EndsWithLine front → BeginsLogicalLine back → behind ≡ passed + length (raw_lines front)
      → IfOk here (is_read passed front) → IfOk there (is_read behind back) → BothMake makes (result_ok here) (result_ok there) both
      → is_read passed text both
  whole_read passed behind text front back (Err e) there both cut ended begun count one two h = absurd h
  whole_read passed behind text front back (Ok first) (Err e) both cut ended begun count one two h = absurd h
  whole_read passed behind text front back (Ok first) (Ok second) both cut ended begun count one two h =
      subst (λ t. is_read passed t both) (sym cut) (reads_on passed behind front back first second both ended begun count one two h)
