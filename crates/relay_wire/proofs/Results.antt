-- What a call answers.
use Rattle.std.proofs.Common.{Result, Ok, Err, IfOk}

-- what follows from two facts of an answer
pub if_ok_both : {A E : Type 0} {P Q R : A → Type 0} (r : Result A E) → IfOk r P → IfOk r Q → ((a : A) → P a → Q a → R a) → IfOk r R
if_ok_both (Ok a) p q follows = follows a p q
if_ok_both (Err e) p q follows = tt

-- what holds of an answer for each value
pub if_ok_all : {A E H : Type 0} (P : H → A → Type 0) (r : Result A E) → ((h : H) → IfOk r (P h)) → IfOk r (λ a. (h : H) → P h a)
if_ok_all P (Ok a) all = all
if_ok_all P (Err e) all = tt
