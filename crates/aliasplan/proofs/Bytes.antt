-- What runs of reads and writes do to bytes that are known.
use Rattle.std.proofs.Common.{ℕ, List, ◌++◌, Option, Some, None, append_assoc, ap, ◌∙◌, sym}
use Rattle.std.proofs.Common.{◌+◌, ◌-◌, ◌≤◌, length, take, drop, length-drop, arith}
use Rattle.std.proofs.Math.Seq.{take-add}
use Rattle.std.proofs.lemmas.List.{take_all}
use Rattle.std.specs.Io.KnownBytes.{Consumes, Appends}

-- what is taken in two steps is taken
pub consumes_more : (a b c : Option (List ℕ)) (xs ys : List ℕ) → Consumes a b xs → Consumes b c ys → Consumes a c (xs ++ ys)
consumes_more None b c xs ys h k = tt
consumes_more (Some us) None c xs ys h k = absurd h
consumes_more (Some us) (Some vs) None xs ys h k = absurd k
consumes_more (Some us) (Some vs) (Some ws) xs ys h k = h ∙ ap (λ t. xs ++ t) k ∙ sym (append_assoc xs ys ws)

-- what is written in two steps is written
pub appends_more : (a b c : Option (List ℕ)) (xs ys : List ℕ) → Appends a b xs → Appends b c ys → Appends a c (xs ++ ys)
appends_more None b c xs ys h k = tt
appends_more (Some us) None c xs ys h k = absurd h
appends_more (Some us) (Some vs) None xs ys h k = absurd k
appends_more (Some us) (Some vs) (Some ws) xs ys h k = k ∙ ap (λ t. t ++ ys) h ∙ append_assoc us xs ys

-- a front of a text, and then more of what is left of it, is a longer front
pub front_grows : (a b c : Option (List ℕ)) (text : List ℕ) (m n : ℕ) → Appends a b (take m text)
    → Appends b c (take n (take (length text - m) (drop m text))) → Appends a c (take (m + n) text)
front_grows a b c text m n front more =
    rw (take-add m n text) (appends_more a b c (take m text) (take n (drop m text)) front
    (rw (take_all (length text - m) (drop m text) (omega (arith, length-drop m text))) at more))

-- what is taken of what is left stays within the text
pub front_within : (text : List ℕ) (m n : ℕ) → m ≤ length text → n ≤ length (take (length text - m) (drop m text)) → m + n ≤ length text
front_within text m n within more = omega (arith, length-drop m text, rw (take_all (length text - m) (drop m text) (omega (arith, length-drop m text))) at more)
