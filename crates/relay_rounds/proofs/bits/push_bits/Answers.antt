use Rattle.std.proofs.Common.{ℕ, ◌+◌, ◌++◌, ◌∷◌, [], List, map, sym, ap, ◌∙◌, append_assoc, arith}
use Rattle.std.proofs.lemmas.List.{append-nil}
use Rattle.relay_rounds.specs.Bits.{bits_of}
use Rattle.relay_rounds.proofs.Words.{no_bits}
use Rattle.relay_rounds.proofs.bits.push_bits.Goals as goal

pub loop-left-preserved : goal.loop-left-preserved
loop-left-preserved c =
    let f : ℕ → ℕ = λ bit. c.args.base + bit in
    ap (λ (xs : List ℕ). xs ++ map f (bits_of c.split_lowest-bit.result.1)) c.in_ok-push.ensures.items
    ∙ append_assoc c.loop-left.keys.items (f c.split_lowest-bit.result.0 ∷ []) (map f (bits_of c.split_lowest-bit.result.1))
    ∙ ap (λ (xs : List ℕ). c.loop-left.keys.items ++ map f xs) (sym c.split_lowest-bit.ensures.bits)
    ∙ c.loop-left.invariant

pub returns : goal.returns
returns c =
    let f : ℕ → ℕ = λ bit. c.args.base + bit in
    sym (append-nil c.loop-left.keys.items) ∙ ap (λ (xs : List ℕ). c.loop-left.keys.items ++ map f xs) (sym (no_bits c.loop-left.left (let z = c.loop-left-test.false in omega arith)))
    ∙ c.loop-left.invariant
