-- The keys of blocks.
use Rattle.std.proofs.Common.{◌≡◌, ◌≢◌, ℕ, zero, suc, ◌+◌, ◌*◌, ◌/◌, ◌%◌, ◌<◌, ◌≤◌, true, List, arith, sym, ap, ◌∙◌, subst, ⊎_elim}
use Rattle.std.specs.Prelude.{AllPairs, Contains}
use Rattle.std.specs.List.{range_with_len}
use Rattle.std.proofs.lemmas.Bool.{cases_eq}
use Rattle.std.proofs.lemmas.List.FromFn.{get_or-range_with_len, length-range_with_len}
use Rattle.std.proofs.lemmas.List.Kept.{AllPairs-filter}
use Rattle.relay_rounds.specs.declared.block.Block.{Block}
use Rattle.relay_rounds.specs.Bits.{is_set, bits_of}
use Rattle.relay_rounds.specs.Blocks.{keys_in, keys_of}
use Rattle.relay_rounds.proofs.Keys.{nowhere, in_head, in_tail, cons_cases, in_map, from_map, pairs_map, pairs_flat, filter_in, filter_from}

in_range : (a n i : ℕ) → a ≤ i → i < a + n → Contains (range_with_len a n) i
in_range a zero i low high = absurd (omega arith)
in_range a (suc n) i low high =
    ⊎_elim
    (λ e. in_head a (range_with_len (a + 1) n) i e)
    (λ ne. in_tail a (range_with_len (a + 1) n) i (in_range (a + 1) n i (omega arith) (omega arith)))
    (cases_eq a i)

from_range : (a n i : ℕ) → Contains (range_with_len a n) i → i < a + n
from_range a zero i on = absurd (nowhere i on)
from_range a (suc n) i on = ⊎_elim (λ e. omega arith) (λ rest. let h = from_range (a + 1) n i rest in omega arith) (cons_cases a (range_with_len (a + 1) n) i on)

range_rises : (a n : ℕ) → AllPairs (λ x y. x < y) (range_with_len a n)
range_rises a n i j d before below =
    let size = length-range_with_len a n in
    let x = get_or-range_with_len a n i d (omega arith) in
    let y = get_or-range_with_len a n j d (omega arith) in omega arith

pub in_bits : (w i : ℕ) → i < 64 → is_set w i ≡ true → Contains (bits_of w) i
unfolding bits_of
in_bits w i low on = filter_in (is_set w) (range_with_len 0 64) i (in_range 0 64 i (omega arith) (omega arith)) on

pub from_bits : (w i : ℕ) → Contains (bits_of w) i → (i < 64) × (is_set w i ≡ true)
unfolding bits_of
from_bits w i on = let h = filter_from (is_set w) (range_with_len 0 64) i on in (from_range 0 64 i h.0, h.1)

bits_rise : (w : ℕ) → AllPairs (λ x y. x < y) (bits_of w)
unfolding bits_of
bits_rise w = AllPairs-filter (λ x y. x < y) (is_set w) (range_with_len 0 64) (range_rises 0 64)

pub in_block : (b : Block) (k : ℕ) → k / 64 ≡ b.number → is_set b.word (k % 64) ≡ true → Contains (keys_in b) k
in_block b k at on =
    let f : ℕ → ℕ = λ bit. b.number * 64 + bit in
    let e : f (k % 64) ≡ k = (let h = at in omega arith) in
    subst (λ (z : ℕ). Contains (keys_in b) z) e (in_map f (bits_of b.word) (k % 64) (in_bits b.word (k % 64) (omega arith) on))

pub from_block : (b : Block) (k : ℕ) → Contains (keys_in b) k → (k / 64 ≡ b.number) × (is_set b.word (k % 64) ≡ true)
from_block b k on =
    let f : ℕ → ℕ = λ bit. b.number * 64 + bit in
    let w = from_map f (bits_of b.word) k on in
    let i : ℕ = w.0 in
    let h = from_bits b.word i w.1 in
    let low = h.0 in
    let e : b.number * 64 + i ≡ k = w.2 in
    let at : k / 64 ≡ b.number = omega arith in
    let place : i ≡ k % 64 = omega arith in
    (at, subst (λ (z : ℕ). is_set b.word z ≡ true) place h.1)

block_rises : (b : Block) → AllPairs (λ x y. x < y) (keys_in b)
block_rises b = pairs_map (λ x y. x < y) (λ bit. b.number * 64 + bit) (bits_of b.word) (λ i j d before below. let h = bits_rise b.word i j d before below in omega arith)

differ_from : (xs : List ℕ) → AllPairs (λ x y. x < y) xs → AllPairs (λ x y. x ≢ y) xs
differ_from xs up i j d before below e = let h = up i j d before below in omega arith

-- the keys of different blocks differ
pub blocks_distinct : (blocks : List Block) → AllPairs (λ a b. a.number ≢ b.number) blocks → AllPairs (λ x y. x ≢ y) (keys_of blocks)
blocks_distinct blocks apart = pairs_flat (λ x y. x ≢ y) keys_in blocks (λ b on. differ_from (keys_in b) (block_rises b))
    (λ i j d before below k l ink inl e. apart i j d before below (sym (from_block _ k ink).0 ∙ ap (λ (z : ℕ). z / 64) e ∙ (from_block _ l inl).0))

-- and those of rising ones rise
pub blocks_rise : (blocks : List Block) → AllPairs (λ a b. a.number < b.number) blocks → AllPairs (λ x y. x < y) (keys_of blocks)
blocks_rise blocks up = pairs_flat (λ x y. x < y) keys_in blocks (λ b on. block_rises b)
    (λ i j d before below k l ink inl. let h = up i j d before below in let a = (from_block _ k ink).0 in let b = (from_block _ l inl).0 in omega arith)
