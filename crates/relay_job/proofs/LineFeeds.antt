-- The LFs of a text, counted sixty-four bytes at a time.
use Rattle.std.proofs.Common.{◌≡◌, ℕ, ◌+◌, ◌%◌, ◌^◌, Bool, cond, List, length, take, drop, map, replicate, refl, sym, ap, ◌∙◌, arith, eqb, w8, count_ones}
use Rattle.std.specs.List.{count_by}
use Rattle.std.specs.Simd.Lanes.{mask_l, zip2, top}
use Rattle.std.proofs.lemmas.List.{take-append-drop}
use Rattle.std.proofs.lemmas.List.Sums.{sum_by-append}
use Rattle.std.proofs.lemmas.Simd.{bitmask_splat, ones-mask_l}

-- the end of a line
abbrev pub is_feed : ℕ → Bool
is_feed b = eqb b 10

abbrev pub feeds : List ℕ → ℕ
feeds bs = count_by is_feed bs

-- the bits of sixty-four bytes compared with an LF
abbrev pub ends_of : List ℕ → ℕ
ends_of group = mask_l (map (top 7) (zip2 (λ a b. cond (eqb a b) 255 0) group (replicate 64 10))) % 2 ^ 64

pub group_counted : (group : List ℕ) → length group ≡ 64 → count_ones (ends_of group) ≡ feeds group
group_counted group long = ap count_ones (bitmask_splat w8 eqb group 64 10 long (omega arith)) ∙ ones-mask_l (λ (b : ℕ). eqb b 10) group

-- a text cut behind its first sixty-four bytes
pub feeds_past : (text group more : List ℕ) → group ≡ take 64 text → more ≡ drop 64 text → feeds text ≡ feeds group + feeds more
feeds_past text group more e f = ap feeds (sym (take-append-drop 64 text)) ∙ sum_by-append (λ (b : ℕ). cond (eqb b 10) 1 0) (take 64 text) (drop 64 text) ∙ rw (← e, ← f) refl
