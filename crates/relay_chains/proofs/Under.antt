-- Lemmas on the numbers under a hash, and on the buckets of hashes.
use Rattle.std.proofs.Common.{◌≡◌, ℕ, zero, suc, ◌%◌, ◌^◌, ◌<◌, ◌≤◌, List, ◌++◌, length, get_or, sym, refl, ap, ◌∙◌, ⊎_elim, arith, eq-eqb}
use Rattle.std.proofs.Math.Nat.{mod-eq_of_lt, div-lt_iff_lt-mul}
use Rattle.std.proofs.lemmas.Bool.{cond-true, cond-false, ne_eqb, cases_eq}
use Rattle.std.proofs.lemmas.List.{get_or-map, get_or_append_left, length-map}
use Rattle.relay_chains.specs.Buckets.{last_in, AreLinked}
use Rattle.relay_chains.specs.Links.{last_under, bucket_under, buckets_of}
use Rattle.relay_chains.proofs.Linked.{last_in-here, last_in-else, last_in-none, last_in_le, last_in-last_in}

pub last_under-here : (hashes : List ℕ) (hash number : ℕ) → get_or hashes number 0 ≡ hash → last_under hashes hash (suc number) ≡ suc number
unfolding last_under
last_under-here hashes hash number e = cond-true _ _ _ (eq-eqb _ _ e)

pub last_under-else : (hashes : List ℕ) (hash number : ℕ) → (get_or hashes number 0 ≡ hash → ⊥) → last_under hashes hash (suc number) ≡ last_under hashes hash number
unfolding last_under
last_under-else hashes hash number e = cond-false _ _ _ (ne_eqb _ _ e)

pub last_under-none : (hashes : List ℕ) (hash : ℕ) → last_under hashes hash 0 ≡ 0
unfolding last_under
last_under-none hashes hash = refl

pub last_under_le : (hashes : List ℕ) (hash count : ℕ) → last_under hashes hash count ≤ count
last_under_le hashes hash zero = omega (arith, last_under-none hashes hash)
last_under_le hashes hash (suc n) =
    ⊎_elim (λ e. omega (arith, last_under-here hashes hash n e)) (λ e. omega (arith, last_under-else hashes hash n e, last_under_le hashes hash n))
    (cases_eq (get_or hashes n 0) hash)

-- what is named is the last under its hash up to itself
pub last_under-last_under : (hashes : List ℕ) (hash count : ℕ) → last_under hashes hash (last_under hashes hash count) ≡ last_under hashes hash count
last_under-last_under hashes hash zero = ap (last_under hashes hash) (last_under-none hashes hash)
last_under-last_under hashes hash (suc n) =
    ⊎_elim (λ e. ap (last_under hashes hash) (last_under-here hashes hash n e))
    (λ e. let s = last_under-else hashes hash n e in ap (last_under hashes hash) s ∙ last_under-last_under hashes hash n ∙ sym s)
    (cases_eq (get_or hashes n 0) hash)

-- a number that is the last up to itself stands under the hash
pub hash_of_last : (hashes : List ℕ) (hash number : ℕ) → last_under hashes hash (suc number) ≡ suc number → get_or hashes number 0 ≡ hash
hash_of_last hashes hash n last =
    ⊎_elim (λ e. e) (λ e. absurd (omega (arith, last_under-else hashes hash n e, last_under_le hashes hash n)))
    (cases_eq (get_or hashes n 0) hash)

-- the numbers after the last one under a hash stand under others
pub after_last_under : (hashes : List ℕ) (hash count k : ℕ) → last_under hashes hash count ≤ k → k < count → get_or hashes k 0 ≡ hash → ⊥
after_last_under hashes hash zero k from below here = omega arith
after_last_under hashes hash (suc n) k from below here =
    ⊎_elim (λ e. omega (arith, last_under-here hashes hash n e))
    (λ e. ⊎_elim (λ same. e (ap (λ (i : ℕ). get_or hashes i 0) (sym same) ∙ here))
    (λ other. after_last_under hashes hash n k (omega (arith, last_under-else hashes hash n e)) (omega arith) here)
    (cases_eq k n))
    (cases_eq (get_or hashes n 0) hash)

-- a new hash changes nothing of the numbers before it
pub last_under_push : (hashes more : List ℕ) (hash count : ℕ) → count ≤ length hashes → last_under (hashes ++ more) hash count ≡ last_under hashes hash count
last_under_push hashes more hash zero l = last_under-none (hashes ++ more) hash ∙ sym (last_under-none hashes hash)
last_under_push hashes more hash (suc n) l =
    let below : n < length hashes = omega arith in
    let same : get_or (hashes ++ more) n 0 ≡ get_or hashes n 0 = get_or_append_left hashes more 0 n below in
    ⊎_elim (λ e. last_under-here (hashes ++ more) hash n (same ∙ e) ∙ sym (last_under-here hashes hash n e))
    (λ e. last_under-else (hashes ++ more) hash n (λ here. e (sym same ∙ here)) ∙ last_under_push hashes more hash n (omega arith) ∙ sym (last_under-else hashes hash n e))
    (cases_eq (get_or hashes n 0) hash)

pub bucket_under_lt : (heads hash : ℕ) → 0 < heads → hash < 2 ^ 32 → bucket_under heads hash < heads
bucket_under_lt heads hash some small = grind (arith, div-lt_iff_lt-mul)

-- the numbers under a hash lie in its bucket
pub in_bucket : (heads : ℕ) (hashes : List ℕ) (hash number : ℕ) → bucket_under heads hash < heads → number < length hashes → get_or hashes number 0 ≡ hash
    → get_or (buckets_of heads hashes) number 0 % heads ≡ bucket_under heads hash
in_bucket heads hashes hash number inside below here =
    ap (λ (bucket : ℕ). bucket % heads) (get_or-map (bucket_under heads) hashes number 0 0 below ∙ ap (bucket_under heads) here) ∙ mod-eq_of_lt inside

-- no number between the last of a bucket and the end stands under a hash of the bucket
pub last_under-in_bucket : (heads : ℕ) (hashes : List ℕ) (hash count : ℕ) → bucket_under heads hash < heads → count ≤ length hashes
    → last_under hashes hash (last_in heads (buckets_of heads hashes) (bucket_under heads hash) count) ≡ last_under hashes hash count
last_under-in_bucket heads hashes hash zero inside within = ap (last_under hashes hash) (last_in-none heads (buckets_of heads hashes) (bucket_under heads hash))
last_under-in_bucket heads hashes hash (suc n) inside within =
    ⊎_elim (λ e. ap (last_under hashes hash) (last_in-here heads (buckets_of heads hashes) (bucket_under heads hash) n e))
    (λ e. ap (last_under hashes hash) (last_in-else heads (buckets_of heads hashes) (bucket_under heads hash) n e)
    ∙ last_under-in_bucket heads hashes hash n inside (omega arith)
    ∙ sym (last_under-else hashes hash n (λ here. e (in_bucket heads hashes hash n inside (omega arith) here))))
    (cases_eq (get_or (buckets_of heads hashes) n 0 % heads) (bucket_under heads hash))

-- a word from which the chain leads to all that stands under a hash before a number
pub record LeadsOn (heads : ℕ) (hashes : List ℕ) (hash count word : ℕ) : Type 0 where
  pub within : word ≤ count
  pub on_chain : last_in heads (buckets_of heads hashes) (bucket_under heads hash) word ≡ word
  pub same : last_under hashes hash word ≡ last_under hashes hash count

leads-last : (heads : ℕ) (hashes : List ℕ) (hash count : ℕ) → bucket_under heads hash < heads → count ≤ length hashes
    → LeadsOn heads hashes hash count (last_in heads (buckets_of heads hashes) (bucket_under heads hash) count)
leads-last heads hashes hash count inside within = record {
  within = last_in_le heads (buckets_of heads hashes) (bucket_under heads hash) count;
  on_chain = last_in-last_in heads (buckets_of heads hashes) (bucket_under heads hash) count;
  same = last_under-in_bucket heads hashes hash count inside within;
}

-- a bucket's head leads to all numbers under a hash of it
pub leads-head : (heads links hashes : List ℕ) (hash : ℕ) → AreLinked heads links (buckets_of (length heads) hashes) → bucket_under (length heads) hash < length heads
    → LeadsOn (length heads) hashes hash (length hashes) (get_or heads (bucket_under (length heads) hash) 0)
leads-head heads links hashes hash linked inside =
    let count : length (buckets_of (length heads) hashes) ≡ length hashes = length-map hashes (bucket_under (length heads)) in
    rw (linked.head (bucket_under (length heads) hash) inside) (rw count (leads-last (length heads) hashes hash (length hashes) inside (omega arith)))

-- a number's link leads to all of them before it
pub leads-link : (heads links hashes : List ℕ) (hash number : ℕ) → AreLinked heads links (buckets_of (length heads) hashes) → bucket_under (length heads) hash < length heads
    → number < length hashes → get_or (buckets_of (length heads) hashes) number 0 % length heads ≡ bucket_under (length heads) hash
    → LeadsOn (length heads) hashes hash number (get_or links number 0)
leads-link heads links hashes hash number linked inside below here =
    let count : length (buckets_of (length heads) hashes) ≡ length hashes = length-map hashes (bucket_under (length heads)) in
    let link : get_or links number 0 ≡ last_in (length heads) (buckets_of (length heads) hashes) (bucket_under (length heads) hash) number =
    linked.link number (omega (arith, count)) ∙ ap (λ (b : ℕ). last_in (length heads) (buckets_of (length heads) hashes) b number) here in
    rw link (leads-last (length heads) hashes hash number inside (omega arith))
