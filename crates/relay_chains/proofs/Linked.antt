-- Lemmas on buckets whose chains are linked by number.
use Rattle.std.proofs.Common.{◌≡◌, ℕ, zero, suc, ◌+◌, ◌%◌, ◌<◌, ◌≤◌, List, [], ◌∷◌, ◌++◌, length, get_or, set, replicate, sym, refl, ap, ◌∙◌, subst, ⊎_elim, arith, eq-eqb, length-set, get_or-set_same, get_or-set_other}
use Rattle.std.proofs.lemmas.Bool.{cond-true, cond-false, ne_eqb, cases_eq, cases_order}
use Rattle.std.proofs.lemmas.List.{get_or_append_left, get_or-replicate, get_or_push, length-replicate, length_push}
use Rattle.relay_chains.specs.Buckets.{last_in, AreLinked}

-- the last node considered is the last of its own bucket
pub last_in-here : (buckets : ℕ) (tags : List ℕ) (bucket number : ℕ) → get_or tags number 0 % buckets ≡ bucket
    → last_in buckets tags bucket (suc number) ≡ suc number
unfolding last_in
last_in-here buckets tags bucket number e = cond-true _ _ _ (eq-eqb _ _ e)

pub last_in-else : (buckets : ℕ) (tags : List ℕ) (bucket number : ℕ) → (get_or tags number 0 % buckets ≡ bucket → ⊥)
    → last_in buckets tags bucket (suc number) ≡ last_in buckets tags bucket number
unfolding last_in
last_in-else buckets tags bucket number e = cond-false _ _ _ (ne_eqb _ _ e)

pub last_in-none : (buckets : ℕ) (tags : List ℕ) (bucket : ℕ) → last_in buckets tags bucket 0 ≡ 0
unfolding last_in
last_in-none buckets tags bucket = refl

pub last_in_le : (buckets : ℕ) (tags : List ℕ) (bucket count : ℕ) → last_in buckets tags bucket count ≤ count
last_in_le buckets tags bucket zero = omega (arith, last_in-none buckets tags bucket)
last_in_le buckets tags bucket (suc n) =
    ⊎_elim (λ e. omega (arith, last_in-here buckets tags bucket n e)) (λ e. omega (arith, last_in-else buckets tags bucket n e, last_in_le buckets tags bucket n))
    (cases_eq (get_or tags n 0 % buckets) bucket)

-- what is named is the last of its bucket up to itself
pub last_in-last_in : (buckets : ℕ) (tags : List ℕ) (bucket count : ℕ)
    → last_in buckets tags bucket (last_in buckets tags bucket count) ≡ last_in buckets tags bucket count
last_in-last_in buckets tags bucket zero = ap (last_in buckets tags bucket) (last_in-none buckets tags bucket)
last_in-last_in buckets tags bucket (suc n) =
    ⊎_elim (λ e. ap (last_in buckets tags bucket) (last_in-here buckets tags bucket n e)) (λ e. let s = last_in-else buckets tags bucket n e in ap (last_in buckets tags bucket) s ∙ last_in-last_in buckets tags bucket n ∙ sym s)
    (cases_eq (get_or tags n 0 % buckets) bucket)

-- a node that is the last up to itself lies in the bucket
pub bucket_of_last : (buckets : ℕ) (tags : List ℕ) (bucket number : ℕ) → last_in buckets tags bucket (suc number) ≡ suc number
    → get_or tags number 0 % buckets ≡ bucket
bucket_of_last buckets tags bucket n last =
    ⊎_elim (λ e. e) (λ e. absurd (omega (arith, last_in-else buckets tags bucket n e, last_in_le buckets tags bucket n)))
    (cases_eq (get_or tags n 0 % buckets) bucket)

-- the nodes after the last one of a bucket lie elsewhere
pub after_last : (buckets : ℕ) (tags : List ℕ) (bucket count : ℕ) (k : ℕ) → last_in buckets tags bucket count ≤ k → k < count
    → get_or tags k 0 % buckets ≡ bucket → ⊥
after_last buckets tags bucket zero k from below = absurd (omega arith)
after_last buckets tags bucket (suc n) k from below =
    ⊎_elim (λ e. absurd (omega (arith, last_in-here buckets tags bucket n e)))
    (λ e. let s = last_in-else buckets tags bucket n e in
    ⊎_elim (λ same. subst (λ (i : ℕ). get_or tags i 0 % buckets ≡ bucket → ⊥) (sym same) e) (λ other. after_last buckets tags bucket n k (omega arith) (omega arith)) (cases_eq k n))
    (cases_eq (get_or tags n 0 % buckets) bucket)

-- a new tag changes nothing of the nodes before it
pub last_in_push : (buckets : ℕ) (tags : List ℕ) (tag bucket count : ℕ) → count ≤ length tags
    → last_in buckets (tags ++ tag ∷ []) bucket count ≡ last_in buckets tags bucket count
last_in_push buckets tags tag bucket zero l = last_in-none buckets (tags ++ tag ∷ []) bucket ∙ sym (last_in-none buckets tags bucket)
last_in_push buckets tags tag bucket (suc n) l =
    let below : n < length tags = omega arith in
    let same : get_or (tags ++ tag ∷ []) n 0 ≡ get_or tags n 0 = get_or_append_left tags (tag ∷ []) 0 n below in
    ⊎_elim (λ e. last_in-here buckets (tags ++ tag ∷ []) bucket n (rw same e) ∙ sym (last_in-here buckets tags bucket n e))
    (λ e. last_in-else buckets (tags ++ tag ∷ []) bucket n (rw same e) ∙ last_in_push buckets tags tag bucket n (omega arith) ∙ sym (last_in-else buckets tags bucket n e))
    (cases_eq (get_or tags n 0 % buckets) bucket)

-- with no node, no bucket has one
pub linked-none : (buckets : ℕ) → 0 < buckets → AreLinked (replicate buckets 0) [] []
linked-none buckets some = record {
  some_bucket = rw length-replicate some;
  one_each = refl;
  head = λ bucket below. get_or-replicate buckets bucket 0 0 (rw length-replicate at below) ∙ sym (last_in-none _ _ _);
  link = λ number below. absurd (omega arith);
}

-- a new node goes to the front of its bucket's chain
pub linked-push : (heads links tags : List ℕ) (tag bucket : ℕ) → bucket ≡ tag % length heads → bucket < length heads
    → AreLinked heads links tags
    → AreLinked (set heads bucket (length tags + 1)) (links ++ get_or heads bucket 0 ∷ []) (tags ++ tag ∷ [])
linked-push heads links tags tag bucket is below linked =
    let n = length tags in
    let more : length (tags ++ tag ∷ []) ≡ suc n = omega (arith, length_push tags tag) in
    let here : get_or (tags ++ tag ∷ []) n 0 ≡ tag = get_or_push tags tag 0 n refl in
    let lies : get_or (tags ++ tag ∷ []) n 0 % length heads ≡ bucket = ap (λ (t : ℕ). t % length heads) here ∙ sym is in
    let size : length (set heads bucket (n + 1)) ≡ length heads = length-set heads bucket (n + 1) in
    record {
      some_bucket = omega (arith, linked.some_bucket);
      one_each = omega (arith, length_push links (get_or heads bucket 0), linked.one_each);
      head = λ b b_below. rw (size, more) (⊎_elim
          (λ e. let read : get_or (set heads bucket (n + 1)) b 0 ≡ n + 1 = ap (λ (i : ℕ). get_or (set heads bucket (n + 1)) i 0) e ∙ get_or-set_same heads bucket (n + 1) 0 below in
          omega (arith, read, last_in-here (length heads) (tags ++ tag ∷ []) b n (lies ∙ sym e)))
          (λ e. get_or-set_other heads bucket b (n + 1) 0 e ∙ linked.head b (omega arith)
          ∙ sym (last_in-else (length heads) (tags ++ tag ∷ []) b n (λ same. e (sym same ∙ lies)) ∙ last_in_push (length heads) tags tag b n (omega arith)))
          (cases_eq b bucket));
      link = λ k k_below. rw size (⊎_elim
          (λ e. let in_bucket : get_or (tags ++ tag ∷ []) k 0 % length heads ≡ bucket = ap (λ (i : ℕ). get_or (tags ++ tag ∷ []) i 0 % length heads) e ∙ lies in
          get_or_push links (get_or heads bucket 0) 0 k (linked.one_each ∙ sym e) ∙ linked.head bucket below ∙ sym (last_in_push (length heads) tags tag bucket n (omega arith))
          ∙ ap (last_in (length heads) (tags ++ tag ∷ []) bucket) (sym e) ∙ ap (λ (b : ℕ). last_in (length heads) (tags ++ tag ∷ []) b k) (sym in_bucket))
          (λ e. let old : k < length tags = omega arith in
          let same : get_or (tags ++ tag ∷ []) k 0 ≡ get_or tags k 0 = get_or_append_left tags (tag ∷ []) 0 k old in
          get_or_append_left links (get_or heads bucket 0 ∷ []) 0 k (omega (arith, linked.one_each)) ∙ linked.link k old ∙ sym (last_in_push (length heads) tags tag (get_or tags k 0 % length heads) k (omega arith))
          ∙ ap (λ (t : ℕ). last_in (length heads) (tags ++ tag ∷ []) (t % length heads) k) (sym same))
          (cases_eq k n));
    }

-- A walk has come to a word of the bucket's chain, and no node from there on is the one that is sought.
pub record IsPassed (buckets : ℕ) (tags : List ℕ) (bucket : ℕ) (Other : ℕ → Type 0) (word : ℕ) : Type 0 where
  pub within : word ≤ length tags
  pub on_chain : last_in buckets tags bucket word ≡ word
  pub passed : (k : ℕ) → word ≤ k → k < length tags → Other k

pub passed-none : (heads links tags : List ℕ) (bucket : ℕ) (Other : ℕ → Type 0) → AreLinked heads links tags
    → ((k : ℕ) → k < length tags → (get_or tags k 0 % length heads ≡ bucket → ⊥) → Other k) → bucket < length heads
    → IsPassed (length heads) tags bucket Other (get_or heads bucket 0)
passed-none heads links tags bucket Other linked elsewhere below =
    rw (linked.head bucket below) (record {
      within = last_in_le (length heads) tags bucket (length tags);
      on_chain = last_in-last_in (length heads) tags bucket (length tags);
      passed = λ k from to. elsewhere k to (after_last (length heads) tags bucket (length tags) k from to);
    })

pub passed-more : (heads links tags : List ℕ) (bucket : ℕ) (Other : ℕ → Type 0) → AreLinked heads links tags
    → ((k : ℕ) → k < length tags → (get_or tags k 0 % length heads ≡ bucket → ⊥) → Other k) → bucket < length heads
    → (number : ℕ) → IsPassed (length heads) tags bucket Other (suc number) → Other number
    → IsPassed (length heads) tags bucket Other (get_or links number 0)
passed-more heads links tags bucket Other linked elsewhere below number before other =
    let here : get_or tags number 0 % length heads ≡ bucket = bucket_of_last _ _ _ _ before.on_chain in
    let link : get_or links number 0 ≡ last_in (length heads) tags bucket number =
    linked.link number before.within ∙ ap (λ (b : ℕ). last_in (length heads) tags b number) here in
    rw link (record {
      within = omega (arith, before.within, last_in_le (length heads) tags bucket number);
      on_chain = last_in-last_in (length heads) tags bucket number;
      passed = λ k from to. ⊎_elim
          (λ same. subst Other (sym same) other)
          (λ order. ⊎_elim (λ lower. elsewhere k to (after_last (length heads) tags bucket number k from lower)) (λ higher. before.passed k (omega arith) to) order)
          (cases_order k number);
    })

-- links lead down
pub link_le : (heads links tags : List ℕ) → AreLinked heads links tags → (number : ℕ) → number < length tags → get_or links number 0 ≤ number
link_le heads links tags linked number below =
    omega (arith, linked.link number below, last_in_le (length heads) tags (get_or tags number 0 % length heads) number)
