-- What a set of texts has, after an insert and in order.
use Rattle.std.proofs.Common.{◌≡◌, ℕ, Bool, true, false, ◌||◌, List, [], ◌∷◌, refl, sym, ap, ◌∙◌, arith}
use Rattle.std.specs.List.{list_any, AllByRecursion}
use Rattle.std.specs.List.Sorted.{IsStrictlySortedBy}
use Rattle.std.specs.Str.{bytes_eq}
use Rattle.std.specs.Prelude.{Vec}
use Rattle.std.specs.declared.cmp.Ordering.{Ordering}
use Rattle.std.specs.declared.cmp.Ordering.TheVariants.{Less, Equal, Greater}
use Rattle.std.specs.Ordering.{nat_cmp, match_ordering, is_eq}
use Rattle.std.specs.Cmp.Lexicographic.{slice_cmp}
use Rattle.std.specs.BTreeSet.{insert_key}
use Rattle.std.proofs.lemmas.Bool.{true≢false}
use Rattle.std.proofs.lemmas.List.Elements.{All-from_recursion}
use Rattle.std.proofs.lemmas.List.Kept.{AllPairs-cons}
use Rattle.std.proofs.lemmas.Map.Lookups.{exact_bytes}
use Rattle.std.proofs.lemmas.Map.Keys.{sorted_head, sorted_tail}
use Rattle.std.proofs.lemmas.Cmp.{nat_list_cmp_total, tied_itself}
use Rattle.std.proofs.lemmas.Slice.Eq.{bytes_eq-Decides}
use Rattle.relay_text.specs.Bytes.{has_text}
use Rattle.relay_text.specs.TextSets.{texts_of, text_cmp, IsAscendingBy}

abbrev pub vec_cmp : {Z : Type 0} → Vec ℕ Z → Vec ℕ Z → Ordering
vec_cmp k l = slice_cmp nat_cmp k.items l.items

or_again : (a b : Bool) → (a || b) ≡ (a || (a || b))
or_again true b = refl
or_again false b = refl

or_swap : (a b c : Bool) → (a || (b || c)) ≡ (b || (a || c))
or_swap true true c = refl
or_swap true false c = refl
or_swap false b c = refl

-- a set has the texts that it had, and the new one
pub has_text-insert : {Z : Type 0} (q : List ℕ) (k : Vec ℕ Z) (ks : List (Vec ℕ Z)) → has_text (texts_of (insert_key vec_cmp ks k)) q ≡ (bytes_eq q k.items || has_text (texts_of ks) q)
has_text-insert q k [] = refl
has_text-insert {Z} q k (x ∷ xs) = at (vec_cmp k x) refl (has_text-insert q k xs) where
  at : (o : Ordering) → vec_cmp k x ≡ o → has_text (texts_of (insert_key vec_cmp xs k)) q ≡ (bytes_eq q k.items || has_text (texts_of xs) q)
      → has_text (texts_of (match_ordering o (k ∷ x ∷ xs) (x ∷ xs) (x ∷ insert_key vec_cmp xs k))) q ≡ (bytes_eq q k.items || (bytes_eq q x.items || has_text (texts_of xs) q))
  at Less e later = refl
  at Equal e later =
      let same : k.items ≡ x.items = exact_bytes _ _ e in
      ap (λ t. bytes_eq q t || has_text (texts_of xs) q) (sym same)
      ∙ or_again (bytes_eq q k.items) (has_text (texts_of xs) q)
      ∙ ap (λ t. bytes_eq q k.items || (bytes_eq q t || has_text (texts_of xs) q)) same
  at Greater e later = ap (λ t. bytes_eq q x.items || t) later ∙ or_swap (bytes_eq q x.items) (bytes_eq q k.items) (has_text (texts_of xs) q)

eq_iff_tied : (a b : List ℕ) → is_eq (slice_cmp nat_cmp a b) ≡ bytes_eq a b
eq_iff_tied a b = at (slice_cmp nat_cmp a b) refl (bytes_eq a b) refl where
  at : (o : Ordering) → slice_cmp nat_cmp a b ≡ o → (t : Bool) → bytes_eq a b ≡ t → is_eq o ≡ t
  at Equal e true h = refl
  at Equal e false h = absurd (true≢false (sym ((bytes_eq-Decides a b).1 (exact_bytes a b e)) ∙ h))
  at Less e false h = refl
  at Less e true h = let tied : slice_cmp nat_cmp a b ≡ Equal = ap (slice_cmp nat_cmp a) (sym ((bytes_eq-Decides a b).0 h)) ∙ tied_itself nat_list_cmp_total a in absurd (let no : ⊥ = cc in no)
  at Greater e false h = refl
  at Greater e true h = let tied : slice_cmp nat_cmp a b ≡ Equal = ap (slice_cmp nat_cmp a) (sym ((bytes_eq-Decides a b).0 h)) ∙ tied_itself nat_list_cmp_total a in absurd (let no : ⊥ = cc in no)

-- what a look-up by the order of bytes answers
pub has_text-found : {Z : Type 0} (q : List ℕ) (ks : List (Vec ℕ Z)) → list_any (λ k. is_eq (slice_cmp nat_cmp q k.items)) ks ≡ has_text (texts_of ks) q
has_text-found q [] = refl
has_text-found q (k ∷ ks) = ap (λ t. t || list_any (λ l. is_eq (slice_cmp nat_cmp q l.items)) ks) (eq_iff_tied q k.items) ∙ ap (λ t. bytes_eq q k.items || t) (has_text-found q ks)

below_texts : {Z : Type 0} (k : Vec ℕ Z) (ks : List (Vec ℕ Z)) → AllByRecursion (λ y. vec_cmp k y ≡ Less) ks → AllByRecursion (λ t. text_cmp k.items t ≡ Less) (texts_of ks)
below_texts k [] h = tt
below_texts k (y ∷ ys) h = (h.0, below_texts k ys h.1)

pub texts_ascend : {Z : Type 0} (ks : List (Vec ℕ Z)) → IsStrictlySortedBy vec_cmp ks → IsAscendingBy text_cmp (texts_of ks)
texts_ascend [] h = λ i j d below inside. absurd (omega arith)
texts_ascend {Z} (k ∷ ks) h =
    AllPairs-cons (λ x y. text_cmp x y ≡ Less) k.items (texts_of ks)
    (All-from_recursion (λ t. text_cmp k.items t ≡ Less) (texts_of ks) (below_texts k ks (sorted_head vec_cmp k ks h)))
    (texts_ascend ks (sorted_tail vec_cmp k ks h))
