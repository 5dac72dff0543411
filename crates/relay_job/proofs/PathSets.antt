-- What a set of paths has, after an insert.
use Rattle.std.proofs.Common.{◌≡◌, ℕ, Bool, true, false, ◌||◌, List, [], ◌∷◌, refl, sym, ap, ◌∙◌}
use Rattle.std.specs.List.{list_any}
use Rattle.std.specs.Str.{bytes_eq}
use Rattle.std.specs.declared.cmp.Ordering.{Ordering}
use Rattle.std.specs.declared.cmp.Ordering.TheVariants.{Less, Equal, Greater}
use Rattle.std.specs.Ordering.{nat_cmp, match_ordering, ordering_then, is_eq}
use Rattle.std.specs.Cmp.Lexicographic.{slice_cmp}
use Rattle.std.specs.BTreeSet.{insert_key}
use Rattle.std.proofs.lemmas.Bool.{true≢false}
use Rattle.std.proofs.lemmas.Map.Lookups.{exact_bytes}
use Rattle.std.proofs.lemmas.Cmp.{nat_cmp_total, nat_list_cmp_total, tied_itself}
use Rattle.std.proofs.lemmas.Slice.Eq.{bytes_eq-Decides}
use Rattle.relay_text.specs.Bytes.{has_text}
use Rattle.relay_chains.specs.TextHash.{fixed_key, text_hash}
use Rattle.relay_job.specs.declared.hashed_path.HashedPath.{HashedPath}
use Rattle.relay_job.specs.PathSets.{paths_of}

abbrev pub hashed_cmp : HashedPath → HashedPath → Ordering
hashed_cmp h g = ordering_then (nat_cmp h.hash g.hash) (slice_cmp nat_cmp h.path.now g.path.now)

-- Paths are tied where their bytes are the same.
same_path : (h g : HashedPath) → hashed_cmp h g ≡ Equal → h.path.now ≡ g.path.now
same_path h g = at (nat_cmp h.hash g.hash) where
  at : (o : Ordering) → ordering_then o (slice_cmp nat_cmp h.path.now g.path.now) ≡ Equal → h.path.now ≡ g.path.now
  at Less e = absurd (let no : ⊥ = cc in no)
  at Equal e = exact_bytes _ _ e
  at Greater e = absurd (let no : ⊥ = cc in no)

tied_paths : (h g : HashedPath) → h.path.now ≡ g.path.now → hashed_cmp h g ≡ Equal
tied_paths h g e =
    let hashes : h.hash ≡ g.hash = h.hash_of_path ∙ ap (text_hash fixed_key) e ∙ sym g.hash_of_path in
    ap (λ n. ordering_then (nat_cmp n g.hash) (slice_cmp nat_cmp h.path.now g.path.now)) hashes
    ∙ ap (λ o. ordering_then o (slice_cmp nat_cmp h.path.now g.path.now)) (tied_itself nat_cmp_total g.hash)
    ∙ ap (λ (t : List ℕ). slice_cmp nat_cmp t g.path.now) e
    ∙ tied_itself nat_list_cmp_total g.path.now

eq_iff_tied : (h g : HashedPath) → is_eq (hashed_cmp h g) ≡ bytes_eq h.path.now g.path.now
eq_iff_tied h g = at (hashed_cmp h g) refl (bytes_eq h.path.now g.path.now) refl where
  at : (o : Ordering) → hashed_cmp h g ≡ o → (t : Bool) → bytes_eq h.path.now g.path.now ≡ t → is_eq o ≡ t
  at Equal e true f = refl
  at Equal e false f = absurd (true≢false (sym ((bytes_eq-Decides h.path.now g.path.now).1 (same_path h g e)) ∙ f))
  at Less e false f = refl
  at Less e true f = let tied = tied_paths h g ((bytes_eq-Decides h.path.now g.path.now).0 f) in absurd (let no : ⊥ = cc in no)
  at Greater e false f = refl
  at Greater e true f = let tied = tied_paths h g ((bytes_eq-Decides h.path.now g.path.now).0 f) in absurd (let no : ⊥ = cc in no)

or_again : (a b : Bool) → (a || b) ≡ (a || (a || b))
or_again true b = refl
or_again false b = refl

or_swap : (a b c : Bool) → (a || (b || c)) ≡ (b || (a || c))
or_swap true true c = refl
or_swap true false c = refl
or_swap false b c = refl

-- a set has the paths that it had, and the new one
pub has_path-insert : (q : List ℕ) (k : HashedPath) (ks : List HashedPath) → has_text (paths_of (insert_key hashed_cmp ks k)) q ≡ (bytes_eq q k.path.now || has_text (paths_of ks) q)
has_path-insert q k [] = refl
has_path-insert q k (x ∷ xs) = at (hashed_cmp k x) refl (has_path-insert q k xs) where
  at : (o : Ordering) → hashed_cmp k x ≡ o → has_text (paths_of (insert_key hashed_cmp xs k)) q ≡ (bytes_eq q k.path.now || has_text (paths_of xs) q)
      → has_text (paths_of (match_ordering o (k ∷ x ∷ xs) (x ∷ xs) (x ∷ insert_key hashed_cmp xs k))) q ≡ (bytes_eq q k.path.now || (bytes_eq q x.path.now || has_text (paths_of xs) q))
  at Less e later = refl
  at Equal e later =
      let same = same_path k x e in
      ap (λ (t : List ℕ). bytes_eq q t || has_text (paths_of xs) q) (sym same)
      ∙ or_again (bytes_eq q k.path.now) (has_text (paths_of xs) q)
      ∙ ap (λ (t : List ℕ). bytes_eq q k.path.now || (bytes_eq q t || has_text (paths_of xs) q)) same
  at Greater e later = ap (λ t. bytes_eq q x.path.now || t) later ∙ or_swap (bytes_eq q x.path.now) (bytes_eq q k.path.now) (has_text (paths_of xs) q)

-- what a look-up by the order answers
pub has_path-found : (k : HashedPath) (ks : List HashedPath) → list_any (λ l. is_eq (hashed_cmp k l)) ks ≡ has_text (paths_of ks) k.path.now
has_path-found k [] = refl
has_path-found k (x ∷ xs) = ap (λ t. t || list_any (λ l. is_eq (hashed_cmp k l)) xs) (eq_iff_tied k x) ∙ ap (λ t. bytes_eq k.path.now x.path.now || t) (has_path-found k xs)
