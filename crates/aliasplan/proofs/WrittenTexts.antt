-- Texts that are written one behind the other.
use Rattle.std.proofs.Common.{◌≡◌, ℕ, ◌+◌, ◌<◌, List, ◌++◌, [], ◌∷◌, Option, Result, Ok, Err, OnErr, min, length, get_or, take, drop, append-nil, sym, ap, subst, ◌∙◌, arith}
use Rattle.std.specs.List.{concat}
use Rattle.std.specs.Io.KnownBytes.{Appends}
use Rattle.std.proofs.Math.Seq.{take-append-add}
use Rattle.std.proofs.lemmas.List.{take_more, drop_more, take-append-drop, take-append-le, take_min}
use Rattle.std.proofs.lemmas.List.Folds.{concat-append}
use Rattle.aliasplan.specs.Transfers.{Fronts}
use Rattle.aliasplan.proofs.Bytes.{appends_more}

pub at_err : {T E P : Type 0} (r : Result T E) → P → OnErr r P
at_err (Ok x) p = tt
at_err (Err e) p = p

module _ (ts : List (List ℕ)) (i : ℕ) (d : List ℕ) (inside : i < length ts) (is : d ≡ get_or ts i d) (a b c : Option (List ℕ)) (before : Appends a b (concat (take i ts))) where
  abbrev front : List ℕ
  front = concat (take i ts)

  one_more : concat (take (i + 1) ts) ≡ front ++ d
  one_more =
      ap concat (take_more ts i d inside)
      ∙ concat-append (take i ts) (get_or ts i d ∷ [])
      ∙ ap (λ (l : List ℕ). front ++ l) (append-nil (get_or ts i d) ∙ sym is)

  -- the next text is written
  pub texts_more : Appends b c d → Appends a c (concat (take (i + 1) ts))
  texts_more next = subst (λ (bs : List ℕ). Appends a c bs) (sym one_more) (appends_more a b c front d before next)

  parted : concat ts ≡ front ++ (d ++ concat (drop (i + 1) ts))
  parted =
      ap concat (sym (take-append-drop i ts))
      ∙ concat-append (take i ts) (drop i ts)
      ∙ ap (λ (l : List (List ℕ)). front ++ concat l) (drop_more ts i d inside)
      ∙ ap (λ (l : List ℕ). front ++ (l ++ concat (drop (i + 1) ts))) (sym is)

  -- a front of the next text is written
  pub front_more : Fronts b c d → Fronts a c (concat ts)
  front_more f =
      let k : ℕ = min f.count (length d) in
      let same : take (length front + k) (concat ts) ≡ front ++ take f.count d =
      ap (take (length front + k)) parted
      ∙ take-append-add front (d ++ concat (drop (i + 1) ts)) k
      ∙ ap (λ (l : List ℕ). front ++ l) (take-append-le k d (concat (drop (i + 1) ts)) (omega arith) ∙ take_min f.count d) in
      record {
        count = length front + k;
        written = subst (λ (bs : List ℕ). Appends a c bs) (sym same) (appends_more a b c front (take f.count d) before f.written);
      }
