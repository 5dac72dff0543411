-- Findings that are marked as told.
use Rattle.std.proofs.Common.{◌≡◌, ℕ, ◌<◌, true, false, List, [], ◌∷◌, ◌++◌, length, map, get_or, set, Option, Some, All, inl, inr, sym, ap, subst, ◌∙◌, arith}
use Rattle.std.specs.List.{Contains}
use Rattle.std.proofs.lemmas.Bool.{cases_eq}
use Rattle.std.proofs.lemmas.List.{map-append, length-set, get_or-set_same, get_or-set_other}
use Rattle.std.proofs.lemmas.List.Elements.{All-push, Contains-push, Contains-append_left}
use Rattle.aliasplan_lint.specs.declared.lint.Lint.{Lint}
use Rattle.aliasplan_lint.specs.declared.whole.Whole.{Whole}
use Rattle.aliasplan_lint.specs.Lints.{IsOfFinding, finding_in, AreWhole}
use Rattle.aliasplan_lint.specs.Marks.{AreMarked, Covers, Marks}

module _ (findings : List (List ℕ)) (place : ℕ) (old new : Whole) (m : AreMarked findings old) (s : Marks findings place old new) where
  abbrev before : List (Option ℕ)
  before = map finding_in old.lints.items

  named : map finding_in new.lints.items ≡ before ++ s.lint.finding ∷ []
  named = ap (map finding_in) s.added ∙ map-append finding_in old.lints.items (s.lint ∷ [])

  mark : (k : ℕ) → get_or new.told.items k false ≡ get_or (set old.told.items place true) k false
  mark k = ap (λ l. get_or l k false) s.marked

  has : (k : ℕ) → get_or new.told.items k false ≡ true → Contains (before ++ s.lint.finding ∷ []) (Some k)
  has k h =
      elim (cases_eq k place) [
        | inl same ↦ subst (Contains (before ++ s.lint.finding ∷ [])) (s.is ∙ ap Some (sym same)) (Contains-push before s.lint.finding)
        | inr other ↦ Contains-append_left before (s.lint.finding ∷ []) (Some k) (m.told k (sym (get_or-set_other old.told.items place k true false other) ∙ sym (mark k) ∙ h))
      ]

  pub marks_more : AreMarked findings new
  marks_more = record {
    long = ap length s.marked ∙ length-set old.told.items place true ∙ m.long;
    told = λ k h. subst (λ (fs : List (Option ℕ)). Contains fs (Some k)) (sym named) (has k h);
    alone = subst (All (IsOfFinding findings)) (sym s.added) (All-push (IsOfFinding findings) old.lints.items s.lint m.alone s.of);
  }

  pub covers : place < length findings → Covers findings place old new
  covers inside =
      let within : place < length old.told.items = omega (arith, inside, m.long) in record {
        marked = marks_more;
        here = mark place ∙ get_or-set_same old.told.items place true false within;
        kept = λ k h.
            elim (cases_eq k place) [
              | inl same ↦ subst (λ (j : ℕ). get_or new.told.items j false ≡ true) (sym same) (mark place ∙ get_or-set_same old.told.items place true false within)
              | inr other ↦ mark k ∙ get_or-set_other old.told.items place k true false other ∙ h
            ];
      }

-- what was told is
pub covered : (findings : List (List ℕ)) (place : ℕ) (whole : Whole) → AreMarked findings whole → get_or whole.told.items place false ≡ true → Covers findings place whole whole
covered findings place whole m h = record { marked = m; here = h; kept = λ k told. told }

pub all_told : (findings : List (List ℕ)) (whole : Whole) → AreMarked findings whole → ((k : ℕ) → k < length findings → get_or whole.told.items k false ≡ true) → AreWhole findings whole.lints.items
all_told findings whole m h = record { all = λ k inside. m.told k (h k inside); alone = m.alone }
