-- Lemmas on the marks of domains.
use Rattle.std.proofs.Common.{◌≡◌, ℕ, ◌+◌, ◌<◌, Bool, true, false, List, [], ◌∷◌, ◌++◌, length, get_or, set, take, sym, ap, ◌∙◌, refl}
use Rattle.std.specs.List.{list_any}
use Rattle.std.specs.Str.{bytes_eq}
use Rattle.std.proofs.lemmas.Bool.{true≢false, or_from, false_from_ne_true}
use Rattle.std.proofs.lemmas.List.{get_or-set_same, get_or-set_other, take_more}
use Rattle.std.proofs.lemmas.List.Folds.{list_any-append}
use Rattle.std.proofs.lemmas.Slice.Eq.{bytes_eq-Decides}
use Rattle.relay_text.specs.Bytes.{has_text}
use Rattle.relay_tables.specs.declared.local.Local.{Local}
use Rattle.relay_tables.specs.Marks.{domain_mark, AreMarksOf, AreMarks}

-- a domain whose mark is missing once another domain's mark is there: it isn't that domain, and its mark was missing before
still_unmarked : (marks : List Bool) (domain text : List ℕ) → domain_mark domain < length marks → get_or (set marks (domain_mark domain) true) (domain_mark text) false ≡ false
    → (bytes_eq text domain ≡ false) × (get_or marks (domain_mark text) false ≡ false)
still_unmarked marks domain text below unmarked =
    let here : get_or (set marks (domain_mark domain) true) (domain_mark domain) false ≡ true = get_or-set_same marks (domain_mark domain) true false below in
    let apart : domain_mark text ≡ domain_mark domain → ⊥ = λ same. true≢false (sym here ∙ ap (λ (m : ℕ). get_or (set marks (domain_mark domain) true) m false) (sym same) ∙ unmarked) in (
      false_from_ne_true (bytes_eq text domain) (λ e. apart (ap domain_mark ((bytes_eq-Decides text domain).0 e))),
      sym (get_or-set_other marks (domain_mark domain) (domain_mark text) true false apart) ∙ unmarked,
    )

-- one more domain
pub marks_more : (domains : List (List ℕ)) (marks : List Bool) (i : ℕ) (domain : List ℕ) → i < length domains → domain ≡ get_or domains i domain → domain_mark domain < length marks
    → AreMarksOf (take i domains) marks → AreMarksOf (take (i + 1) domains) (set marks (domain_mark domain) true)
marks_more domains marks i domain below is within so_far = λ text unmarked.
    let before = still_unmarked marks domain text within unmarked in
    let other : list_any (bytes_eq text) (domain ∷ []) ≡ false = or_from (bytes_eq text domain) false before.0 refl in
    ap (λ (ds : List (List ℕ)). list_any (bytes_eq text) ds) (take_more domains i domain below ∙ ap (λ (d : List ℕ). take i domains ++ d ∷ []) (sym is))
    ∙ list_any-append (bytes_eq text) (take i domains) (domain ∷ [])
    ∙ or_from (list_any (bytes_eq text) (take i domains)) (list_any (bytes_eq text) (domain ∷ [])) (so_far text before.1) other

-- the origin too
pub marks_all : (local : Local) (marks : List Bool) → domain_mark local.origin < length marks → AreMarksOf local.domains marks → AreMarks local (set marks (domain_mark local.origin) true)
marks_all local marks within all = λ text unmarked.
    let before = still_unmarked marks local.origin text within unmarked in
    or_from (bytes_eq text local.origin) (has_text local.domains text) before.0 (all text before.1)
