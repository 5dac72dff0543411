-- The headings of sections and include files read back as they were written.
use Rattle.std.proofs.Common.{◌≡◌, ℕ, ◌+◌, ◌-◌, Bool, true, false, cond, eqb, ◌&&◌, List, [], ◌∷◌, ◌++◌, length, take, codes, Option, Some, None, refl, sym, ap, subst, ◌∙◌, arith}
use Rattle.std.specs.Prelude.{reverse}
use Rattle.std.specs.List.{list_all, suffix_len, prefix_len}
use Rattle.std.specs.Bool.{Decides}
use Rattle.std.proofs.lemmas.Bool.{and_parts, true≢false}
use Rattle.std.proofs.lemmas.Bool.Decides.{Decides-eqb}
use Rattle.std.proofs.lemmas.List.{take_all, length-reverse, reverse-append}
use Rattle.std.proofs.lemmas.List.Folds.{prefix_len-append}
use Rattle.relay_text.specs.Bytes.{is_white, begins_with, has_text, trimmed_end}
use Rattle.relay_text.specs.Lines.{without_cr}
use Rattle.relay_aliasfile.specs.Items.{is_item_byte}
use Rattle.relay_job.specs.JobText.{named, include, section_words, include_path, is_include_heading, section_of}
use Rattle.relay_job.specs.JobText as texts
use Rattle.relay_gather.proofs.Lines.{HasNoEnd}
use Rattle.relay_gather.proofs.NamedPaths.{is_path, is_bare}
use Rattle.relay_gather.proofs.TextLines.{heads, IsHeading}

pub settings_heading : IsHeading (named (codes "%settings"))
settings_heading = record { plain = (refl, (refl, (refl, (refl, (refl, (refl, (refl, (refl, (refl, tt))))))))); starts = refl; names = refl }

pub aliases_heading : IsHeading (named (codes "%aliases"))
aliases_heading = record { plain = (refl, (refl, (refl, (refl, (refl, (refl, (refl, (refl, tt)))))))); starts = refl; names = refl }

pub mailboxes_heading : IsHeading (named (codes "%mailboxes"))
mailboxes_heading = record { plain = (refl, (refl, (refl, (refl, (refl, (refl, (refl, (refl, (refl, (refl, tt)))))))))); starts = refl; names = refl }

pub transport_heading : IsHeading (named (codes "%transport"))
transport_heading = record { plain = (refl, (refl, (refl, (refl, (refl, (refl, (refl, (refl, (refl, (refl, tt)))))))))); starts = refl; names = refl }

pub mx_heading : IsHeading (named (codes "%mx"))
mx_heading = record { plain = (refl, (refl, (refl, tt))); starts = refl; names = refl }

pub envelope_heading : IsHeading (named (codes "%envelope"))
envelope_heading = record { plain = (refl, (refl, (refl, (refl, (refl, (refl, (refl, (refl, (refl, tt))))))))); starts = refl; names = refl }

-- ---- include files
-- a byte that an item may have is neither LF nor CR
other_byte : (b c : ℕ) → is_item_byte c ≡ false → is_item_byte b ≡ true → eqb b c ≡ false
other_byte b c bad good = at (eqb b c) (Decides-eqb b c) where
  at : (t : Bool) → Decides t (b ≡ c) → t ≡ false
  at true d = absurd (true≢false (sym good ∙ ap is_item_byte (d.0 refl) ∙ bad))
  at false d = refl

no_end : (text : List ℕ) → list_all is_item_byte text ≡ true → HasNoEnd text
no_end [] h = tt
no_end (b ∷ bs) h = let v = and_parts (is_item_byte b) (list_all is_item_byte bs) h in (other_byte b 10 refl v.0, no_end bs v.1)

no_cr : (text : List ℕ) → list_all is_item_byte text ≡ true → without_cr text ≡ text
no_cr [] h = refl
no_cr (b ∷ []) h = let v = and_parts (is_item_byte b) true h in ap (λ (t : Bool). cond t [] (b ∷ [])) (other_byte b 13 refl v.0)
no_cr (b ∷ c ∷ bs) h = let v = and_parts (is_item_byte b) (list_all is_item_byte (c ∷ bs)) h in ap (λ t. b ∷ t) (no_cr (c ∷ bs) v.1)

bare_trimmed : (text : List ℕ) → suffix_len is_white text ≡ 0 → trimmed_end text ≡ text
bare_trimmed text h = ap (λ n. take (length text - n) text) h ∙ take_all (length text - 0) text (omega arith)

bare_append : (front : List ℕ) (b : ℕ) (bs : List ℕ) → suffix_len is_white (b ∷ bs) ≡ 0 → suffix_len is_white (front ++ b ∷ bs) ≡ 0
bare_append front b bs h = ap (prefix_len is_white) (reverse-append front (b ∷ bs)) ∙ prefix_len-append is_white (reverse (b ∷ bs)) (reverse front)
    ∙ at (eqb (prefix_len is_white (reverse (b ∷ bs))) (length (reverse (b ∷ bs)))) (Decides-eqb _ _) where
      at : (t : Bool) → Decides t (prefix_len is_white (reverse (b ∷ bs)) ≡ length (reverse (b ∷ bs)))
          → cond t (length (reverse (b ∷ bs)) + prefix_len is_white (reverse front)) (prefix_len is_white (reverse (b ∷ bs))) ≡ 0
      at true d =
          let long : length (reverse (b ∷ bs)) ≡ length (b ∷ bs) = length-reverse (b ∷ bs) in
          let none : length (reverse (b ∷ bs)) ≡ 0 = sym (d.0 refl) ∙ h in
          absurd (omega (arith, long, none))
      at false d = h

include_names : (more : List ℕ) → suffix_len is_white (47 ∷ more) ≡ 0 → section_of (codes "%include " ++ 47 ∷ more) ≡ Some (include (47 ∷ more))
include_names more bare =
    let path : List ℕ = 47 ∷ more in
    let text : List ℕ = codes "%include " ++ 47 ∷ more in
    ap (λ (t : List ℕ). cond {A = Option texts.Section} (has_text section_words t) (Some (named t)) (cond (is_include_heading text) (Some (include (include_path text))) None)) (bare_trimmed text (bare_append (codes "%include ") 47 more bare))
    ∙ ap (λ (t : List ℕ). cond {A = Option texts.Section} (begins_with (codes "/") t) (Some (include t)) None) (bare_trimmed path bare)

include_by : (path : List ℕ) → list_all is_item_byte path ≡ true → begins_with (codes "/") path ≡ true → suffix_len is_white path ≡ 0 → IsHeading (include path)
include_by [] all starts bare = absurd (true≢false (sym starts))
include_by (b ∷ more) all starts bare =
    subst (λ (c : ℕ). IsHeading (include (c ∷ more))) (sym is)
    (record {
      plain = (refl, (refl, (refl, (refl, (refl, (refl, (refl, (refl, (refl, no_end (47 ∷ more) all')))))))));
      starts = ap heads whole;
      names = ap section_of whole ∙ include_names more (ap (λ c. suffix_len is_white (c ∷ more)) (sym is) ∙ bare);
    }) where
      is : b ≡ 47
      is = (Decides-eqb b 47).0 (and_parts (eqb b 47) true starts).0

      all' : list_all is_item_byte (47 ∷ more) ≡ true
      all' = ap (λ c. list_all is_item_byte (c ∷ more)) (sym is) ∙ all

      whole : without_cr (codes "%include " ++ 47 ∷ more) ≡ codes "%include " ++ 47 ∷ more
      whole = no_cr (codes "%include " ++ 47 ∷ more) all'

pub include_heading : (path : List ℕ) → is_path path ≡ true → IsHeading (include path)
include_heading path h =
    let v = and_parts (list_all is_item_byte path) (begins_with (codes "/") path && is_bare path) h in
    let w = and_parts (begins_with (codes "/") path) (is_bare path) v.1 in
    include_by path v.0 w.0 ((Decides-eqb (suffix_len is_white path) 0).0 w.1)
