-- Files that are joined.
use Rattle.std.proofs.Common.{◌≡◌, ℕ, ◌+◌, ◌<◌, suc, Bool, true, false, cond, List, [], ◌∷◌, ◌++◌, length, get_or, drop, sym, ap, subst, ◌∙◌, append_assoc, arith, drop-cons}
use Rattle.std.specs.List.{flat_map}
use Rattle.relay_text.specs.Lines.{raw_lines}
use Rattle.relay_gather.specs.Source.{Answer, unknown, absent, failed, file}
use Rattle.relay_gather.specs.Fetching.{IsNoFile}
use Rattle.relay_gather.specs.Sections.{with_end}
use Rattle.relay_gather.specs.JoinedFiles.{is_beginning, apart_line, apart_lines, apart, behind, joined_files}
use Rattle.relay_gather.proofs.Lines.{lines_whole}

-- where one of the files can't be had, there is no file
module _ (answer : List ℕ → Answer) where
  pub no_file_later : (a : Answer) (paths : List (List ℕ)) → IsNoFile a → IsNoFile (joined_files answer a paths)
  no_file_later absent [] h = tt
  no_file_later absent (p ∷ ps) h = no_file_later absent ps tt
  no_file_later failed [] h = tt
  no_file_later failed (p ∷ ps) h = no_file_later failed ps tt
  no_file_later (file text) paths h = absurd h
  no_file_later unknown paths h = absurd h

  no_file_behind : (text : List ℕ) (a : Answer) (paths : List (List ℕ)) → IsNoFile a → IsNoFile (joined_files answer (behind (file text) a) paths)
  no_file_behind text absent paths h = no_file_later absent paths tt
  no_file_behind text failed paths h = no_file_later failed paths tt
  no_file_behind text (file more) paths h = absurd h
  no_file_behind text unknown paths h = absurd h

  -- the files that are left, of which one more is joined
  joined_more : (first : Answer) (later : List (List ℕ)) (place : ℕ) (path : List ℕ) → place < length later → path ≡ get_or later place path
      → joined_files answer first (drop place later) ≡ joined_files answer (behind first (answer path)) (drop (place + 1) later)
  joined_more first later place path inside is =
      ap (joined_files answer first) (drop-cons later place path inside)
      ∙ ap (λ (p : List ℕ). joined_files answer (behind first (answer p)) (drop (suc place) later)) (sym is)
      ∙ ap (λ (k : ℕ). joined_files answer (behind first (answer path)) (drop k later)) (let e : suc place ≡ place + 1 = omega arith in e)

  pub no_file_next : (text : List ℕ) (later : List (List ℕ)) (place : ℕ) (path : List ℕ) (whole : Answer) → place < length later → path ≡ get_or later place path
      → joined_files answer (file text) (drop place later) ≡ whole → IsNoFile (answer path) → IsNoFile whole
  no_file_next text later place path whole inside is h none =
      subst IsNoFile (sym (joined_more (file text) later place path inside is) ∙ h) (no_file_behind text (answer path) (drop (place + 1) later) none)

  pub file_next : (text next new : List ℕ) (later : List (List ℕ)) (place : ℕ) (path : List ℕ) (whole : Answer) → place < length later → path ≡ get_or later place path
      → joined_files answer (file text) (drop place later) ≡ whole → answer path ≡ file next → new ≡ with_end text ++ apart next → joined_files answer (file new) (drop (place + 1) later) ≡ whole
  file_next text next new later place path whole inside is h told put =
      ap (λ t. joined_files answer (file t) (drop (place + 1) later)) put ∙ ap (λ a. joined_files answer (behind (file text) a) (drop (place + 1) later)) (sym told)
      ∙ sym (joined_more (file text) later place path inside is) ∙ h

-- the end of one file and then the lines of the next
pub both_put : (text next ended lines new : List ℕ) → ended ≡ with_end text → lines ≡ next → new ≡ ended ++ apart lines → new ≡ with_end text ++ apart next
both_put text next ended lines new e f h = h ∙ ap (λ t. t ++ apart lines) e ∙ ap (λ t. with_end text ++ apart t) f

-- ---- the lines of a later file
apart_beginning : (line : List ℕ) (raws : List (List ℕ)) → is_beginning line ≡ true → apart_lines (line ∷ raws) ≡ line ∷ raws
apart_beginning line raws e = ap (λ (b : Bool). cond b (line ∷ raws) (apart_line line ∷ apart_lines raws)) e

apart_other : (line : List ℕ) (raws : List (List ℕ)) → is_beginning line ≡ false → apart_lines (line ∷ raws) ≡ apart_line line ∷ apart_lines raws
apart_other line raws e = ap (λ (b : Bool). cond b (line ∷ raws) (apart_line line ∷ apart_lines raws)) e

-- from the first that begins a logical line they stand as they are
pub apart-rest : (rest line after : List ℕ) → raw_lines rest ≡ line ∷ raw_lines after → is_beginning line ≡ true → apart rest ≡ rest
apart-rest rest line after cut e =
    ap (λ ls. flat_map (λ l. l) (apart_lines ls)) cut ∙ ap (flat_map (λ l. l)) (apart_beginning line (raw_lines after) e)
    ∙ ap (flat_map (λ l. l)) (sym cut) ∙ lines_whole rest

pub apart-line : (rest line after : List ℕ) → raw_lines rest ≡ line ∷ raw_lines after → is_beginning line ≡ false → apart rest ≡ apart_line line ++ apart after
apart-line rest line after cut e = ap (λ ls. flat_map (λ l. l) (apart_lines ls)) cut ∙ ap (flat_map (λ l. l)) (apart_other line (raw_lines after) e)

-- a line that is put, and those that are left
pub apart-more : (text rest line after next whole : List ℕ) → raw_lines rest ≡ line ∷ raw_lines after → is_beginning line ≡ false → next ≡ text ++ apart_line line → text ++ apart rest ≡ whole → next ++ apart after ≡ whole
apart-more text rest line after next whole cut e is h =
    ap (λ t. t ++ apart after) is ∙ append_assoc text (apart_line line) (apart after) ∙ ap (λ t. text ++ t) (sym (apart-line rest line after cut e)) ∙ h
