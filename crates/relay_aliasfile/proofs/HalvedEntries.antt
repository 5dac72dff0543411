-- What the logical lines of a text make that is cut between two of them.
use Rattle.std.proofs.Common.{Result, Ok, Err, IfOk, ◌≡◌, ℕ, ◌+◌, Bool, List, [], ◌∷◌, ◌++◌, length, map, refl, sym, ap, ◌∙◌, append_assoc, Option, Some, None}
use Rattle.std.specs.Result.{result_ok}
use Rattle.std.proofs.lemmas.List.{map-append}
use Rattle.relay_text.specs.Lines.{raw_lines, logical_lines_of}
use Rattle.relay_text.specs.declared.lines.Line.{Line}
use Rattle.relay_halves.specs.Halves.{EndsWithLine, BeginsLogicalLine, moved, lines_behind}
use Rattle.relay_halves.proofs.HalvedLines.{moved_twice}
use Rattle.relay_halves.proofs.HalvedLogicalLines.{no_orphans, lines-halved, orphans-halved}
use Rattle.relay_aliasfile.specs.AliasFiles.{Heading, heading_of, orphan_fault}
use Rattle.relay_aliasfile.specs.AliasTables.{new_entries, new_faults, next_repeat, repeats_behind, added_by, file_behind, IsBoth}
use Rattle.relay_aliasfile.specs.declared.aliases.AliasFile.{AliasFile}
use Rattle.relay_aliasfile.specs.declared.entry.Entry.{Entry}
use Rattle.relay_aliasfile.specs.declared.fault.LineFault.{LineFault}

-- ---- what they make, as if no name came again
none_behind : (o : Option Heading) → repeats_behind o [] ≡ []
none_behind None = refl
none_behind (Some h) = refl

module _ {Y : Type 0} (new : Bool → ℕ → Option Heading → List Y) where
  added-append : (xs ys : List Line) → added_by new [] (xs ++ ys) ≡ added_by new [] xs ++ added_by new [] ys
  added-append [] ys = refl
  added-append (x ∷ xs) ys =
      let here : List Y = new (next_repeat []) x.number (heading_of x.text) in
      ap (λ (repeats : List Bool). here ++ added_by new repeats (xs ++ ys)) (none_behind (heading_of x.text))
      ∙ ap (λ (more : List Y). here ++ more) (added-append xs ys)
      ∙ sym (append_assoc here (added_by new [] xs) (added_by new [] ys))
      ∙ ap (λ (repeats : List Bool). (here ++ added_by new repeats xs) ++ added_by new [] ys) (sym (none_behind (heading_of x.text)))

  -- of both parts, each behind the lines before it
  added-halved : (passed behind : ℕ) (front back : List ℕ) → EndsWithLine front → BeginsLogicalLine back → passed + length (raw_lines front) ≡ behind
      → added_by new [] (lines_behind passed (front ++ back)).lines ≡ added_by new [] (lines_behind passed front).lines ++ added_by new [] (lines_behind behind back).lines
  added-halved passed behind front back ended begun e =
      let count : ℕ = length (raw_lines front) in
      ap (λ lines. added_by new [] (map (moved passed) lines)) (lines-halved front back ended begun)
      ∙ ap (added_by new []) (map-append (moved passed) (logical_lines_of front).lines (map (moved count) (logical_lines_of back).lines) ∙ ap (λ (lines : List Line). (lines_behind passed front).lines ++ lines) (moved_twice passed count behind (logical_lines_of back).lines e))
      ∙ added-append (lines_behind passed front).lines (lines_behind behind back).lines

abbrev made : List Entry → List LineFault → AliasFile
made entries faults = record { entries = entries; faults = faults }

pub file_halves : (passed behind : ℕ) (text front back : List ℕ) (first second : AliasFile) → text ≡ front ++ back → EndsWithLine front → BeginsLogicalLine back → behind ≡ passed + length (raw_lines front)
    → first ≡ file_behind passed [] front → second ≡ file_behind behind [] back
    → record { entries = first.entries ++ second.entries; faults = first.faults ++ second.faults } ≡ file_behind passed [] text
file_halves passed behind text front back first second cut ended begun e one two =
    let orphans_of : List ℕ → List LineFault = λ numbers. map orphan_fault (map (λ n. passed + n) numbers) in
    let entries : first.entries ++ second.entries ≡ (file_behind passed [] text).entries =
    ap (λ (f : AliasFile). f.entries ++ second.entries) one ∙ ap (λ (f : AliasFile). (file_behind passed [] front).entries ++ f.entries) two
    ∙ sym (added-halved new_entries passed behind front back ended begun (sym e))
    ∙ ap (λ (t : List ℕ). (file_behind passed [] t).entries) (sym cut) in
    let alone : (file_behind behind [] back).faults ≡ added_by new_faults [] (lines_behind behind back).lines =
    ap (λ (numbers : List ℕ). map orphan_fault (map (λ n. behind + n) numbers) ++ added_by new_faults [] (lines_behind behind back).lines) (no_orphans front back ended begun) in
    let faults : first.faults ++ second.faults ≡ (file_behind passed [] text).faults =
    ap (λ (f : AliasFile). f.faults ++ second.faults) one ∙ ap (λ (f : AliasFile). (file_behind passed [] front).faults ++ f.faults) two
    ∙ ap (λ (more : List LineFault). (file_behind passed [] front).faults ++ more) alone
    ∙ append_assoc (orphans_of (logical_lines_of front).orphans) (added_by new_faults [] (lines_behind passed front).lines) (added_by new_faults [] (lines_behind behind back).lines)
    ∙ ap (λ (more : List LineFault). orphans_of (logical_lines_of front).orphans ++ more) (sym (added-halved new_faults passed behind front back ended begun (sym e)))
    ∙ ap (λ (numbers : List ℕ). orphans_of numbers ++ added_by new_faults [] (lines_behind passed (front ++ back)).lines) (sym (orphans-halved front back ended begun))
    ∙ ap (λ (t : List ℕ). (file_behind passed [] t).faults) (sym cut) in
    ap (λ entries. made entries (first.faults ++ second.faults)) entries ∙ ap (made (file_behind passed [] text).entries) faults

-- the same where the files were read by two threads
pub file_both : {E : Type 0} (passed behind : ℕ) (text front back : List ℕ) (here there : Result AliasFile E) (file : AliasFile) → text ≡ front ++ back → EndsWithLine front → BeginsLogicalLine back → behind ≡ passed + length (raw_lines front)
    → IfOk here (λ file. file ≡ file_behind passed [] front) → IfOk there (λ file. file ≡ file_behind behind [] back) → IsBoth (result_ok here) (result_ok there) file → file ≡ file_behind passed [] text
file_both passed behind text front back (Err e) there file cut ended begun long one two h = absurd h
file_both passed behind text front back (Ok first) (Err e) file cut ended begun long one two h = absurd h
file_both passed behind text front back (Ok first) (Ok second) file cut ended begun long one two h = h ∙ file_halves passed behind text front back first second cut ended begun long one two
