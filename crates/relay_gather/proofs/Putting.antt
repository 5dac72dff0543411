-- Pieces put one after another.
use Rattle.std.proofs.Common.{◌≡◌, ℕ, ◌+◌, ◌<◌, List, [], ◌∷◌, ◌++◌, length, sym, ap, ◌∙◌, append_assoc, arith, length-append}
use Rattle.std.specs.List.{flat_map}
use Rattle.std.proofs.lemmas.List.{append-nil}
use Rattle.relay_text.specs.Lines.{raw_lines}
use Rattle.relay_job.specs.declared.fault.RunFault.{RunFault}
use Rattle.relay_job.specs.declared.fault.RunFault.TheVariants.{Read, TooLong, BadJob, BadSetting, BadEnvelope, TooManyNames, TooManyOwners, TooManyPairs, Write, Memory}
use Rattle.relay_gather.specs.declared.gathered.Gathered.{Gathered}
use Rattle.relay_gather.specs.Sections.{section_body}
use Rattle.relay_gather.specs.Gathered.{written_line, Puts, Overflows}
use Rattle.relay_gather.proofs.Lines.{section_body-is}

pub Puts-none : (old : Gathered) → Puts [] old old
Puts-none old = record { bytes = sym (append-nil old.bytes.items); room = omega arith }

pub Puts-more : (a b : List ℕ) (x y z : Gathered) → Puts a x y → Puts b y z → Puts (a ++ b) x z
Puts-more a b x y z h g = record {
  bytes = g.bytes ∙ ap (λ t. t ++ b) h.bytes ∙ append_assoc x.bytes.items a b;
  room = omega (arith, length-append a b, h.room, g.room);
}

-- what has no room behind a piece has none with it
pub Overflows-later : (a b c : List ℕ) (x y : Gathered) (fault : RunFault) → Puts a x y → Overflows b y.room fault → length a + length b < length c + 1 → Overflows c x.room fault
Overflows-later a b c x y TooLong h g few = omega (arith, h.room, g)
Overflows-later a b c x y Memory h g few = tt
Overflows-later a b c x y Read h g few = absurd g
Overflows-later a b c x y (BadJob n) h g few = absurd g
Overflows-later a b c x y (BadSetting n) h g few = absurd g
Overflows-later a b c x y (BadEnvelope n) h g few = absurd g
Overflows-later a b c x y TooManyNames h g few = absurd g
Overflows-later a b c x y TooManyOwners h g few = absurd g
Overflows-later a b c x y TooManyPairs h g few = absurd g
Overflows-later a b c x y Write h g few = absurd g

-- The lines of a file up to some place are put.
pub record HasPut (file rest : List ℕ) (old new : Gathered) : Type 0 where
  pub front : List ℕ
  pub puts : Puts front old new
  pub left : front ++ flat_map written_line (raw_lines rest) ≡ section_body file

pub HasPut-start : (file : List ℕ) (old : Gathered) → HasPut file file old old
HasPut-start file old = record { front = []; puts = Puts-none old; left = sym (section_body-is file) }

pub HasPut-more : (file rest line after : List ℕ) (old mid new : Gathered) → HasPut file rest old mid → raw_lines rest ≡ line ∷ raw_lines after → Puts (written_line line) mid new → HasPut file after old new
HasPut-more file rest line after old mid new h cut p = record {
  front = h.front ++ written_line line;
  puts = Puts-more h.front (written_line line) old mid new h.puts p;
  left = append_assoc h.front (written_line line) (flat_map written_line (raw_lines after)) ∙ ap (λ ls. h.front ++ flat_map written_line ls) (sym cut) ∙ h.left;
}

pub HasPut-stop : (file rest line after : List ℕ) (old mid : Gathered) (fault : RunFault) → HasPut file rest old mid → raw_lines rest ≡ line ∷ raw_lines after → Overflows (written_line line) mid.room fault → Overflows (section_body file) old.room fault
HasPut-stop file rest line after old mid fault h cut g =
    let all : h.front ++ (written_line line ++ flat_map written_line (raw_lines after)) ≡ section_body file = ap (λ ls. h.front ++ flat_map written_line ls) (sym cut) ∙ h.left in
    Overflows-later h.front (written_line line) (section_body file) old mid fault h.puts g
    (let long : length (h.front ++ (written_line line ++ flat_map written_line (raw_lines after))) ≡ length (section_body file) = ap length all in
    omega (arith, long, length-append h.front (written_line line ++ flat_map written_line (raw_lines after)), length-append (written_line line) (flat_map written_line (raw_lines after))))

pub HasPut-end : (file rest : List ℕ) (old new : Gathered) → HasPut file rest old new → rest ≡ [] → Puts (section_body file) old new
HasPut-end file rest old new h none =
    let all : h.front ≡ section_body file = sym (append-nil h.front) ∙ ap (λ r. h.front ++ flat_map written_line (raw_lines r)) (sym none) ∙ h.left in
    record { bytes = h.puts.bytes ∙ ap (λ t. old.bytes.items ++ t) all; room = ap (λ (t : List ℕ). new.room + length t) (sym all) ∙ h.puts.room }
