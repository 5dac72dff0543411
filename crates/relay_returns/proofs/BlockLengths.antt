-- The lengths of blocks, part by part.
use Rattle.std.proofs.Common.{◌≡◌, ◌<◌, ℕ, ◌+◌, min, List, [], ◌∷◌, ◌++◌, codes, decimal, length, take, get_or, sum_by, refl, sym, ap, ◌∙◌, arith}
use Rattle.std.specs.List.{enumerate_from}
use Rattle.std.proofs.lemmas.List.{length-append}
use Rattle.std.proofs.lemmas.List.Sums.{sum_by-cons}
use Rattle.relay_text.specs.Addresses.{path_text_of}
use Rattle.relay_wire.specs.Findings.{spaced}
use Rattle.relay_wire.specs.PlanText.{line, lines_of}
use Rattle.relay_returns.specs.declared.block.Return.{Return}
use Rattle.relay_returns.specs.Returns.{block_text, numbered_blocks, tail_text}
use Rattle.relay_returns.proofs.Blocks.{numbered_more}

-- Saturated sums: what is cut off once stays cut off.
pub grown : (m total more r s : ℕ) → r ≡ min total m → s ≡ min (r + more) m → s ≡ min (total + more) m
grown m total more r s h k = omega arith

pub grown_by : (m total more r q s : ℕ) → r ≡ min total m → q ≡ min more m → s ≡ min (r + q) m → s ≡ min (total + more) m
grown_by m total more r q s h i k = omega arith

texts_length : (texts : List (List ℕ)) → length (lines_of texts) ≡ sum_by (λ t. 1 + length t) texts
texts_length [] = refl
texts_length (t ∷ more) = omega (arith, sum_by-cons (λ (x : List ℕ). 1 + length x) t more, texts_length more, length-append (line t) (lines_of more), length-append t (10 ∷ []))

heads_length : (number path : List ℕ) (rest : List ℕ) → length (line (spaced (codes "return" ∷ number ∷ [])) ++ (line (spaced (codes "from" ∷ path ∷ [])) ++ rest)) ≡ 14 + length number + length path + length rest
heads_length number path rest = simp length-append (omega arith)

pub block_length : (number : ℕ) (r : Return) → length (block_text number r) ≡ 14 + length (decimal number) + length (path_text_of r.sender) + sum_by (λ t. 1 + length t) r.lines
block_length number r = heads_length (decimal number) (path_text_of r.sender) (lines_of r.lines) ∙ ap (λ n. 14 + length (decimal number) + length (path_text_of r.sender) + n) (texts_length r.lines)

pub sum_three : (m a b c d r s q t : ℕ) → r ≡ min (a + b) m → s ≡ min (r + c) m → q ≡ min d m → t ≡ min (s + q) m → t ≡ min (a + b + c + d) m
sum_three m a b c d r s q t first second part last = grown_by m (a + b + c) d s q t (grown m (a + b) c r s first second) part last

pub blocks_length_step : (xs : List Return) (i : ℕ) (x : Return) (m len more next : ℕ) → i < length xs → x ≡ get_or xs i x
    → len ≡ min (length (numbered_blocks (take i (enumerate_from 1 xs)))) m → more ≡ min (length (block_text (i + 1) x)) m → next ≡ min (len + more) m
    → next ≡ min (length (numbered_blocks (take (i + 1) (enumerate_from 1 xs)))) m
blocks_length_step xs i x m len more next h at before part after =
    let front : List ℕ = numbered_blocks (take i (enumerate_from 1 xs)) in
    let all : numbered_blocks (take (i + 1) (enumerate_from 1 xs)) ≡ front ++ block_text (i + 1) x = numbered_more xs i x h ∙ ap (λ r. front ++ block_text (i + 1) r) (sym at) in
    let sum : length (numbered_blocks (take (i + 1) (enumerate_from 1 xs))) ≡ length front + length (block_text (i + 1) x) = ap length all ∙ length-append front (block_text (i + 1) x) in
    grown_by m (length front) (length (block_text (i + 1) x)) len more next before part after ∙ ap (λ n. min n m) (sym sum)

pub tail_length : (findings : List (List ℕ)) → length (tail_text findings) ≡ sum_by (λ t. 1 + length t) findings + 4
tail_length findings = length-append (lines_of findings) (line (codes "end")) ∙ ap (λ n. n + 4) (texts_length findings)
