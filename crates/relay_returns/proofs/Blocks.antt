-- Blocks, one after another, and where they stand in a text.
use Rattle.std.proofs.Common.{◌≡◌, ℕ, ◌+◌, ◌<◌, ◌≤◌, List, [], ◌∷◌, ◌++◌, length, take, flat_map, get_or, codes, ap, append_assoc, subst, sym, ◌∙◌, arith}
use Rattle.std.specs.List.{enumerate_from}
use Rattle.std.proofs.lemmas.List.{take_more, take_all, append-nil}
use Rattle.std.proofs.lemmas.List.Concat.{flat_map-append}
use Rattle.std.proofs.lemmas.List.FromFn.{length-enumerate_from, get_or-enumerate_from}
use Rattle.relay_wire.specs.declared.plan.Planned.{Planned}
use Rattle.relay_wire.specs.declared.plan.Plan.{Plan}
use Rattle.relay_wire.specs.PlanText.{line, lines_of, first_line, numbered_texts, text_by}
use Rattle.relay_returns.specs.declared.block.Return.{Return}
use Rattle.relay_returns.specs.Returns.{block_text, numbered_blocks, blocks_text, tail_text, returned_text_by}

one_more : {X : Type 0} (f : X → List ℕ) (xs : List X) (x : X) → flat_map f (xs ++ x ∷ []) ≡ flat_map f xs ++ f x
one_more f xs x = rw flat_map-append (ap (λ l. flat_map f xs ++ l) (append-nil (f x)))

pieces_more : {X : Type 0} (f : X → List ℕ) (xs : List X) (i : ℕ) (d : X) → i < length xs → flat_map f (take (i + 1) xs) ≡ flat_map f (take i xs) ++ f (get_or xs i d)
pieces_more f xs i d h = rw (take_more xs i d h) (one_more f (take i xs) (get_or xs i d))

pub numbered_more : (xs : List Return) (i : ℕ) (d : Return) → i < length xs → numbered_blocks (take (i + 1) (enumerate_from 1 xs)) ≡ numbered_blocks (take i (enumerate_from 1 xs)) ++ block_text (i + 1) (get_or xs i d)
numbered_more xs i d h =
    let within : i < length (enumerate_from 1 xs) = rw (length-enumerate_from 1 xs) h in
    let item : get_or (enumerate_from 1 xs) i (0, d) ≡ (1 + i, get_or xs i d) = get_or-enumerate_from 1 xs i (0, d) h in
    let next : 1 + i ≡ i + 1 = omega arith in
    let front : List ℕ = numbered_blocks (take i (enumerate_from 1 xs)) in
    let all : List ℕ = numbered_blocks (take (i + 1) (enumerate_from 1 xs)) in
    let more : all ≡ front ++ block_text (get_or (enumerate_from 1 xs) i (0, d)).0 (get_or (enumerate_from 1 xs) i (0, d)).1 = pieces_more (λ r. block_text r.0 r.1) (enumerate_from 1 xs) i (0, d) within in
    let here : all ≡ front ++ block_text (1 + i) (get_or xs i d) = subst (λ (p : ℕ × Return). all ≡ front ++ block_text p.0 p.1) item more in
    subst (λ (n : ℕ). all ≡ front ++ block_text n (get_or xs i d)) next here

pub numbered_all : (xs : List Return) (i : ℕ) → length xs ≤ i → take i (enumerate_from 1 xs) ≡ enumerate_from 1 xs
numbered_all xs i h = take_all i (enumerate_from 1 xs) (rw (length-enumerate_from 1 xs) h)

pub numbered_step : (out written new : List ℕ) (xs : List Return) (i : ℕ) (d : Return) → i < length xs → d ≡ get_or xs i d → written ≡ out ++ numbered_blocks (take i (enumerate_from 1 xs)) → new ≡ written ++ block_text (i + 1) d → new ≡ out ++ numbered_blocks (take (i + 1) (enumerate_from 1 xs))
numbered_step out written new xs i d h at before after =
    let front : List ℕ = numbered_blocks (take i (enumerate_from 1 xs)) in
    let more : numbered_blocks (take (i + 1) (enumerate_from 1 xs)) ≡ front ++ block_text (i + 1) (get_or xs i d) = numbered_more xs i d h in
    let same : block_text (i + 1) (get_or xs i d) ≡ block_text (i + 1) d = ap (λ r. block_text (i + 1) r) (sym at) in
    after
    ∙ ap (λ l. l ++ block_text (i + 1) d) before
    ∙ append_assoc out front (block_text (i + 1) d)
    ∙ ap (λ l. out ++ l) (ap (λ l. front ++ l) (sym same) ∙ sym more)

six_parts : (out h f p e rest : List ℕ) → ((((out ++ h) ++ f) ++ p) ++ e) ++ rest ≡ out ++ (h ++ ((f ++ (p ++ e)) ++ rest))
six_parts out h f p e rest = simp append_assoc

-- a block as it is written: the line of its number, `from`, the path, an end, and its lines
pub block_is : (out number path : List ℕ) (lines : List (List ℕ)) → ((((out ++ line (codes "return" ++ (32 ∷ number))) ++ codes "from ") ++ path) ++ 10 ∷ []) ++ lines_of lines ≡ out ++ lines_of ((codes "return" ++ (32 ∷ number)) ∷ (codes "from" ++ (32 ∷ path)) ∷ lines)
block_is out number path lines = six_parts out (line (codes "return" ++ (32 ∷ number))) (codes "from ") path (10 ∷ []) (lines_of lines)

-- ---- blocks in a text
module _ (text : ℕ → Planned → List ℕ) (p : Plan) where
  -- what stands before the blocks
  abbrev pub front_of : List ℕ
  front_of = line (first_line p) ++ numbered_texts text (enumerate_from 1 p.transactions)

  pub parted : text_by text p ≡ front_of ++ tail_text p.findings
  parted = append_assoc front_of (lines_of p.findings) (line (codes "end"))

  pub joined : (returns : List Return) → (front_of ++ blocks_text returns) ++ tail_text p.findings ≡ returned_text_by text p returns
  joined returns = sym (append_assoc (front_of ++ blocks_text returns) (lines_of p.findings) (line (codes "end")))

  pub without : (returns : List Return) → returns ≡ [] → (front_of ++ blocks_text returns) ++ tail_text p.findings ≡ text_by text p
  without returns none = ap (λ rs. (front_of ++ blocks_text rs) ++ tail_text p.findings) none ∙ ap (λ l. l ++ tail_text p.findings) (append-nil front_of) ∙ sym parted
