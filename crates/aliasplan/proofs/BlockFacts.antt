-- The blocks of senders, from their lines.
use Rattle.std.proofs.Common.{◌≡◌, ◌≢◌, ◌⊎◌, ℕ, zero, suc, ◌+◌, ◌<◌, List, [], ◌∷◌, ◌++◌, length, get_or, take, refl, sym, ap, ◌∙◌, subst, inl, inr, arith, append_assoc}
use Rattle.std.specs.Prelude.{All, AllPairs, Contains, Some, slice_get}
use Rattle.std.proofs.lemmas.Bool.{cases_lt}
use Rattle.std.proofs.lemmas.List.{append-nil, take_more, get_or_past, length-take}
use Rattle.std.proofs.lemmas.List.Elements.{Contains-get_or}
use Rattle.std.proofs.lemmas.List.Kept.{AllPairs-cons}
use Rattle.std.proofs.lemmas.Option.{same_Some, get_or_from_slice_get, slice_get_within}
use Rattle.relay_text.specs.TextSets.{text_cmp, IsAscendingBy}
use Rattle.relay_tables.specs.Senders.{Sender}
use Rattle.relay_returns.specs.declared.block.Return.{Return}
use Rattle.aliasplan.specs.ReturnLines.{block_of, blocks_from, lines_at}
use Rattle.relay_planning.proofs.Members.{In, in_from, contains_in}

-- ---- one more block
blocks_push : (senders : List Sender) (lists : List (List (List ℕ))) (sender : Sender) (lines : List (List ℕ)) → length senders ≡ length lists → blocks_from (senders ++ sender ∷ []) (lists ++ lines ∷ []) ≡ blocks_from senders lists ++ block_of sender lines
blocks_push [] [] sender lines e = append-nil (block_of sender lines)
blocks_push [] (l ∷ ls) sender lines e = absurd (omega (arith, e))
blocks_push (s ∷ ss) [] sender lines e = absurd (omega (arith, e))
blocks_push (s ∷ ss) (l ∷ ls) sender lines e =
    ap (λ bs. block_of s l ++ bs) (blocks_push ss ls sender lines (omega (arith, e))) ∙ sym (append_assoc (block_of s l) (blocks_from ss ls) (block_of sender lines))

pub blocks_more : (senders : List Sender) (yielded : List (List (List ℕ))) (n : ℕ) (sender : Sender) (lines : List (List ℕ)) (old new : List Return) → n ≡ length yielded → n < length senders → get_or senders n sender ≡ sender
    → old ≡ blocks_from (take n senders) yielded → new ≡ old ++ block_of sender lines → new ≡ blocks_from (take (n + 1) senders) (yielded ++ lines ∷ [])
blocks_more senders yielded n sender lines old new count inside is before after =
    let pushed : take (n + 1) senders ≡ take n senders ++ sender ∷ [] = take_more senders n sender inside ∙ ap (λ (s : Sender). take n senders ++ s ∷ []) is in
    let long : length (take n senders) ≡ length yielded = omega (arith, length-take n senders, count, inside) in
    after ∙ ap (λ bs. bs ++ block_of sender lines) before ∙ sym (blocks_push (take n senders) yielded sender lines long) ∙ ap (λ (ss : List Sender). blocks_from ss (yielded ++ lines ∷ [])) (sym pushed)

-- ---- which blocks there are
-- a block of a sender by its place
pub record IsBlockOf (senders : List Sender) (lists : List (List (List ℕ))) (r : Return) : Type 0 where
  pub place : ℕ
  pub sender : slice_get senders place ≡ Some r.sender
  pub lines : lines_at lists place ≡ r.lines
  pub some_lines : r.lines ≢ []

in_block : (sender : Sender) (lines : List (List ℕ)) (r : Return) → In (block_of sender lines) r → (sender ≡ r.sender) × (lines ≡ r.lines) × (r.lines ≢ [])
in_block sender [] r h = elim h [ ]
in_block sender (line ∷ lines) r h =
    elim h [
      | inl e ↦ (ap (λ (b : Return). b.sender) e, ap (λ (b : Return). b.lines) e, λ none. let lost : line ∷ lines ≡ [] = ap (λ (b : Return). b.lines) e ∙ none in absurd (let no : ⊥ = cc in no))
      | inr none ↦ elim none [ ]
    ]

in_append : {X : Type 0} (xs ys : List X) (x : X) → In (xs ++ ys) x → In xs x ⊎ In ys x
in_append [] ys x h = inr h
in_append (y ∷ xs) ys x h = elim h [ inl e ↦ inl (inl e) | inr later ↦ elim (in_append xs ys x later) [ inl a ↦ inl (inr a) | inr b ↦ inr b ] ]

in_left : {X : Type 0} (xs ys : List X) (x : X) → In xs x → In (xs ++ ys) x
in_left [] ys x h = elim h [ ]
in_left (y ∷ xs) ys x h = elim h [ inl e ↦ inl e | inr later ↦ inr (in_left xs ys x later) ]

in_right : {X : Type 0} (xs ys : List X) (x : X) → In ys x → In (xs ++ ys) x
in_right [] ys x h = h
in_right (y ∷ xs) ys x h = inr (in_right xs ys x h)

block_in : (senders : List Sender) (lists : List (List (List ℕ))) (r : Return) → In (blocks_from senders lists) r → IsBlockOf senders lists r
block_in [] lists r h = elim h [ ]
block_in (s ∷ ss) [] r h = elim h [ ]
block_in (s ∷ ss) (l ∷ ls) r h =
    elim (in_append (block_of s l) (blocks_from ss ls) r h) [
      | inl here ↦
          let b = in_block s l r here in
          record { place = 0; sender = ap (λ (x : Sender). Some x) b.0; lines = b.1; some_lines = b.2 }
      | inr later ↦
          let b = block_in ss ls r later in
          record { place = suc b.place; sender = b.sender; lines = b.lines; some_lines = b.some_lines }
    ]

pub block_is : (senders : List Sender) (lists : List (List (List ℕ))) (r : Return) → Contains (blocks_from senders lists) r → IsBlockOf senders lists r
block_is senders lists r c = block_in senders lists r (in_from (blocks_from senders lists) r c)

block_here : (sender : Sender) (lines : List (List ℕ)) → lines ≢ [] → In (block_of sender lines) (record { sender = sender; lines = lines })
block_here sender [] some = absurd (some refl)
block_here sender (line ∷ lines) some = inl refl

has_block_in : (senders : List Sender) (lists : List (List (List ℕ))) (k : ℕ) (sender : Sender) → slice_get senders k ≡ Some sender → lines_at lists k ≢ [] → In (blocks_from senders lists) (record { sender = sender; lines = lines_at lists k })
has_block_in [] lists k sender at some = absurd (let no : ⊥ = cc in no)
has_block_in (s ∷ ss) [] k sender at some = absurd (some refl)
has_block_in (s ∷ ss) (l ∷ ls) zero sender at some =
    let same : s ≡ sender = same_Some s sender at in
    in_left (block_of s l) (blocks_from ss ls) _ (subst (λ (x : Sender). In (block_of s l) (record { sender = x; lines = l })) same (block_here s l some))
has_block_in (s ∷ ss) (l ∷ ls) (suc k) sender at some = in_right (block_of s l) (blocks_from ss ls) _ (has_block_in ss ls k sender at some)

pub has_block : (senders : List Sender) (lists : List (List (List ℕ))) (k : ℕ) (sender : Sender) → slice_get senders k ≡ Some sender → lines_at lists k ≢ [] → (r : Return) × Contains (blocks_from senders lists) r × (r.sender ≡ sender)
has_block senders lists k sender at some =
    let r : Return = record { sender = sender; lines = lines_at lists k } in
    (r, contains_in (blocks_from senders lists) r (has_block_in senders lists k sender at some), refl)

-- ---- no two blocks have one sender
pub apart_blocks : (senders : List Sender) (lists : List (List (List ℕ))) → AllPairs (λ s t. s ≢ t) senders → AllPairs (λ (r : Return) (q : Return). r.sender ≢ q.sender) (blocks_from senders lists)
apart_blocks [] lists apart = λ i j d before inside. absurd (omega (arith, inside))
apart_blocks (s ∷ ss) [] apart = λ i j d before inside. absurd (omega (arith, inside))
apart_blocks (s ∷ ss) ([] ∷ ls) apart = apart_blocks ss ls (λ i j d before inside. apart (suc i) (suc j) d (omega (arith, before)) (omega (arith, inside)))
apart_blocks (s ∷ ss) ((line ∷ lines) ∷ ls) apart =
    let rest : List Return = blocks_from ss ls in
    let here : Return = record { sender = s; lines = line ∷ lines } in
    AllPairs-cons (λ (r : Return) (q : Return). r.sender ≢ q.sender) here rest (λ k d inside. below (get_or rest k d) (in_from rest (get_or rest k d) (Contains-get_or rest k d inside)))
    (apart_blocks ss ls (λ i j d before inside. apart (suc i) (suc j) d (omega (arith, before)) (omega (arith, inside)))) where
      below : (x : Return) → In (blocks_from ss ls) x → s ≢ x.sender
      below x inside same =
          let b = block_in ss ls x inside in
          let there : get_or ss b.place s ≡ x.sender = get_or_from_slice_get ss b.place x.sender s b.sender in
          apart 0 (suc b.place) s (omega arith) (omega (arith, slice_get_within ss b.place x.sender b.sender)) (same ∙ sym there)

-- the lines of each block ascend where all lines do
pub block_ascends : (senders : List Sender) (lists : List (List (List ℕ))) (r : Return) → IsBlockOf senders lists r → All (IsAscendingBy text_cmp) lists → IsAscendingBy text_cmp r.lines
block_ascends senders lists r b ascending =
    elim (cases_lt b.place (length lists)) [
      | inl inside ↦ subst (IsAscendingBy text_cmp) b.lines (ascending b.place [] inside)
      | inr past ↦ absurd (b.some_lines (sym b.lines ∙ get_or_past lists b.place [] past))
    ]
