-- A list that is cut at a comma which no quote and no backslash stands before.
use Rattle.std.proofs.Common.{Result, Ok, Err, IfOk, ◌≡◌, ℕ, ◌+◌, ◌<◌, ◌≤◌, Bool, true, false, ◌-◌, ◌&&◌, ◌==◌, cond, List, [], ◌∷◌, ◌++◌, length, take, drop, get_or, map, filter, refl, sym, ap, ◌∙◌, add-one, arith}
use Rattle.std.specs.Prelude.{filter_map, Option, None}
use Rattle.std.specs.List.{onto_first}
use Rattle.std.specs.Result.{result_ok}
use Rattle.std.proofs.Math.Seq.{drop-cons}
use Rattle.std.proofs.lemmas.Bool.{eqb-true, or_parts}
use Rattle.std.proofs.lemmas.List.{map-append, take-append-drop, take_rest, length-take, length-drop, get_or-take, get_or-drop, get_or_default}
use Rattle.std.proofs.lemmas.List.Elements.{All-head, All-tail, All-take, filter-append, filter_map-append}
use Rattle.bstr.proofs.lemmas.ByteLemmas.{is_in-two, IsFirstByte-same}
use Rattle.bstr.specs.Bytes.{is_in}
use Rattle.bstr.specs.Find.{IsFirstByte, Passes, Nowhere, is_byte}
use Rattle.relay_text.specs.Bytes.{trimmed}
use Rattle.relay_aliasfile.specs.IncludeFiles.{bad_item_faults}
use Rattle.relay_aliasfile.specs.Items.{is_text, item_texts, item_of, is_bad, good_items, bad_items}
use Rattle.relay_aliasfile.specs.ListCuts.{is_quote_byte, HasNoQuotes}
use Rattle.relay_aliasfile.specs.ListParts.{AreBoth, IsRead}
use Rattle.relay_aliasfile.specs.MailboxFiles.{fault}
use Rattle.relay_aliasfile.specs.QuoteStates.{at_start, past}
use Rattle.relay_aliasfile.specs.declared.fault.LineFault.{LineFault}
use Rattle.relay_aliasfile.specs.declared.fault.FaultKind.TheVariants.{BadItem}
use Rattle.relay_aliasfile.specs.declared.list_parts.ListPart.{ListPart}
use Rattle.relay_aliasfile.specs.declared.quotes.QuoteState.{QuoteState}
use Rattle.relay_halves.proofs.HalvedLines.{onto_first-append}
use Rattle.relay_aliasfile.proofs.Outside.{pieces_from, pieces_outside-from}

-- past another byte a reader that stands at the start stays there
stays : (b : ℕ) → is_quote_byte b ≡ false → past at_start b ≡ at_start
stays b h = let parts = or_parts (b == 34) (b == 92) h in rw (parts.0, parts.1) refl

some_piece : (s : QuoteState) (xs : List ℕ) → pieces_from 44 s xs ≡ [] → ⊥
some_piece s [] h = cc
some_piece s (b ∷ bs) h = at ((b == 44) && s.outside) (pieces_from 44 (past s b) bs) h where
  at : (t : Bool) (pieces : List (List ℕ)) → cond t ([] ∷ pieces) (onto_first b pieces) ≡ [] → ⊥
  at true pieces e = cc
  at false [] e = cc
  at false (piece ∷ pieces) e = cc

pieces_cut : (front back : List ℕ) → HasNoQuotes front → pieces_from 44 at_start (front ++ 44 ∷ back) ≡ pieces_from 44 at_start front ++ pieces_from 44 at_start back
pieces_cut [] back h = refl
pieces_cut (b ∷ bs) back h =
    let P : ℕ → Type 0 = λ c. is_quote_byte c ≡ false in
    let here : past at_start b ≡ at_start = stays b (All-head P b bs h) in
    let later = pieces_cut bs back (All-tail P b bs h) in
    ap (λ s. cond ((b == 44) && true) ([] ∷ pieces_from 44 s (bs ++ 44 ∷ back)) (onto_first b (pieces_from 44 s (bs ++ 44 ∷ back)))) here
    ∙ at ((b == 44) && true) later
    ∙ ap (λ s. cond ((b == 44) && true) ([] ∷ pieces_from 44 s bs) (onto_first b (pieces_from 44 s bs)) ++ pieces_from 44 at_start back) (sym here) where
      at : (t : Bool) → pieces_from 44 at_start (bs ++ 44 ∷ back) ≡ pieces_from 44 at_start bs ++ pieces_from 44 at_start back
          → cond t ([] ∷ pieces_from 44 at_start (bs ++ 44 ∷ back)) (onto_first b (pieces_from 44 at_start (bs ++ 44 ∷ back)))
          ≡ cond t ([] ∷ pieces_from 44 at_start bs) (onto_first b (pieces_from 44 at_start bs)) ++ pieces_from 44 at_start back
      at true later = ap (λ (pieces : List (List ℕ)). [] ∷ pieces) later
      at false later = ap (onto_first b) later ∙ onto_first-append b (pieces_from 44 at_start bs) (pieces_from 44 at_start back) (some_piece at_start bs)

abbrev texts_of : List (List ℕ) → List (List ℕ)
texts_of pieces = filter is_text (map trimmed pieces)

item_texts-append : (front back : List ℕ) → HasNoQuotes front → item_texts (front ++ 44 ∷ back) ≡ item_texts front ++ item_texts back
item_texts-append front back h =
    let first : List (List ℕ) = pieces_from 44 at_start front in
    let second : List (List ℕ) = pieces_from 44 at_start back in
    ap texts_of (pieces_outside-from 44 (front ++ 44 ∷ back) ∙ pieces_cut front back h)
    ∙ ap (filter is_text) (map-append trimmed first second)
    ∙ filter-append is_text (map trimmed first) (map trimmed second)
    ∙ ap (λ pieces. texts_of pieces ++ texts_of second) (sym (pieces_outside-from 44 front))
    ∙ ap (λ pieces. item_texts front ++ texts_of pieces) (sym (pieces_outside-from 44 back))

-- ---- where such a comma stands
comma_splits : (list : List ℕ) (comma : ℕ) → comma < length list → Passes (is_byte 44) list comma → take comma list ++ 44 ∷ drop (comma + 1) list ≡ list
comma_splits list comma within passes =
    let byte : 44 ≡ get_or list comma 0 = sym (eqb-true (get_or list comma 0) 44 passes) in
    ap (λ b. take comma list ++ b ∷ drop (comma + 1) list) byte
    ∙ ap (λ k. take comma list ++ get_or list comma 0 ∷ drop k list) (add-one comma)
    ∙ ap (λ rest. take comma list ++ rest) (sym (drop-cons list comma 0 within))
    ∙ take-append-drop comma list

texts_at_comma : (list : List ℕ) (comma : ℕ) → HasNoQuotes (take comma list) → comma < length list → Passes (is_byte 44) list comma
    → item_texts list ≡ item_texts (take comma list) ++ item_texts (drop (comma + 1) list)
texts_at_comma list comma quotes within passes =
    ap item_texts (sym (comma_splits list comma within passes)) ∙ item_texts-append (take comma list) (drop (comma + 1) list) quotes

abbrev rest_of : List ℕ → ℕ → List ℕ
rest_of list n = take (length list - n) (drop n list)

-- the last comma before a place
pub texts_before : (list : List ℕ) (place comma : ℕ) → HasNoQuotes (take comma list) → comma < length (take place list) → Passes (is_byte 44) (take place list) comma
    → item_texts list ≡ item_texts (take comma list) ++ item_texts (rest_of list (comma + 1))
texts_before list place comma quotes within passes =
    let near : comma < place = omega (arith, length-take place list) in
    let inside : comma < length list = omega (arith, length-take place list) in
    let here : Passes (is_byte 44) list comma = ap (λ b. b == 44) (sym (get_or-take place list comma 0 near)) ∙ passes in
    texts_at_comma list comma quotes inside here ∙ ap (λ rest. item_texts (take comma list) ++ item_texts rest) (sym (take_rest list (comma + 1)))

-- what a search for a quote or a backslash answers
pub first_quote : (list : List ℕ) (found : Option ℕ) → IsFirstByte (is_in (34 ∷ 92 ∷ [])) list found → IsFirstByte is_quote_byte list found
first_quote list = IsFirstByte-same list (is_in (34 ∷ 92 ∷ [])) is_quote_byte (λ k within. sym (is_in-two (34 ∷ 92 ∷ []) (get_or list k 0) refl))

-- where none is found
pub no_quotes : (list : List ℕ) → IsFirstByte is_quote_byte list None → HasNoQuotes list
no_quotes list none k d inside = ap is_quote_byte (get_or_default list k d 0 inside) ∙ not_there (is_quote_byte (get_or list k 0)) (none k (omega arith) inside) where
  not_there : (t : Bool) → (t ≡ true → ⊥) → t ≡ false
  not_there true h = absurd (h refl)
  not_there false h = refl

-- what no quote stands before
pub quotes_before : (list : List ℕ) (quote comma : ℕ) → Nowhere (Passes is_quote_byte list) 0 quote → quote ≤ length list → comma < length (take quote list) → HasNoQuotes (take comma list)
quotes_before list quote comma none room within = λ k d inside.
    let short : k < comma = omega (arith, length-take comma list) in
    let near : k < quote = omega (arith, short, length-take quote list) in
    let here : k < length list = omega (arith, near) in
    ap is_quote_byte (get_or-take comma list k d short ∙ get_or_default list k d 0 here) ∙ not_there (is_quote_byte (get_or list k 0)) (none k (omega arith) near) where
      not_there : (t : Bool) → (t ≡ true → ⊥) → t ≡ false
      not_there true h = absurd (h refl)
      not_there false h = refl

-- a comma so many bytes behind a place
pub texts_behind : (list : List ℕ) (place count : ℕ) → HasNoQuotes list → place ≤ length list → count < length (rest_of list place) → Passes (is_byte 44) (rest_of list place) count
    → item_texts list ≡ item_texts (take (place + count) list) ++ item_texts (rest_of list (place + count + 1))
texts_behind list place count quotes room within passes =
    let rest : rest_of list place ≡ drop place list = take_rest list place in
    let inside : place + count < length list = omega (arith, ap length rest, length-drop place list) in
    let here : Passes (is_byte 44) list (place + count) = ap (λ b. b == 44) (sym (get_or-drop place list count 0) ∙ ap (λ (xs : List ℕ). get_or xs count 0) (sym rest)) ∙ passes in
    texts_at_comma list (place + count) (All-take (λ b. is_quote_byte b ≡ false) (place + count) list quotes) inside here
    ∙ ap (λ rest. item_texts (take (place + count) list) ++ item_texts rest) (sym (take_rest list (place + count + 1)))

-- ---- the items and the faults of both parts
pub items_cut : (list front back : List ℕ) → item_texts list ≡ item_texts front ++ item_texts back → good_items list ≡ good_items front ++ good_items back
items_cut list front back texts = ap (filter_map item_of) texts ∙ filter_map-append item_of (item_texts front) (item_texts back)

pub faults_cut : (line : ℕ) (list front back : List ℕ) → item_texts list ≡ item_texts front ++ item_texts back → bad_item_faults line list ≡ bad_item_faults line front ++ bad_item_faults line back
faults_cut line list front back texts =
    let told : List (List ℕ) → List LineFault = λ bad. map (λ _. fault line BadItem) bad in
    ap told (ap (filter is_bad) texts ∙ filter-append is_bad (item_texts front) (item_texts back)) ∙ map-append (λ _. fault line BadItem) (bad_items front) (bad_items back)

-- where two threads read them
pub parts_both : {E : Type 0} (line : ℕ) (list front back : List ℕ) (here there : Result ListPart E) (both : ListPart) → item_texts list ≡ item_texts front ++ item_texts back
    → IfOk here (IsRead line front) → IfOk there (IsRead line back) → AreBoth (result_ok here) (result_ok there) both → IsRead line list both
parts_both line list front back (Err e) there both texts one two h = absurd h
parts_both line list front back (Ok first) (Err e) both texts one two h = absurd h
parts_both line list front back (Ok first) (Ok second) both texts one two h =
    let i : first.items.items ++ second.items.items ≡ good_items front ++ good_items back = rw (one.items, two.items) refl in
    let f : first.faults.items ++ second.faults.items ≡ bad_item_faults line front ++ bad_item_faults line back = rw (one.faults, two.faults) refl in
    record { items = h.0 ∙ i ∙ sym (items_cut list front back texts); faults = h.1 ∙ f ∙ sym (faults_cut line list front back texts) }
