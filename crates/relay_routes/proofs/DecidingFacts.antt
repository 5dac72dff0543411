-- The line that decides gives the result that the table gives.
use Rattle.std.proofs.Common.{◌≡◌, ℕ, ◌+◌, ◌<◌, ◌≤◌, Bool, true, false, cond, ◌||◌, List, [], ◌∷◌, ◌++◌, length, drop, get_or, map, refl, sym, ap, ◌∙◌, drop-cons, add-one}
use Rattle.std.specs.Prelude.{Option, Some, None, option_map, option_to_list, filter_map}
use Rattle.std.specs.List.{list_any, cons_option}
use Rattle.std.specs.Str.{bytes_eq}
use Rattle.std.proofs.lemmas.Bool.{false≢true, true≢false}
use Rattle.std.proofs.lemmas.List.{append-nil, append_assoc, drop_all}
use Rattle.std.proofs.lemmas.List.Folds.{list_any-append}
use Rattle.std.proofs.lemmas.List.Elements.{filter_map-append}
use Rattle.std.proofs.lemmas.Slice.Eq.{bytes_eq-Decides}
use Rattle.relay_text.specs.Bytes.{each_after, first_of, has_text}
use Rattle.relay_text.specs.Lines.{logical_lines_of}
use Rattle.relay_text.specs.AddressParts.{AddressParts}
use Rattle.relay_text.specs.declared.lines.Line.{Line}
use Rattle.relay_routes.specs.declared.transport_line.TransportLine.{TransportLine}
use Rattle.relay_routes.specs.declared.deciding.DecidingLine.{DecidingLine}
use Rattle.relay_routes.specs.Transports.{choice_for, choice_of, entry_in, found_result, has_pattern, keys_of, line_of, result_at, transport_table_of}
use Rattle.relay_routes.specs.DecidingLines.{deciding_line_of, first_line_at, good_line_in, line_at, numbered, result_of}
use Rattle.relay_routes.proofs.TableFacts.{bytes_eq_swap}

abbrev pattern_of_line : TransportLine → List ℕ
pattern_of_line e = e.pattern

abbrev pattern_in : Line → Option (List ℕ)
pattern_in l = option_map pattern_of_line (line_of l.text)

abbrev entry_on : List Line → Line → List TransportLine
entry_on earlier l = entry_in earlier (line_of l.text)

one_more : (earlier : List Line) (l : Line) (key : List ℕ) → has_pattern (earlier ++ l ∷ []) key ≡ (has_pattern earlier key || has_text (cons_option (pattern_in l) []) key)
one_more earlier l key =
    ap (λ (ps : List (List ℕ)). list_any (bytes_eq key) ps) (filter_map-append pattern_in earlier (l ∷ []))
    ∙ list_any-append (bytes_eq key) (filter_map pattern_in earlier) (cons_option (pattern_in l) [])

or_false : (t : Bool) → (t || false) ≡ t
or_false true = refl
or_false false = refl

-- One more good line: its entry is there unless its pattern was there before.
module _ (e : TransportLine) (key : List ℕ) (number : ℕ) (more : List TransportLine) (lines : List DecidingLine) where
  abbrev later : Option (List ℕ)
  later = option_map result_of (line_at lines key)

  step : (p t s u : Bool) → bytes_eq e.pattern key ≡ p → (p ≡ true → s ≡ t) → u ≡ (t || p) → result_at more key ≡ cond u None later
      → result_at (cond s [] (e ∷ []) ++ more) key ≡ cond t None (option_map result_of (first_of ((cond p (Some (numbered number e)) None) ∷ map (λ (l : DecidingLine). cond (bytes_eq l.pattern key) (Some l) None) lines)))
  step true true true u is same has rest = rest ∙ ap (λ (v : Bool). cond v None later) has
  step true true false u is same has rest = absurd (false≢true (same refl))
  step true false true u is same has rest = absurd (true≢false (same refl))
  step true false false u is same has rest = rw is refl
  step false true true u is same has rest = rest ∙ ap (λ (v : Bool). cond v None later) has
  step false true false u is same has rest = rw is (rest ∙ ap (λ (v : Bool). cond v None later) has)
  step false false true u is same has rest = rest ∙ ap (λ (v : Bool). cond v None later) has
  step false false false u is same has rest = rw is (rest ∙ ap (λ (v : Bool). cond v None later) has)

abbrev no_text : Option (List ℕ)
no_text = None

at_key : (key : List ℕ) (earlier ls : List Line) → result_at (each_after entry_on earlier ls) key ≡ cond (has_pattern earlier key) None (option_map result_of (line_at (filter_map good_line_in ls) key))
at_key key earlier [] = sym (at (has_pattern earlier key)) where
  at : (t : Bool) → cond t no_text no_text ≡ no_text
  at true = refl
  at false = refl
at_key key earlier (l ∷ ls) = at (line_of l.text) refl (at_key key (earlier ++ l ∷ []) ls) where
  at : (o : Option TransportLine) → line_of l.text ≡ o
      → result_at (each_after entry_on (earlier ++ l ∷ []) ls) key ≡ cond (has_pattern (earlier ++ l ∷ []) key) None (option_map result_of (line_at (filter_map good_line_in ls) key))
      → result_at (entry_in earlier o ++ each_after entry_on (earlier ++ l ∷ []) ls) key ≡ cond (has_pattern earlier key) None (option_map result_of (line_at (cons_option (option_map (numbered l.number) o) (filter_map good_line_in ls)) key))
  at None e rest =
      let has : has_pattern (earlier ++ l ∷ []) key ≡ has_pattern earlier key =
      one_more earlier l key ∙ ap (λ (o : Option TransportLine). has_pattern earlier key || has_text (cons_option (option_map pattern_of_line o) []) key) e ∙ or_false (has_pattern earlier key) in
      rest ∙ ap (λ (t : Bool). cond t None (option_map result_of (line_at (filter_map good_line_in ls) key))) has
  at (Some entry) e rest =
      let has : has_pattern (earlier ++ l ∷ []) key ≡ (has_pattern earlier key || bytes_eq entry.pattern key) =
      one_more earlier l key
      ∙ ap (λ (o : Option TransportLine). has_pattern earlier key || has_text (cons_option (option_map pattern_of_line o) []) key) e
      ∙ ap (λ (t : Bool). has_pattern earlier key || t) (or_false (bytes_eq key entry.pattern) ∙ bytes_eq_swap key entry.pattern) in
      step entry key l.number (each_after entry_on (earlier ++ l ∷ []) ls) (filter_map good_line_in ls) (bytes_eq entry.pattern key) (has_pattern earlier key) (has_pattern earlier entry.pattern) (has_pattern (earlier ++ l ∷ []) key)
      refl (λ same. ap (has_pattern earlier) ((bytes_eq-Decides entry.pattern key).0 same)) has rest

along : (entries : List TransportLine) (lines : List DecidingLine) → ((key : List ℕ) → result_at entries key ≡ option_map result_of (line_at lines key)) → (keys : List (List ℕ)) → found_result entries keys ≡ option_map result_of (first_line_at lines keys)
along entries lines same [] = refl
along entries lines same (key ∷ keys) = at (line_at lines key) (same key) (along entries lines same keys) where
  at : (o : Option DecidingLine) → result_at entries key ≡ option_map result_of o → found_result entries keys ≡ option_map result_of (first_line_at lines keys) → first_of (result_at entries key ∷ map (result_at entries) keys) ≡ option_map result_of (first_of (o ∷ map (line_at lines) keys))
  at None e rest = rw e rest
  at (Some l) e rest = rw e refl

pub choice_is : (table : List ℕ) (delimiter : Option ℕ) (a : AddressParts) → choice_for (transport_table_of table).entries delimiter a ≡ choice_of (option_map result_of (deciding_line_of table a delimiter))
unfolding transport_table_of deciding_line_of
choice_is table delimiter a = ap choice_of (along _ (filter_map good_line_in (logical_lines_of table).lines) (λ key. at_key key [] (logical_lines_of table).lines) (keys_of a delimiter))

-- ---- line after line
pub good_more : (good more : List DecidingLine) (l : Line) (rest : List Line) → more ≡ good ++ option_to_list (good_line_in l) → more ++ filter_map good_line_in rest ≡ good ++ filter_map good_line_in (l ∷ rest)
good_more good more l rest put = at (good_line_in l) put where
  at : (o : Option DecidingLine) → more ≡ good ++ option_to_list o → more ++ filter_map good_line_in rest ≡ good ++ cons_option o (filter_map good_line_in rest)
  at None e = ap (λ ls. ls ++ filter_map good_line_in rest) (e ∙ append-nil good)
  at (Some g) e = ap (λ ls. ls ++ filter_map good_line_in rest) e ∙ append_assoc good (g ∷ []) (filter_map good_line_in rest)

-- ---- key after key
pub decides : (table : List ℕ) (delimiter : Option ℕ) (a : AddressParts) (lines : List DecidingLine) (keys : List (List ℕ)) → lines ≡ filter_map good_line_in (logical_lines_of table).lines → keys ≡ keys_of a delimiter
    → first_line_at lines keys ≡ deciding_line_of table a delimiter
unfolding deciding_line_of
decides table delimiter a lines keys good all = ap (λ ls. first_line_at ls keys) good ∙ ap (first_line_at (filter_map good_line_in (logical_lines_of table).lines)) all

-- what a key gives, and the keys behind it where it gives nothing, is what all keys that are left give
at_turn : (lines : List DecidingLine) (keys : List (List ℕ)) (i : ℕ) (key : List ℕ) (o : Option DecidingLine) → i < length keys → key ≡ get_or keys i key → o ≡ line_at lines key
    → first_line_at lines (drop i keys) ≡ first_line_at lines keys → first_of (o ∷ map (line_at lines) (drop (i + 1) keys)) ≡ first_line_at lines keys
at_turn lines keys i key o inside here found left =
    let cut : drop i keys ≡ get_or keys i key ∷ drop (i + 1) keys = rw (add-one, drop-cons keys i key) refl in
    ap (λ o. first_of (o ∷ map (line_at lines) (drop (i + 1) keys))) found
    ∙ ap (λ k. first_line_at lines (k ∷ drop (i + 1) keys)) here
    ∙ ap (first_line_at lines) (sym cut) ∙ left

pub found_at : (lines : List DecidingLine) (keys : List (List ℕ)) (i : ℕ) (key : List ℕ) (l : DecidingLine) → i < length keys → key ≡ get_or keys i key → Some l ≡ line_at lines key
    → first_line_at lines (drop i keys) ≡ first_line_at lines keys → Some l ≡ first_line_at lines keys
found_at lines keys i key l inside here found left = at_turn lines keys i key (Some l) inside here found left

pub none_at : (lines : List DecidingLine) (keys : List (List ℕ)) (i : ℕ) (key : List ℕ) → i < length keys → key ≡ get_or keys i key → None ≡ line_at lines key
    → first_line_at lines (drop i keys) ≡ first_line_at lines keys → first_line_at lines (drop (i + 1) keys) ≡ first_line_at lines keys
none_at lines keys i key inside here found left = at_turn lines keys i key None inside here found left

pub none_left : (lines : List DecidingLine) (keys : List (List ℕ)) (i : ℕ) → length keys ≤ i → first_line_at lines (drop i keys) ≡ first_line_at lines keys → None ≡ first_line_at lines keys
none_left lines keys i past left = ap (first_line_at lines) (sym (drop_all i keys past)) ∙ left
