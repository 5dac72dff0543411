-- What may stand in a result of a transport table.
use Rattle.std.proofs.Common.{◌≡◌, ℕ, Bool, true, false, not, ◌==◌, ◌&&◌, ◌||◌, cond, List, [], ◌∷◌, length, codes, Option, Some, None, refl, sym, ap, ◌∙◌}
use Rattle.std.specs.List.{list_all, list_any}
use Rattle.std.specs.Option.{option_map, is_some}
use Rattle.relay_text.specs.Bytes.{is_white, begins_with}
use Rattle.relay_routes.specs.declared.transport_line.TransportLine.{TransportLine}
use Rattle.relay_routes.specs.Transports.{is_result_byte, is_result, pattern_of}
use Rattle.relay_routes.specs.TableSteps.{line_with}

-- bytes that print, of which none is white
abbrev pub all_visible : List ℕ → Bool
all_visible text = list_all (λ b. is_result_byte b && not (is_white b)) text

visible_parts : (text : List ℕ) → all_visible text ≡ (list_all is_result_byte text && not (list_any is_white text))
visible_parts [] = refl
visible_parts (b ∷ bs) = at (is_result_byte b) (is_white b) (list_all is_result_byte bs) (list_any is_white bs) (all_visible bs) (visible_parts bs) where
  at : (p w ps ws all : Bool) → all ≡ (ps && not ws) → ((p && not w) && all) ≡ ((p && ps) && not (w || ws))
  at true true true ws all e = refl
  at true true false ws all e = refl
  at true false ps ws all e = e
  at false w ps ws all e = refl

-- They are a result, and so are others only behind `error:`.
pub visible_result : (text : List ℕ) → (length text == 0) ≡ false → all_visible text ≡ true → is_result text ≡ true
visible_result [] e v = absurd (let no : ⊥ = cc in no)
visible_result (b ∷ bs) e v = at (list_all is_result_byte (b ∷ bs)) (list_any is_white (b ∷ bs)) (begins_with (codes "error:") (b ∷ bs)) (sym (visible_parts (b ∷ bs)) ∙ v) where
  at : (all white refused : Bool) → (all && not white) ≡ true → (all && (refused || not white)) ≡ true
  at true false true h = refl
  at true false false h = refl
  at true true refused h = absurd (let no : ⊥ = cc in no)
  at false white refused h = absurd (let no : ⊥ = cc in no)

pub hidden_result : (text : List ℕ) → all_visible text ≡ false → begins_with (codes "error:") text ≡ false → is_result text ≡ false
hidden_result [] v r = refl
hidden_result (b ∷ bs) v r = at (list_all is_result_byte (b ∷ bs)) (list_any is_white (b ∷ bs)) (begins_with (codes "error:") (b ∷ bs)) (sym (visible_parts (b ∷ bs)) ∙ v) r where
  at : (all white refused : Bool) → (all && not white) ≡ false → refused ≡ false → (all && (refused || not white)) ≡ false
  at all white true h e = absurd (let no : ⊥ = cc in no)
  at all white false h e = h

-- Where nothing is said behind a word, the word isn't there.
pub no_word : {X Y : Type 0} (found : Bool) (said : Option X) (f : X → Y) (rest : Y) → option_map f said ≡ cond found (Some rest) None → is_some said ≡ false → found ≡ false
no_word true None f rest h e = absurd (let no : ⊥ = cc in no)
no_word true (Some x) f rest h e = absurd (let no : ⊥ = cc in no)
no_word false said f rest h e = refl

-- ---- The line of a pattern's field and the text of a result.
abbrev line_by : List ℕ → List ℕ → TransportLine
line_by text pattern = record { pattern = pattern; result = text }

pub no_line : (field text : List ℕ) → is_result text ≡ false → None ≡ line_with field text
no_line field text h = ap (λ (t : Bool). cond t (option_map (line_by text) (pattern_of field)) None) (sym h)

pub some_line : (field text : List ℕ) (pattern : Option (List ℕ)) → is_result text ≡ true → pattern ≡ pattern_of field → option_map (line_by text) pattern ≡ line_with field text
some_line field text pattern h found = ap (option_map (line_by text)) found ∙ ap (λ (t : Bool). cond t (option_map (line_by text) (pattern_of field)) None) (sym h)
