use Rattle.std.proofs.Common.{◌≡◌, List, ℕ, length, drop, sym, ap, ◌∙◌}
use Rattle.std.specs.Prelude.{Some, None}
use Rattle.std.proofs.lemmas.List.{take_rest}
use Rattle.relay_text.specs.Bytes.{trimmed}
use Rattle.relay_routes.specs.declared.transport_line.TransportLine.{TransportLine}
use Rattle.relay_routes.specs.Transports.{line_of, pattern_text, result_text}
use Rattle.relay_routes.specs.TableSteps.{line_with}
use Rattle.relay_routes.proofs.ResultFacts.{no_line, some_line}
use Rattle.relay_routes.proofs.transport_line.line_of.Goals as goal

abbrev with_result : List ℕ → List ℕ → TransportLine
with_result pattern text = record { pattern = pattern; result = text }

-- a line by the field and the text that it begins and ends with
read_is : (line field same rest text : List ℕ) → field ≡ pattern_text line → same ≡ field → rest ≡ drop (length same) line → text ≡ trimmed rest → line_with field text ≡ line_of line
read_is line field same rest text is again left trim =
    let ends : text ≡ result_text line = trim ∙ ap trimmed (left ∙ ap (λ (f : List ℕ). drop (length f) line) (again ∙ is)) in
    ap (λ (f : List ℕ). line_with f text) is ∙ ap (line_with (pattern_text line)) ends

pub returns-then-not-is_result : goal.returns-then-not-is_result
returns-then-not-is_result c =
    let line = c.args.line.now in
    no_line c.at_front-field.result c.trimmed-text.result.now (sym c.is_result.ensures ∙ c.if-not-is_result.true)
    ∙ read_is line _ _ _ _ c.at_front-field.ensures c.text.ensures (take_rest line (length c.text.result.now)) c.trimmed-text.ensures

pub returns-in-None : goal.returns-in-None
returns-in-None c =
    let line = c.args.line.now in
    some_line c.at_front-field.result c.trimmed-text.result.now None (sym c.is_result.ensures ∙ c.if-not-is_result.false) (sym c.in-None.is ∙ c.in_ok-pattern.ensures)
    ∙ read_is line _ _ _ _ c.at_front-field.ensures c.text.ensures (take_rest line (length c.text.result.now)) c.trimmed-text.ensures

pub returns-in-Ok : goal.returns-in-Ok
returns-in-Ok c =
    let line = c.args.line.now in
    ap (λ (text : List ℕ). Some (with_result c.in-Some.pattern text)) c.in-Ok.ensures
    ∙ some_line c.at_front-field.result c.trimmed-text.result.now (Some c.in-Some.pattern) (sym c.is_result.ensures ∙ c.if-not-is_result.false) (sym c.in-Some.is ∙ c.in_ok-pattern.ensures)
    ∙ read_is line _ _ _ _ c.at_front-field.ensures c.text.ensures (take_rest line (length c.text.result.now)) c.trimmed-text.ensures
