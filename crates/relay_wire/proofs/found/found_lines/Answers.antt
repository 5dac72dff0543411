use Rattle.std.proofs.Common.{ℕ, List, [], ◌∷◌, ◌++◌, map, ap, sym, ◌∙◌}
use Rattle.std.proofs.lemmas.List.{map_push}
use Rattle.std.proofs.lemmas.List.Elements.{All-same, All-push}
use Rattle.relay_wire.specs.declared.found_line.FoundLine.{FoundLine}
use Rattle.relay_wire.specs.Findings.{finding_text_of}
use Rattle.relay_wire.specs.FoundLines.{lines_beside, HasOwnLine}
use Rattle.relay_wire.proofs.found.found_lines.Goals as goal

pub loop-finding-preserved : goal.loop-finding-preserved
loop-finding-preserved c =
    let old = c.loop-finding.found.items in
    let one : FoundLine = c.in_ok-of.field-0 in
    let yielded = c.loop-finding.yielded in
    record {
      lines =
          ap lines_beside c.in_ok-push.ensures.items
          ∙ map_push (λ (w : FoundLine). w.line.items) old one
          ∙ ap (λ (ls : List (List ℕ)). ls ++ one.line.items ∷ []) c.loop-finding.invariant.lines
          ∙ ap (λ (l : List ℕ). map finding_text_of yielded ++ l ∷ []) c.in_ok-of.ensures.line
          ∙ sym (map_push finding_text_of yielded c.in-Some.finding);
      own = All-same HasOwnLine c.push.new.self.items (old ++ one ∷ []) c.in_ok-push.ensures.items (All-push HasOwnLine old one c.loop-finding.invariant.own c.in_ok-of.ensures.own);
    }
