use Rattle.std.proofs.lemmas.Result.{on_ok_weaker}
use Rattle.relay_wire.specs.PlanText.{line}
use Rattle.relay_explain.specs.ExplanationText.{answer_line, from_line, decision_lines, outcome_lines}
use Rattle.relay_explain.specs.PiecedTexts.{text_of}
use Rattle.relay_explain.proofs.TellingFacts.{told_written}
use Rattle.relay_explain.proofs.telling.add_told.Goals as goal

pub returns : goal.returns
returns c =
    let told = c.args.told in
    on_ok_weaker c.put_outcome.result
    (λ last. told_written (text_of c.args.pieces.now.whole.items) c.args.pieces.now.written.items c.put_answer_line.new.out.items (line (answer_line c.args.number c.args.target.now)) (text_of told.lines) (text_of c.add.new.self.whole.items) c.add.new.self.written.items (line (from_line told.from told.given_by)) c.put_from.new.out.items (decision_lines c.args.decision.now) c.put_decision.new.out.items (outcome_lines told.outcome) c.put_outcome.new.out.items
    c.in_ok-put_answer_line.ensures c.in_ok-add.ensures c.in_ok-put_from.ensures c.in_ok-put_decision.ensures last)
    c.put_outcome.ensures
