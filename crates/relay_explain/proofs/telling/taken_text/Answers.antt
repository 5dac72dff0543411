use Rattle.std.proofs.Common.{◌≡◌, ℕ, List, ap, sym, ◌∙◌, codes, length}
use Rattle.std.specs.List.{enumerate_from}
use Rattle.std.proofs.lemmas.Result.{IfOk-weaker}
use Rattle.relay_wire.specs.PlanText.{line}
use Rattle.relay_explain.specs.declared.listed.Listed.{Listed}
use Rattle.relay_explain.specs.declared.told.Told.{Told}
use Rattle.relay_explain.specs.ExplanationText.{explain_line, why_not}
use Rattle.relay_explain.specs.PiecedTexts.{text_of}
use Rattle.relay_explain.specs.Tellings.{told_texts}
use Rattle.relay_explain.proofs.TellingFacts.{as_many, same_whole, telling_written, text_told}
use Rattle.relay_explain.proofs.telling.taken_text.Goals as goal

pub returns : goal.returns
returns c =
    let t = c.args.telling.now in
    let answers = c.into_vec-answers.result.items in
    let count : ℕ = c.len-count.result in
    let answers_are : answers ≡ t.answers = c.into_vec-answers.ensures ∙ c.replace.ensures.value in
    let front : ℕ → List ℕ = λ n. line (explain_line t.asked n) in
    let texts : List Told → List ℕ = λ told. told_texts t.target t.decision (enumerate_from 1 told) in
    let end : List ℕ = line (codes "end") in
    IfOk-weaker c.into_seq.result _ _
    (λ pieces is e told.
    let long : length e.answers ≡ count = as_many e.answers t.answers told.answers ∙ sym c.len-count.ensures in
    let unreached = c.as_slice-unreached.result.now in
    let written = telling_written (text_of c.new-pieces.result.whole.items) c.new-pieces.result.written.items c.put_first.new.out.items (front count) (texts answers) (text_of c.add_all.new.pieces.whole.items) c.add_all.new.pieces.written.items (why_not unreached t.stands_for e.answers) c.put_why_not.new.out.items end c.extend_from_slice.new.self.items
    c.new-pieces.ensures c.in_ok-put_first.ensures c.in_ok-add_all.ensures (c.in_ok-put_why_not.ensures e.answers long) c.in_ok-extend_from_slice.ensures.items in
    is
    ∙ written
    ∙ same_whole (front count) (front (length t.answers)) (texts answers) (texts t.answers) (why_not unreached t.stands_for e.answers) (why_not t.unreached t.stands_for e.answers) end (ap front c.len-count.ensures) (ap texts answers_are) (ap (λ (u : List Listed). why_not u t.stands_for e.answers) c.as_slice-unreached.ensures)
    ∙ text_told e t told)
    c.into_seq.ensures
