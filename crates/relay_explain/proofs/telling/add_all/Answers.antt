use Rattle.std.proofs.Common.{◌≡◌, ℕ, ◌+◌, ◌++◌, ◌∷◌, [], List, length, ap, sym, ◌∙◌, append_assoc, arith}
use Rattle.std.specs.List.{enumerate_from}
use Rattle.std.proofs.lemmas.List.{length-append}
use Rattle.relay_explain.specs.PiecedTexts.{text_so_far}
use Rattle.relay_explain.specs.Tellings.{told_text, told_texts}
use Rattle.relay_explain.proofs.TellingFacts.{told_more}
use Rattle.relay_explain.proofs.telling.add_all.Goals as goal

pub loop-told-preserved : goal.loop-told-preserved
loop-told-preserved c =
    let target = c.args.target.now in
    let decision = c.args.decision.now in
    let before = c.loop-told.yielded in
    let told = c.in-Some.told in
    let start = text_so_far c.args.pieces.now in
    let count = c.loop-told.invariant.count in
    let number : c.loop-told.number + 1 ≡ 1 + length before = omega (arith, count) in
    record {
      count = omega (arith, count, length-append before (told ∷ []));
      room = omega (arith, c.loop-told.invariant.room, c.in-Some.ensures.steps.1);
      text =
          c.in_ok-add_told.ensures
          ∙ ap (λ (l : List ℕ). l ++ told_text target decision (c.loop-told.number + 1) told) c.loop-told.invariant.text
          ∙ append_assoc start (told_texts target decision (enumerate_from 1 before)) (told_text target decision (c.loop-told.number + 1) told)
          ∙ ap (λ (l : List ℕ). start ++ l) (ap (λ (n : ℕ). told_texts target decision (enumerate_from 1 before) ++ told_text target decision n told) number ∙ sym (told_more target decision 1 before told));
    }
