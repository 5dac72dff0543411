use Rattle.std.proofs.Common.{◌≡◌, ℕ, List, subst, ◌∙◌, arith}
use Rattle.relay_gather.specs.Source.{Answer, Tells}
use Rattle.relay_gather.specs.Origins.{counted_in}
use Rattle.relay_gather.proofs.Joining.{same_answers}
use Rattle.relay_gather.proofs.Counting.{one_more}
use Rattle.relay_gather.proofs.origins.counted_all.Goals as goal

pub loop-path-preserved : goal.loop-path-preserved
loop-path-preserved g c =
    let answer : List ℕ → Answer = g.D.Source.answer c.args.source.now in
    let alike : g.D.Source.answer c.loop-path.source ≡ answer = same_answers c.loop-path.invariant.alike in
    let path = c.path-item.result in
    let told : Tells answer → c.in_ok-counted.field-0 ≡ counted_in answer path =
    subst (λ (f : List ℕ → Answer). Tells f → c.in_ok-counted.field-0 ≡ counted_in f path) alike c.in_ok-counted.ensures.lines in
    record {
      alike = λ p. c.in_ok-counted.ensures.alike p ∙ c.loop-path.invariant.alike p;
      files = λ tells. one_more (counted_in answer) c.args.paths.now c.loop-path.path-index path c.loop-path.files.items c.push.new.self.items c.in_ok-counted.field-0 (omega arith) c.path-item.is c.in_ok-push.ensures.items (c.loop-path.invariant.files tells) (told tells);
    }
