use Rattle.std.proofs.Common.{◌+◌, ◌++◌, [], ◌∷◌, List, length, map, take, Some, ap, ◌∙◌, refl, sym, subst, arith}
use Rattle.std.proofs.lemmas.List.Elements.{All-push, All-same}
use Rattle.relay_trails.specs.declared.found.Found.{Found}
use Rattle.relay_trails.specs.Answers.{AreAnswers}
use Rattle.relay_trails.specs.Trails.{HasNodes}
use Rattle.relay_trails.proofs.Reading.{answer_more, answer_same, number_read}
use Rattle.relay_trails.proofs.answering.answers.Goals.{then-pair-node+in_ok-read_back+in_ok-push, else-pair-node}
use Rattle.relay_trails.proofs.answering.answers.Goals as goal

pub read_back-requires-clause-at : goal.read_back-requires-clause-at
read_back-requires-clause-at c =
    (number_read (length c.args.pairs.now) c.args.numbers.now c.args.steps.now c.requires.steps c.loop-place.place (omega arith) _ refl).0

pub loop-place-preserved : goal.loop-place-preserved
loop-place-preserved c =
    let numbers = c.args.numbers.now in
    let steps = c.args.steps.now in
    let pairs = c.args.pairs.now in
    let place = c.loop-place.place in
    let answers = c.loop-place.found.items in
    let more = λ (fs : List Found). AreAnswers (take (place + 1) pairs) pairs (map Some numbers) steps c.args.node fs in
    let with_nodes : Found → Type 0 = HasNodes c.args.graph.now in
    elim c.if-pair-node.branch [
      | then-pair-node+in_ok-read_back+in_ok-push w ↦
          let s = number_read (length pairs) numbers steps c.requires.steps place (omega arith) _ refl in
          let answer : Found = w.in_ok-read_back.field-0 in
          let all =
          answer_more pairs (map Some numbers) steps c.args.node answers place (omega arith) c.loop-place.invariant.answers w.if-pair-node.true _ s.1 answer w.in_ok-read_back.ensures.sender w.in_ok-read_back.ensures.trail in
          let items_are = ap (λ x. x.items) w.found-is ∙ w.in_ok-push.ensures.items in
          record {
            answers = subst more (sym items_are) all;
            nodes = All-same with_nodes c.if-pair-node.found.items (answers ++ answer ∷ []) items_are (All-push with_nodes answers answer c.loop-place.invariant.nodes w.in_ok-read_back.ensures.nodes);
          }
      | else-pair-node w ↦
          let all = answer_same pairs (map Some numbers) steps c.args.node answers place (omega arith) c.loop-place.invariant.answers w.if-pair-node.false in
          let items_are = ap (λ x. x.items) w.found-is in
          record {
            answers = subst more (sym items_are) all;
            nodes = All-same with_nodes c.if-pair-node.found.items answers items_are c.loop-place.invariant.nodes;
          }
    ]
