use Rattle.std.proofs.Common.{◌≡◌, ◌<◌, ◌∙◌, Bool, List, [], false, true, length, get_or, sym, ap, subst, arith}
use Rattle.std.specs.Prelude.{replicate}
use Rattle.std.proofs.lemmas.List.{get_or_default, length-replicate, length-set}
use Rattle.relay_pairs.specs.declared.reached.Reached.{Reached}
use Rattle.relay_pairs.specs.Marks.{AreMarks}
use Rattle.relay_pairs.proofs.MarkFacts.{marks_none, marks_more, marks_all}
use Rattle.relay_pairs.proofs.nodes.marks_of.Goals as goal

pub loop-pair-init : goal.loop-pair-init
loop-pair-init c =
    let n = c.args.nodes in
    let is : c.in_ok-marks.marks.items ≡ replicate n false = c.in_ok-marks.ensures.items_if_clones_equal (λ y e. e) in
    record {
      marks = subst (λ (ms : List Bool). AreMarks [] ms) (sym is) (marks_none n);
      long = ap length is ∙ length-replicate n false;
    }

pub loop-pair-preserved : goal.loop-pair-preserved
loop-pair-preserved c =
    let pairs = c.args.pairs.now in
    let marks = c.loop-pair.marks.items in
    let i = c.loop-pair.pair-index in
    let none : Reached = record { sender = 0; node = 0 } in
    let x = get_or pairs i none in
    let inside : i < length pairs = c.loop-pair-test.true in
    let small : x.node < c.args.nodes = c.requires i none inside in
    let long : length marks ≡ c.args.nodes = c.loop-pair.invariant.long in
    record {
      marks = marks_more pairs i marks x inside (get_or_default pairs i none x inside) c.loop-pair.invariant.marks (omega (arith, small, long));
      long = length-set marks x.node true ∙ long;
    }

pub returns-clause-marks : goal.returns-clause-marks
returns-clause-marks c = marks_all c.args.pairs.now c.loop-pair.pair-index c.loop-pair.marks.items c.loop-pair-test.false c.loop-pair.invariant.marks
