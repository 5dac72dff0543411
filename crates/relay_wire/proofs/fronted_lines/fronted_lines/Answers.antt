use Rattle.std.proofs.Common.{ℕ, ◌+◌, ◌∷◌, List, drop, get_or, sym, subst, arith}
use Rattle.std.proofs.lemmas.Grind.{common_steps}
use Rattle.std.proofs.lemmas.List.{drop_more}
use Rattle.std.proofs.lemmas.List.Elements.{All-push, All-same}
use Rattle.relay_wire.specs.FindingLines.{lines_cut}
use Rattle.relay_wire.specs.FrontedLines.{IsFronted}
use Rattle.relay_wire.specs.SharedFronts.{AllBegin}
use Rattle.relay_wire.proofs.fronted_lines.fronted_lines.Goals as goal

pub loop-length-preserved : goal.loop-length-preserved
loop-length-preserved c =
    let front = c.args.front.now in
    let lengths = c.args.lengths.now in
    let i = c.loop-length.length-index in
    let Begin : List (List ℕ) → Type 0 = AllBegin front in
    let begin : Begin (lines_cut (get_or lengths i 0 ∷ drop (i + 1) lengths) c.loop-length.rest.now) =
    subst (λ (ns : List ℕ). Begin (lines_cut ns c.loop-length.rest.now)) (drop_more lengths i 0 c.loop-length-test.true) c.loop-length.invariant.begin in
    record {
      lines = grind (arith, common_steps);
      whole = grind (arith, common_steps);
      begin = subst (λ (rest : List ℕ). Begin (lines_cut (drop (i + 1) lengths) rest)) (sym c.split_at.ensures.back) begin.1;
      fronts = All-same (IsFronted front) c.push_reserved.new.self.items _ c.push_reserved.ensures.items (All-push (IsFronted front) c.loop-length.lines.items c.of.result c.loop-length.invariant.fronts c.of.ensures.fronts);
      room = grind (arith, common_steps);
    }
