use Rattle.std.proofs.Common.{rules, ◌≡◌, ◌∷◌, ◌++◌, sym, ap, ◌∙◌}
use Rattle.std.specs.Prelude.{filter_map}
use Rattle.relay_text.specs.LogicalLines.{logical_line}
use Rattle.relay_routes.specs.DecidingLines.{good_line_in}
use Rattle.relay_routes.proofs.DecidingFacts.{good_more}
use Rattle.relay_routes.proofs.deciding.good_lines.Goals as goal

pub loop-good-preserved : goal.loop-good-preserved
loop-good-preserved c =
    let good = c.loop-good.good.items in
    let line = logical_line c.in-Some.line in
    let cut : c.loop-good.lines.lines ≡ line ∷ c.next_line.new.self.lines = search rules in
    good_more good c.add_good_line.new.good.items line c.next_line.new.self.lines c.in_ok-add_good_line.ensures
    ∙ ap (λ ls. good ++ filter_map good_line_in ls) (sym cut) ∙ c.loop-good.invariant
