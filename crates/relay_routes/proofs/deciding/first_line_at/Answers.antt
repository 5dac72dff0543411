use Rattle.std.proofs.Common.{ap, ◌∙◌}
use Rattle.relay_routes.specs.DecidingLines.{line_at}
use Rattle.relay_routes.proofs.DecidingFacts.{found_at, none_at, none_left}
use Rattle.relay_routes.proofs.deciding.first_line_at.Goals as goal

pub returns-in-Some : goal.returns-in-Some
returns-in-Some c =
    let found = c.in-Some.ensures ∙ ap (line_at c.args.lines.now) c.as_bytes.ensures in
    found_at c.args.lines.now c.args.keys.now c.loop-key.key-index c.key-item.result c.in-Some.line.now c.loop-key-test.true c.key-item.is found c.loop-key.invariant

pub loop-key-preserved : goal.loop-key-preserved
loop-key-preserved c =
    let found = c.in_default.ensures ∙ ap (line_at c.args.lines.now) c.as_bytes.ensures in
    none_at c.args.lines.now c.args.keys.now c.loop-key.key-index c.key-item.result c.loop-key-test.true c.key-item.is found c.loop-key.invariant

pub returns : goal.returns
returns c = none_left c.args.lines.now c.args.keys.now c.loop-key.key-index c.loop-key-test.false c.loop-key.invariant
