use Rattle.std.proofs.Common.{◌∙◌, ◌||◌, [], ap}
use Rattle.std.proofs.lemmas.Result.{IfOk-at_ok}
use Rattle.relay_text.specs.Bytes.{has_text}
use Rattle.relay_planning.specs.Findings.{Reports}
use Rattle.relay_planning.specs.Plans.{AreTransactionsOf, IsFewest, IsSoundFor}
use Rattle.relay_planning.specs.Report.{entries, routes, IsLineOf}
use Rattle.relay_planning.proofs.LineFacts.{lines_apart}
use Rattle.relay_planning.proofs.transacted.transactions_side_by_side.Goals as goal

pub returns-clause-lines : goal.returns-clause-lines
returns-clause-lines g c =
    let job = c.args.job.now in
    let both = c.in_ok-of_entries in
    let first = IfOk-at_ok (λ lines. Reports [] lines (IsLineOf job entries)) both.ensures.0 c.join-there.ensures.first in
    let second = IfOk-at_ok (λ routed. AreTransactionsOf job routed.0.items × IsSoundFor job routed.0.items × IsFewest job routed.0.items × Reports [] routed.1 (IsLineOf job routes)) both.ensures.1 c.join-there.ensures.second in
    λ q. lines_apart job q c.args.lines.now both.of_entries both.of_routes c.append-2.new.self (c.in_ok-append-2.ensures.ok q ∙ ap (λ b. b || has_text both.of_routes q) (c.in_ok-append.ensures.ok q)) (first q) (second.3 q)
