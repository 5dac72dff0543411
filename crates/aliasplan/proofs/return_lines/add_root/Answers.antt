use Rattle.std.proofs.Common.{◌⊎◌, ℕ, List, [], sym, subst}
use Rattle.std.specs.Prelude.{◌↔◌, IsTrue}
use Rattle.std.proofs.lemmas.Result.{on_ok_weaker}
use Rattle.relay_text.specs.Bytes.{has_text}
use Rattle.relay_wire.specs.declared.finding.Place.TheVariants as places
use Rattle.relay_planning.specs.Entries.{IsTargetLine}
use Rattle.relay_planning.specs.Findings.{Reports}
use Rattle.aliasplan.specs.ReturnLines.{AreFindings, IsLineFor}
use Rattle.aliasplan.proofs.ReturnSteps.{either_same, reported_first, root_findings, root_lines}
use Rattle.aliasplan.proofs.return_lines.add_root.Goals as goal

pub add_lines-requires : goal.add_lines-requires
add_lines-requires c =
    let g = c.args.graph.now in
    let second = c.report_target.new.lines in
    let begun : (q : List ℕ) → IsTrue (has_text second q) ↔ (IsTrue (has_text [] q) ⊎ IsTargetLine g places.Envelope c.args.root q) =
    λ q. subst (λ (ls : List (List ℕ)). IsTrue (has_text second q) ↔ (IsTrue (has_text ls q) ⊎ IsTargetLine g places.Envelope c.args.root q)) c.new-found.ensures (c.in_ok-report_target.ensures q) in
    let reported = reported_first second c.in_ok-found.found (IsTargetLine g places.Envelope c.args.root) begun c.in_ok-found.ensures.all in
    subst AreFindings (sym c.as_slice.ensures) (root_findings g c.args.root c.args.recipient.now c.in_ok-found.found reported)

pub returns : goal.returns
returns c =
    let g = c.args.graph.now in
    let recipient = c.args.recipient.now in
    let second = c.report_target.new.lines in
    let begun : (q : List ℕ) → IsTrue (has_text second q) ↔ (IsTrue (has_text [] q) ⊎ IsTargetLine g places.Envelope c.args.root q) =
    λ q. subst (λ (ls : List (List ℕ)). IsTrue (has_text second q) ↔ (IsTrue (has_text ls q) ⊎ IsTargetLine g places.Envelope c.args.root q)) c.new-found.ensures (c.in_ok-report_target.ensures q) in
    let reported = reported_first second c.in_ok-found.found (IsTargetLine g places.Envelope c.args.root) begun c.in_ok-found.ensures.all in
    on_ok_weaker {P = Reports c.args.lines.now c.add_lines.new.lines (IsLineFor c.as_slice.result.now recipient)} c.add_lines.result
    (λ h q. either_same _ _ _ _ (subst (λ (fs : List (List ℕ)). IsTrue (has_text c.add_lines.new.lines q) ↔ (IsTrue (has_text c.args.lines.now q) ⊎ IsLineFor fs recipient q)) c.as_slice.ensures (h q)) (root_lines g c.args.root recipient c.in_ok-found.found reported q))
    c.add_lines.ensures
