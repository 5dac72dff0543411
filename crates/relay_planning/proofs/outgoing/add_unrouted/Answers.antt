use Rattle.std.proofs.Common.{sym}
use Rattle.std.specs.Str.{bytes_eq}
use Rattle.std.proofs.lemmas.Result.{on_ok_weaker}
use Rattle.relay_text.specs.Bytes.{has_text}
use Rattle.relay_wire.specs.declared.finding.Finding.TheVariants.{Unrouted}
use Rattle.relay_wire.specs.Findings.{finding_text_of}
use Rattle.relay_planning.specs.Findings.{ReportsWhere}
use Rattle.relay_planning.proofs.RouteLines.{unrouted_added}
use Rattle.relay_planning.proofs.outgoing.add_unrouted.Goals as goal

pub returns : goal.returns
returns g c = record {
  lines =
      on_ok_weaker {P = ReportsWhere c.args.lines.now c.add.new.self (λ q. bytes_eq q (finding_text_of (Unrouted c.in_ok-address.address c.in_ok-reason.reason)))} c.add.result
      (λ h q. unrouted_added c.args.unrouted.now c.in_ok-reason.reason c.in_ok-address.address c.args.address.now q (has_text c.args.lines.now q) (has_text c.add.new.self q)
      c.in_ok-address.ensures.same (sym c.in_ok-reason.ensures) (h q))
      c.add.ensures.ok;
}
