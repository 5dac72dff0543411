use Rattle.std.proofs.Common.{◌⊎◌, ℕ, List, take}
use Rattle.std.specs.Prelude.{◌↔◌, IsTrue}
use Rattle.relay_text.specs.Bytes.{has_text}
use Rattle.relay_planning.proofs.OutgoingFacts.{Some_has}
use Rattle.aliasplan.proofs.ReturnSteps.{IsLineOfText}
use Rattle.aliasplan.proofs.return_lines.add_lines.Given as goal

abbrev pub invariant-loop-finding : goal.invariant-loop-finding
invariant-loop-finding l = (q : List ℕ) → IsTrue (has_text l.lines q) ↔ (IsTrue (has_text l.initial.lines q) ⊎ Some_has (IsLineOfText l.recipient q) (take l.finding-index l.findings))
