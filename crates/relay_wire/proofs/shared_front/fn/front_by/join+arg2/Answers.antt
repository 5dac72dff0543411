use Rattle.std.proofs.Common.{ℕ, List, sym, subst}
use Rattle.relay_wire.specs.FindingLines.{lines_cut}
use Rattle.relay_wire.specs.SharedFronts.{AllBegin}
use Rattle.relay_wire.proofs.SharedFronts.{all_begin}
use Rattle.relay_wire.proofs.shared_front.fn.front_by.join+arg2.Goals as goal

pub returns : goal.returns
returns c =
    let bytes = c.captures.last_bytes.now in
    let lines = lines_cut c.captures.last_lengths.now bytes in
    subst (λ (front : List ℕ). AllBegin front lines) (sym c.shared_front.ensures) (all_begin bytes lines)
