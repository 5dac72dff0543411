use Rattle.std.proofs.Common.{◌≡◌, ℕ, List, rules, sym, subst}
use Rattle.std.specs.Prelude.{sum}
use Rattle.relay_wire.specs.FindingLines.{lines_cut}
use Rattle.relay_wire.specs.SharedFronts.{AllBegin}
use Rattle.relay_wire.proofs.SharedFronts.{all_begin, parts_begin}
use Rattle.relay_wire.proofs.shared_front.+fronts.Goals as goal

pub returns-then-threads-lt2 : goal.returns-then-threads-lt2
returns-then-threads-lt2 g t c =
    let bytes = c.args.bytes.now in
    let lines = lines_cut c.args.lengths.now bytes in
    subst (λ (front : List ℕ). AllBegin front lines) (sym c.shared_front.ensures) (all_begin bytes lines)

pub returns : goal.returns
returns g t c =
    let bytes = c.args.bytes.now in
    let all = c.args.lengths.now in
    let total : c.sum.result ≡ sum c.split_at.result.0.now = search rules in
    subst (λ (front : List ℕ). AllBegin front (lines_cut all bytes)) (sym c.common_front.ensures)
    (parts_begin all _ _ bytes _ _ _ _ _ _ c.requires c.split_at.ensures.front c.split_at.ensures.back total c.split_at-2.ensures.front c.split_at-2.ensures.back c.join.ensures.second c.join.ensures.first)
