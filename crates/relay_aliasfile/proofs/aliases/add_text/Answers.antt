use Rattle.std.proofs.Common.{arith, ◌≡◌, ◌≤◌, ◌-◌, ◌^◌, ℕ, List, All, length, sym, ap, ◌∙◌, subst}
use Rattle.relay_text.specs.Lines.{logical_lines_of}
use Rattle.relay_text.specs.declared.lines.Lines.{Lines}
use Rattle.relay_halves.specs.Halves.{AreUpTo}
use Rattle.relay_halves.proofs.HalvedLines.{up_to-more}
use Rattle.relay_halves.proofs.HalvedLogicalLines.{up_to-orphans, up_to-logical_lines}
use Rattle.relay_aliasfile.proofs.aliases.add_text.Goals as goal

pub add_orphans-requires : goal.add_orphans-requires
add_orphans-requires g c =
    let most = length c.args.bytes.now in
    let these : c.orphans.result.now ≡ (logical_lines_of c.args.bytes.now).orphans = c.orphans.ensures ∙ ap (λ (lines : Lines). lines.orphans) c.in_ok-lines.ensures in
    let low = subst (λ (numbers : List ℕ). All (λ n. n ≤ most) numbers) (sym these) (up_to-orphans c.args.bytes.now) in
    λ k d within. omega (arith, low k d within, c.requires.numbers)

pub add_lines-requires-clause-numbers : goal.add_lines-requires-clause-numbers
add_lines-requires-clause-numbers g c =
    let most = length c.args.bytes.now in
    up_to-more most (2 ^ 64 - 1 - c.args.passed) c.in_ok-lines.lines.lines (omega (arith, c.requires.numbers)) (subst (λ (lines : Lines). AreUpTo (length c.args.bytes.now) lines.lines) (sym c.in_ok-lines.ensures) (up_to-logical_lines c.args.bytes.now))
