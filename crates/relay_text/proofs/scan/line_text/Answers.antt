use Rattle.std.proofs.Common.{◌≡◌, List, ℕ, Bor, sym, ◌∙◌, ap}
use Rattle.std.specs.List.{before_first}
use Rattle.relay_text.specs.Lines.{without_cr}
use Rattle.relay_text.proofs.Scans.{is_line_feed, before_first-found, before_first-missing}
use Rattle.relay_text.proofs.scan.line_text.Goals as goal
use Rattle.relay_text.proofs.scan.line_text.Goals.{in-Some, in-None}

pub returns : goal.returns
returns c =
    let line_is : c.match-find_byte.line.now ≡ before_first is_line_feed c.args.raw.now = elim c.match-find_byte.branch [
      | in-Some w ↦ ap (λ (b : Bor (List ℕ)). b.now) w.line-is ∙ sym (before_first-found c.args.raw.now w.in-Some.end w.in-Some.ensures)
      | in-None w ↦ ap (λ (b : Bor (List ℕ)). b.now) w.line-is ∙ sym (before_first-missing c.args.raw.now w.in-None.ensures)
    ] in
    c.without_cr.ensures ∙ ap without_cr line_is
