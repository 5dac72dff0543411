use Rattle.std.proofs.Common.{◌≡◌, ◌++◌, [], ◌∷◌, ap, ◌∙◌, List, ℕ}
use Rattle.aliasplan_explain.proofs.StretchFacts.{lines_are}
use Rattle.aliasplan_explain.proofs.lines.step_lines.Goals as goal

pub returns : goal.returns
returns g c = λ given past.
    let first = c.in_ok-first_line.field-0 in
    let more = c.in_ok-more.more.items in
    let texts : c.append.new.self.items ≡ first ∷ more =
    c.in_ok-append.ensures.items ∙ ap (λ (l : List (List ℕ)). l ++ more) (c.in_ok-push.ensures.items ∙ ap (λ (l : List (List ℕ)). l ++ first ∷ []) c.new-lines.ensures.items) in
    lines_are c.args.grounds.now.job.now c.args.grounds.now.basis.now.graph c.requires.made.graph c.args.grounds.now.recipient_lines.now c.args.grounds.now.recipients c.args.found.now c.requires.nodes first c.in_ok-first_line.ensures more c.in_ok-more.ensures given past c.append.new.self.items texts
