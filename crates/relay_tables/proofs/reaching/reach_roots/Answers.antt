use Rattle.std.proofs.Common.{◌≡◌, ℕ, [], Vec, Global, ap, sym, ◌∙◌, subst}
use Rattle.std.proofs.lemmas.Result.{err_from_is_err_and}
use Rattle.relay_tables.specs.Reaches.{AreFound}
use Rattle.relay_tables.specs.Numbering.{Numbered}
use Rattle.relay_tables.specs.Rowing.{nodes_in}
use Rattle.relay_tables.proofs.Found.{found_none, found_too_many, reach_start, roots_within}
use Rattle.relay_tables.proofs.RowSteps.{same_fault}
use Rattle.relay_tables.proofs.reaching.reach_roots.Goals as goal

pub returns-in_err-roots-clause-full : goal.returns-in_err-roots-clause-full
returns-in_err-roots-clause-full c =
    let d = c.args.tables.now in
    let rs = c.args.recipients.now in
    let s : Numbered = c.in_ok-numbering.numbering in
    let none : s.nodes ≡ [] = ap (λ (m : Numbered). m.nodes) c.in_ok-numbering.ensures.made in
    let start : AreFound d rs s.nodes = subst (AreFound d rs) (sym none) (found_none d rs) in
    let p = err_from_is_err_and c.from_residual-in_err-roots.result c.from_residual-in_err-roots.ensures.1 in
    rw (p.1, p.2) (λ e. found_too_many d rs (Vec ℕ Global) c.in_err-roots.field-0.0 c.args.names s c.number_recipients.new.names _ start (roots_within d rs)
    (ap (λ (m : Numbered). m.limit) c.in_ok-numbering.ensures.made) c.in_err-roots.ensures.numbers (same_fault _ _ e))

pub returns-clause-reach : goal.returns-clause-reach
returns-clause-reach c =
    let d = c.args.tables.now in
    let rs = c.args.recipients.now in
    let s : Numbered = c.in_ok-numbering.numbering in
    let none : s.nodes ≡ [] = ap (λ (m : Numbered). m.nodes) c.in_ok-numbering.ensures.made in
    reach_start d _ rs _ s none (c.numbering.view_is ∙ c.in_ok-roots.ensures.numbers) (ap (λ (m : Numbered). nodes_in m.nodes c.in_ok-roots.roots.items) c.numbering.view_is ∙ c.in_ok-roots.ensures.roots) c.in_ok-with_capacity.ensures c.in_ok-new.ensures c.new-owners.ensures.items
