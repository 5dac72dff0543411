use Rattle.std.proofs.Common.{◌≡◌, ℕ, ◌++◌, List, map, sym, ap, ◌∙◌, subst, arith}
use Rattle.std.specs.Prelude.{Contains}
use Rattle.std.proofs.lemmas.Bool.{both_ways, eq-eqb}
use Rattle.std.proofs.lemmas.List.{append-nil}
use Rattle.std.proofs.lemmas.Option.{same_Some}
use Rattle.std.proofs.lemmas.Result.{on_ok_weaker}
use Rattle.relay_aliasfile.specs.declared.places.ItemPlace.{ItemPlace}
use Rattle.relay_aliasfile.specs.ItemPlaces.{place_value}
use Rattle.relay_tables.specs.Graphs.{child_numbers}
use Rattle.relay_explain.specs.declared.listed.Listed.{Listed}
use Rattle.aliasplan_explain.specs.Rows.{listed_in, row_of}
use Rattle.aliasplan_explain.proofs.UnreachedFacts.{entry_there, listed_by_row, listed_numbered, not_listed}
use Rattle.aliasplan_explain.proofs.unreached.add_listed.Goals as goal

pub returns-then-not-contains : goal.returns-then-not-contains
returns-then-not-contains c =
    let job = c.args.grounds.now.job.now in
    let g = c.args.grounds.now.basis.now.graph in
    let target = c.args.target in
    let none : Contains c.children.result.now target → ⊥ = λ h. both_ways _ (c.if-not-contains.ensures.cases h.0 target (omega arith) h.1) (eq-eqb _ _ h.2) in
    let other : Contains (child_numbers g c.args.from) target → ⊥ = subst (λ (cs : List ℕ). Contains cs target → ⊥) c.children.ensures none in
    λ node at at_from at_target.
    sym (ap (λ (ls : List Listed). c.args.listed.now.items ++ ls) (not_listed job g c.requires.made.graph c.args.from target at node at_from at_target other) ∙ append-nil c.args.listed.now.items)

pub returns : goal.returns
returns c =
    let job = c.args.grounds.now.job.now in
    let g = c.args.grounds.now.basis.now.graph in
    let row = c.deref.result.now in
    on_ok_weaker c.add_items.result (λ added node at at_from at_target.
    let entry = entry_there job g.nodes c.args.from at c.requires.entry at_from in
    let same : at ≡ c.node.result.now = same_Some at c.node.result.now (sym at_from ∙ c.node.ensures) in
    let are : map place_value row ≡ row_of job at = ap (λ (ps : List ItemPlace). map place_value ps) c.deref.ensures.value ∙ c.in_ok-row.ensures ∙ ap (row_of job) (sym same) in
    added at entry.0 at_from entry.1
    ∙ ap (λ (ls : List Listed). c.args.listed.now.items ++ ls)
    (listed_numbered job g c.requires.made.graph c.args.from c.args.target at node at_from at_target (map (listed_in entry.0) (map place_value row)) (listed_by_row job at entry.0 (map place_value row) entry.1 are))) c.add_items.ensures
