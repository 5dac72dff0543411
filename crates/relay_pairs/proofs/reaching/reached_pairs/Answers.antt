use Rattle.std.proofs.Common.{◌≡◌, ◌<◌, ◌^◌, ◌∙◌, List, ℕ, length, Err, All, map, ap, sym, subst}
use Rattle.std.proofs.lemmas.Result.{err_from_is_err_and}
use Rattle.relay_rounds.specs.declared.fault.ReachFault.{ReachFault}
use Rattle.relay_rounds.specs.Closures.{IsClosureOf, HasMoreReached}
use Rattle.relay_pairs.specs.Pairs.{pair_at, keys_after, ArePairs}
use Rattle.relay_pairs.proofs.Keyed.{pairs_are, pairs_in_graph, keys_below, more_pairs}
use Rattle.relay_pairs.proofs.reaching.reached_pairs.Goals as goal

pub returns-in_err-keys-clause-refused : goal.returns-in_err-keys-clause-refused
returns-in_err-keys-clause-refused g c = λ e.
    let graph = c.args.graph.now in
    let p = err_from_is_err_and c.from_residual-in_err-keys.result c.from_residual-in_err-keys.ensures.1 in
    let given = sym p.1 ∙ e in
    let fault : c.in_err-keys.field-0.0 ≡ ReachFault.TooManyPairs = sym p.2 ∙ cc in
    let more = c.in_err-keys.ensures.refused (ap (λ (x : ReachFault). Err x) fault) in
    let roots = c.deref.ensures.value ∙ c.in_ok-roots.ensures in
    more_pairs graph c.nodes.ensures.closed c.args.limit (subst (λ (rs : List ℕ). HasMoreReached (keys_after graph) rs c.args.limit) roots more)

pub pairs_of-requires : goal.pairs_of-requires
pairs_of-requires g c =
    let graph = c.args.graph.now in
    let roots = c.deref.ensures.value ∙ c.in_ok-roots.ensures in
    let all = subst (λ (rs : List ℕ). IsClosureOf (keys_after graph) rs c.in_ok-keys.keys.items) roots c.in_ok-keys.ensures.closure in
    subst (λ (ks : List ℕ). All (λ key. key < 2 ^ 56) ks) (sym c.deref-2.ensures.value) (keys_below graph c.nodes.ensures.closed c.in_ok-keys.keys.items all)

pub returns-clause-pairs : goal.returns-clause-pairs
returns-clause-pairs g c =
    let graph = c.args.graph.now in
    let roots = c.deref.ensures.value ∙ c.in_ok-roots.ensures in
    let all = subst (λ (rs : List ℕ). IsClosureOf (keys_after graph) rs c.in_ok-keys.keys.items) roots c.in_ok-keys.ensures.closure in
    let e = c.in_ok-pairs.ensures ∙ ap (map pair_at) c.deref-2.ensures.value in
    subst (ArePairs graph) (sym e) (pairs_are graph c.nodes.ensures.closed c.in_ok-keys.keys.items all)

pub returns-clause-in_graph : goal.returns-clause-in_graph
returns-clause-in_graph g c =
    let graph = c.args.graph.now in
    let roots = c.deref.ensures.value ∙ c.in_ok-roots.ensures in
    let all = subst (λ (rs : List ℕ). IsClosureOf (keys_after graph) rs c.in_ok-keys.keys.items) roots c.in_ok-keys.ensures.closure in
    let e = c.in_ok-pairs.ensures ∙ ap (map pair_at) c.deref-2.ensures.value in
    subst (All (λ p. (p.sender < length graph.senders) × (p.node < length graph.nodes))) (sym e) (pairs_in_graph graph c.nodes.ensures.closed c.in_ok-keys.keys.items all)
