use Rattle.std.proofs.Common.{◌≡◌, ◌<◌, ◌^◌, ◌∙◌, [], ◌∷◌, List, ℕ, length, Err, All, map, ap, sym, subst}
use Rattle.std.proofs.lemmas.Result.{err_from_is_err_and}
use Rattle.relay_rounds.specs.declared.fault.ReachFault.{ReachFault}
use Rattle.relay_pairs.specs.Pairs.{pair_at, keys_after, with_root, ArePairsFrom}
use Rattle.relay_rounds.specs.Closures.{IsClosureOf, HasMoreReached}
use Rattle.relay_pairs.proofs.Keyed.{pairs_are, pairs_in_graph, keys_below, more_pairs}
use Rattle.relay_pairs.proofs.Rooted.{closed_with}
use Rattle.relay_pairs.proofs.searching.Search.pairs_from.Goals as goal

pub returns-in_err-keys-clause-refused : goal.returns-in_err-keys-clause-refused
returns-in_err-keys-clause-refused g c = λ e.
    let graph = c.args.self.now.graph.now in
    let root = c.args.root in
    let p = err_from_is_err_and c.from_residual.result c.from_residual.ensures.1 in
    let given = sym p.1 ∙ e in
    let fault : c.in_err-keys.field-0.0 ≡ ReachFault.TooManyPairs = sym p.2 ∙ cc in
    more_pairs (with_root graph root) (closed_with graph root c.nodes.ensures.closed c.requires.root) c.args.limit (subst (λ (n : ℕ). HasMoreReached (keys_after graph) (n ∷ []) c.args.limit) c.from.ensures (c.in_err-keys.ensures.refused (ap (λ (x : ReachFault). Err x) fault)))

pub pairs_of-requires : goal.pairs_of-requires
pairs_of-requires g c =
    let graph = c.args.self.now.graph.now in
    let root = c.args.root in
    let keys = c.in_ok-keys.keys.items in
    let all = subst (λ (n : ℕ). IsClosureOf (keys_after graph) (n ∷ []) keys) c.from.ensures c.in_ok-keys.ensures.closure in
    subst (λ (ks : List ℕ). All (λ key. key < 2 ^ 56) ks) (sym c.deref.ensures.value) (keys_below (with_root graph root) (closed_with graph root c.nodes.ensures.closed c.requires.root) keys all)

pub returns-clause-pairs : goal.returns-clause-pairs
returns-clause-pairs g c =
    let graph = c.args.self.now.graph.now in
    let root = c.args.root in
    let keys = c.in_ok-keys.keys.items in
    let all = subst (λ (n : ℕ). IsClosureOf (keys_after graph) (n ∷ []) keys) c.from.ensures c.in_ok-keys.ensures.closure in
    let e = c.in_ok-pairs.ensures ∙ ap (map pair_at) c.deref.ensures.value in
    subst (ArePairsFrom graph root) (sym e) (pairs_are (with_root graph root) (closed_with graph root c.nodes.ensures.closed c.requires.root) keys all)

pub returns-clause-in_graph : goal.returns-clause-in_graph
returns-clause-in_graph g c =
    let graph = c.args.self.now.graph.now in
    let root = c.args.root in
    let keys = c.in_ok-keys.keys.items in
    let all = subst (λ (n : ℕ). IsClosureOf (keys_after graph) (n ∷ []) keys) c.from.ensures c.in_ok-keys.ensures.closure in
    let e = c.in_ok-pairs.ensures ∙ ap (map pair_at) c.deref.ensures.value in
    subst (All (λ p. (p.sender < length graph.senders) × (p.node < length graph.nodes))) (sym e) (pairs_in_graph (with_root graph root) (closed_with graph root c.nodes.ensures.closed c.requires.root) keys all)
