use Rattle.std.proofs.Common.{◌≡◌, ◌∙◌, ◌<◌, All, List, ℕ, length, sym, subst, arith}
use Rattle.relay_rounds.specs.Closures.{IsClosureOf}
use Rattle.relay_loops.specs.Places.{near_numbers, open_keys}
use Rattle.relay_loops.proofs.Closing.{all_within, none_refused, known_ok}
use Rattle.relay_loops.proofs.spreading.reach_open.Goals as goal

pub reach-requires-clause-roots : goal.reach-requires-clause-roots
reach-requires-clause-roots g c κs within =
    let roots : c.deref.result.now ≡ c.args.nodes.now = c.deref.ensures.value ∙ c.in_ok-roots.ensures in
    subst (λ (l : List ℕ). All (λ n. n < length c.args.places.now) l) (sym roots) (all_within c.args.places.now c.args.nodes.now c.requires.within)

pub known-requires : goal.known-requires
known-requires g c = λ e.
    let roots : c.deref.result.now ≡ c.args.nodes.now = c.deref.ensures.value ∙ c.in_ok-roots.ensures in
    let below : All (λ n. n < length c.args.places.now) c.deref.result.now = subst (λ (l : List ℕ). All (λ n. n < length c.args.places.now) l) (sym roots) (all_within c.args.places.now c.args.nodes.now c.requires.within) in
    none_refused c.args.graph.now c.args.direction c.args.places.now c.deref.result.now below _ (omega (arith, c.requires.places.numbers)) (c.reach.ensures.refused e)

pub returns : goal.returns
returns g c =
    let roots : c.deref.result.now ≡ c.args.nodes.now = c.deref.ensures.value ∙ c.in_ok-roots.ensures in
    let steps : ℕ → List ℕ = λ key. open_keys c.args.direction c.args.places.now key (near_numbers c.args.graph.now c.args.direction key) in
    rw (sym roots) (known_ok c.reach.result c.known.result (λ keys. IsClosureOf steps c.deref.result.now keys.items) c.known.ensures c.reach.ensures.closure)
