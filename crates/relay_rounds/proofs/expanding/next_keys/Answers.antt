use Rattle.std.proofs.Common.{◌≡◌, ℕ, ◌<◌, List, length, map, max, sym, ap, ◌∙◌, subst, arith, Bor}
use Rattle.std.specs.Prelude.{All, flat_map}
use Rattle.std.proofs.Crossing.{crosses}
use denote.Param.Send.{sendable}
use Rattle.rayon.specs.Lists.{chunks_of}
use Rattle.rayon.proofs.ToStd.{chunks_of-concat}
use Rattle.relay_rounds.proofs.ShareKeys.{each_share, shares_together}
use Rattle.relay_rounds.proofs.expanding.next_keys.Goals as goal

pub collect-requires-clause-ready : goal.collect-requires-clause-ready
collect-requires-clause-ready g c κs within =
    let P : ℕ → Type 0 = λ key. key < g.S.Steps.key_bound c.args.steps.now in
    let some : 0 < max c.share_len.result 1 = omega arith in
    let inside = each_share P c.args.keys.now (max c.share_len.result 1) some c.requires in
    rw (c.map.ensures.base, c.map.ensures.f, c.par_chunks.ensures.slice, c.par_chunks.ensures.size)
    (λ k d lt x is. ((subst (λ (share : List ℕ). All P share) (sym is) (inside k d lt), search (sendable, crosses) depth 40), λ y p. tt))

pub returns : goal.returns
returns g c =
    let next = g.S.Steps.next_keys c.args.steps.now in
    let keys = c.args.keys.now in
    let size = max c.share_len.result 1 in
    let some : 0 < size = omega arith in
    let collected = c.in_ok-collect.ensures in
    let chain = rw (c.map.ensures.base, c.map.ensures.f) at collected.1 in
    let told = rw c.in_ok-parts.was at collected.2 in
    let each = rw told.1 at chain.2 in
    let shown : map (λ (share : Bor (List ℕ)). share.now) chain.0 ≡ chunks_of size keys = chain.1 ∙ (λ i. chunks_of (max (c.par_chunks.ensures.size i) 1) (c.par_chunks.ensures.slice i)) in
    let all : flat_map (λ part. part.items) c.in_ok-parts.parts.items ≡ flat_map next keys =
    ap (λ parts. flat_map (λ part. part.items) parts) told.2 ∙ shares_together _ (λ part. part.items) next chain.0 told.0 each
    ∙ ap (λ (shares : List (List ℕ)). flat_map next (flat_map (λ (l : List ℕ). l) shares)) shown ∙ ap (λ (ks : List ℕ). flat_map next ks) (chunks_of-concat size keys some) in
    rw (sym all, sym c.as_slice.ensures.value) c.append_all.ensures
