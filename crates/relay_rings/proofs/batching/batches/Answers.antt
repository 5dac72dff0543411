use Rattle.std.proofs.Common.{◌<◌, ◌≤◌, ℕ, List, length, map, sym, ap, ◌∙◌, subst}
use Rattle.std.specs.List.{All, flat_map}
use Rattle.std.proofs.lemmas.List.{length-map}
use Rattle.std.proofs.lemmas.Result.{IfOk-weaker}
use Rattle.relay_rings.specs.Batches.{items_at, batches_at}
use Rattle.relay_rings.specs.Sound.{IsSoundFor}
use Rattle.relay_rings.specs.declared.batching.Transaction.{Transaction}
use Rattle.relay_rings.proofs.GroupLemmas.{keys_within}
use Rattle.relay_rings.proofs.SoundLemmas.{batches_sound, batches_fewest}
use Rattle.relay_rings.proofs.batching.batches.Goals as goal

pub cut_rings-requires-clause-keys : goal.cut_rings-requires-clause-keys
cut_rings-requires-clause-keys c =
    let n = length c.args.limits.now in
    subst (λ (ks : List ℕ). All (λ (k : ℕ). k < n) ks) (sym (c.as_slice-2.ensures.value ∙ c.in_ok-keys.ensures)) (keys_within c.args.placed.now n c.requires.keys)

pub cut_rings-requires-clause-rings : goal.cut_rings-requires-clause-rings
cut_rings-requires-clause-rings c =
    let lists = items_at c.args.placed.now in
    ap length c.in_ok-rings.ensures ∙ length-map c.as_slice.result.now lists ∙ ap length (c.as_slice.ensures.value ∙ sym c.as_slice-2.ensures.value)

pub returns : goal.returns
returns c =
    let limits = c.args.limits.now in
    let placed = c.args.placed.now in
    let keys = c.as_slice-2.ensures.value ∙ c.in_ok-keys.ensures in
    let held = c.in_ok-rings.ensures ∙ ap (map (items_at placed)) (c.as_slice.ensures.value ∙ sym c.as_slice-2.ensures.value) in
    let made = ap (flat_map (batches_at limits placed)) keys in
    record {
      batches = IfOk-weaker c.cut_rings.result _ _ (λ ts cut. cut placed held ∙ made) c.cut_rings.ensures;
      sound = IfOk-weaker c.cut_rings.result _ _ (λ ts cut. subst (λ (us : List Transaction). IsSoundFor limits placed us) (sym (cut placed held ∙ made)) (batches_sound limits placed c.requires.keys c.requires.limits)) c.cut_rings.ensures;
      fewest = IfOk-weaker c.cut_rings.result _ _ (λ ts cut other sound. subst (λ (us : List Transaction). length us ≤ length other) (sym (cut placed held ∙ made)) (batches_fewest limits placed c.requires.ascending other sound c.requires.keys c.requires.limits)) c.cut_rings.ensures;
    }
