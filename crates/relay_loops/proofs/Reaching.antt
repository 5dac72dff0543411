-- Keys that are reached from below a bound, by steps that stay below it, are no more than the bound.
use Rattle.std.proofs.Common.{ℕ, ◌<◌, List, get_or, All, Contains, arith}
use Rattle.std.proofs.lemmas.List.Elements.{All-contains}
use Rattle.std.proofs.lemmas.Map.Keys.{sorted_from_strictly_increasing}
use Rattle.std.proofs.lemmas.Map.Views.{length-le_from_below}
use Rattle.relay_rounds.specs.Closures.{IsReachedKey, HasMoreReached}
use Rattle.relay_loops.specs.Judging.{Leads}
use Rattle.relay_loops.proofs.Walking.{leads_keeps}

module _ (next : ℕ → List ℕ) (roots : List ℕ) (bound : ℕ) (stays : (key : ℕ) → key < bound → All (λ n. n < bound) (next key)) (below : All (λ n. n < bound) roots) where
  pub reached_below : (key : ℕ) → IsReachedKey next roots key → key < bound
  reached_below key r =
      let way : Leads (λ a b. Contains (next a) b) r.0 key = record { path = r.1; walk = r.3 } in
      leads_keeps (λ a b. Contains (next a) b) (λ n. n < bound) (λ a b step h. All-contains (λ n. n < bound) (next a) b (stays a h) step) r.0 key way
      (All-contains (λ n. n < bound) roots r.0 below r.2)

  pub few_reached : (n : ℕ) → HasMoreReached next roots n → n < bound
  few_reached n h =
      let few = length-le_from_below bound h.keys (sorted_from_strictly_increasing h.keys h.distinct) (λ k d inside. reached_below (get_or h.keys k d) (h.reached k d inside)) in
      omega (arith, h.more, few)
