use Rattle.std.proofs.Common.{◌≡◌, ◌∙◌, ap, subst, rules}
use Rattle.std.specs.Prelude.{IfOk}
use Rattle.std.proofs.lemmas.Fn.{always_returns_same}
use Rattle.std.proofs.lemmas.List.Sorted.{IsNonDecreasingBy-from_sort_by_key}
use Rattle.relay_routes.specs.Exchanges.{in_preference_order}
use Rattle.relay_routes.specs.Preferences.{exchanges_of}
use Rattle.relay_routes.proofs.Runs.{rising_from, order_kept}
use Rattle.relay_routes.proofs.preferences.hosts_in_order.Goals as goal

pub hosts_of_runs-requires : goal.hosts_of_runs-requires
hosts_of_runs-requires c =
    rw c.as_slice.ensures.value (rising_from c.sort_by_key.new.self.items (IsNonDecreasingBy-from_sort_by_key (λ r. r.now.preference) c.sort_by_key.new.self.items c.in_ok-sort_by_key.ensures.sorted (λ a r q k. search rules)))

pub returns : goal.returns
returns c =
    let kept =
    ap (λ rs. in_preference_order c.args.seed (exchanges_of rs)) c.as_slice.ensures.value
    ∙ order_kept c.args.exchangers.items c.sort_by_key.new.self.items c.args.seed c.in_ok-sort_by_key.ensures.permutation
    (c.in_ok-sort_by_key.ensures.stable (λ r. r.now.preference) (always_returns_same _ (λ a r. r ≡ a.0.now.now.preference) _ (λ a r f k. search rules))) in
    subst (λ hs. IfOk c.hosts_of_runs.result (λ hosts. hosts ≡ hs)) kept c.hosts_of_runs.ensures
