use Rattle.std.proofs.Common.{◌≡◌, List, sym, ◌∙◌, subst}
use Rattle.std.specs.Prelude.{◌↔◌, Contains}
use Rattle.relay_text.specs.TextSets.{IsAscendingBy}
use Rattle.relay_ordering.specs.Keys.{sender_cmp}
use Rattle.relay_ordering.proofs.Ordered.{members, ascending}
use Rattle.relay_ordering.proofs.ordering.in_order.Goals as goal

pub returns-clause-members : goal.returns-clause-members
returns-clause-members g c =
    let keys = c.in_ok-keys.keys.items in
    let sorted = c.sort_unstable.new.self.items in
    let is = c.of.ensures ∙ c.in_ok-sorted.ensures in λ v.
    subst (λ (vs : List g.row.T.Denot). Contains vs v ↔ Contains c.args.values.items v) (sym is)
    (members g.row.T g.T.HasSender.sender_of c.one_spelling.ensures.one_address c.args.values.items keys sorted c.in_ok-keys.ensures.values c.in_ok-keys.ensures.keyed c.requires c.sort_unstable.ensures.permutation v)

pub returns-clause-ascending : goal.returns-clause-ascending
returns-clause-ascending g c =
    let keys = c.in_ok-keys.keys.items in
    let sorted = c.sort_unstable.new.self.items in
    let is = c.of.ensures ∙ c.in_ok-sorted.ensures in
    subst (IsAscendingBy (sender_cmp g.T.HasSender.sender_of)) (sym is)
    (ascending g.row.T g.T.HasSender.sender_of c.one_spelling.ensures.one_address c.args.values.items keys sorted c.in_ok-keys.ensures.values c.in_ok-keys.ensures.keyed c.requires c.sort_unstable.ensures.permutation c.sort_unstable.ensures.sorted)
