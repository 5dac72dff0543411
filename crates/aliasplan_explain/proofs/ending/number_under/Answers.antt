use Rattle.std.proofs.Common.{◌<◌, ℕ, refl, sym, ap, ◌∙◌, arith, length, get_or, slice_get, Bor, below_more}
use Rattle.std.specs.Prelude.{option_map}
use Rattle.std.proofs.lemmas.List.Elements.{Contains-get_or, at_from_Contains}
use Rattle.relay_text.specs.AddressParts.{AddressParts}
use Rattle.relay_wire.specs.declared.plan.Planned.{Planned}
use Rattle.aliasplan_explain.proofs.EndingFacts.{sender_read, sender_back}
use Rattle.aliasplan_explain.proofs.ending.number_under.Goals as goal

pub offset_bounds-transactions-index : goal.offset_bounds-transactions-index
offset_bounds-transactions-index c =
    let indices = c.args.indices.now in
    let i = c.loop-index.index-index in
    let below : get_or indices i 0 < length c.args.transactions.now = c.requires (get_or indices i 0) (Contains-get_or indices i 0 c.loop-index-test.true) in
    omega arith

pub bounds-transactions-index : goal.bounds-transactions-index
bounds-transactions-index c =
    let indices = c.args.indices.now in
    let i = c.loop-index.index-index in
    c.requires (get_or indices i 0) (Contains-get_or indices i 0 c.loop-index-test.true)

pub overflow_add-result : goal.overflow_add-result
overflow_add-result c =
    let indices = c.args.indices.now in
    let i = c.loop-index.index-index in
    let below : get_or indices i 0 < length c.args.transactions.now = c.requires (get_or indices i 0) (Contains-get_or indices i 0 c.loop-index-test.true) in
    omega arith

pub returns-then-is_same_sender-clause-some : goal.returns-then-is_same_sender-clause-some
returns-then-is_same_sender-clause-some c =
    let indices = c.args.indices.now in
    let i = c.loop-index.index-index in
    let t = c.index-transactions-index.result in
    let there = Contains-get_or indices i 0 c.loop-index-test.true in
    let same = c.is_same_sender.ensures.yes c.if-is_same_sender.true in
    let from = ap (λ (p : Planned). p.from) c.index-transactions-index.is ∙ sym c.as_ref.ensures.value ∙ same in
    (get_or indices i 0, there, refl, sender_read c.args.transactions.now (get_or indices i 0) t (option_map (λ (a : Bor AddressParts). a.now) c.args.sender) (c.requires (get_or indices i 0) there) c.index-transactions-index.is from)

pub loop-index-preserved : goal.loop-index-preserved
loop-index-preserved c =
    let indices = c.args.indices.now in
    let i = c.loop-index.index-index in
    let t = c.index-transactions-index.result in
    let there = Contains-get_or indices i 0 c.loop-index-test.true in
    let other = c.is_same_sender.ensures.no c.if-is_same_sender.false in
    below_more _ _ c.loop-index.invariant (λ e.
    let from = sender_back c.args.transactions.now (get_or indices i 0) t (option_map (λ (a : Bor AddressParts). a.now) c.args.sender) (c.requires (get_or indices i 0) there) c.index-transactions-index.is e in
    other (c.as_ref.ensures.value ∙ sym (ap (λ (p : Planned). p.from) c.index-transactions-index.is) ∙ from))

pub returns-clause-none : goal.returns-clause-none
returns-clause-none c = λ none index there from.
    let place = at_from_Contains c.args.indices.now index there in
    c.loop-index.invariant place.0 (omega (arith, place.1)) (ap (λ (k : ℕ). option_map (λ (t : Planned). t.from) (slice_get c.args.transactions.now k)) (place.2 0) ∙ from)
