use Rattle.std.proofs.Common.{◌≡◌, refl, sym, ap, subst, arith, [], ◌∷◌, ◌++◌, ℕ, ◌∙◌, ◌+◌, Some, slice_get, length, Vec, Global}
use Rattle.std.proofs.lemmas.Option.{slice_get_read}
use Rattle.aliasplan_explain.proofs.EndingFacts.{AreIndicesBelow, one_more, no_more, all_indices}
use Rattle.aliasplan_explain.proofs.ending.indices_of.Goals as goal
use Rattle.aliasplan_explain.proofs.ending.indices_of.Goals.{then-has_address+in_ok-push, else-has_address}

pub loop-index-preserved : goal.loop-index-preserved
loop-index-preserved c =
    let transactions = c.args.transactions.now in
    let a = c.args.address.now in
    let n = c.loop-index.index in
    let t = c.index-transactions-index.result in
    let at : slice_get transactions n ≡ Some t = slice_get_read transactions (length transactions) n t refl c.loop-index-test.true c.index-transactions-index.is in
    elim c.if-has_address.branch [
      | then-has_address+in_ok-push w ↦
          let items : c.if-has_address.indices.items ≡ c.loop-index.indices.items ++ n ∷ [] = ap (λ (v : Vec ℕ Global). v.items) w.indices-is ∙ w.in_ok-push.ensures.items in
          subst (AreIndicesBelow transactions a (n + 1)) (sym items) (one_more transactions a n c.loop-index.indices.items t at (c.has_address.ensures.yes w.if-has_address.true) c.loop-index.invariant)
      | else-has_address w ↦
          let items : c.if-has_address.indices.items ≡ c.loop-index.indices.items = ap (λ (v : Vec ℕ Global). v.items) w.indices-is in
          subst (AreIndicesBelow transactions a (n + 1)) (sym items) (no_more transactions a n c.loop-index.indices.items t at (c.has_address.ensures.no w.if-has_address.false) c.loop-index.invariant)
    ]

pub returns : goal.returns
returns c = all_indices c.args.transactions.now c.args.address.now c.loop-index.index c.loop-index.indices.items (omega arith) c.loop-index.invariant
