use Rattle.std.proofs.Common.{ℕ, ◌-◌, Vec, Global, length, sym, ap, ◌∙◌}
use Rattle.std.specs.List.{slice_get}
use Rattle.std.proofs.lemmas.List.{take_all}
use Rattle.relay_rings.specs.Batches.{keys_of}
use Rattle.relay_rings.proofs.DestLemmas.{keys_stay, keys_grow}
use Rattle.relay_rings.proofs.batching.distinct_keys.Goals as goal
use Rattle.relay_rings.proofs.batching.distinct_keys.Goals.{then-ne+in_ok-push, else-ne}

pub loop-p-preserved : goal.loop-p-preserved
loop-p-preserved c =
    let l = c.loop-p in
    let last = c.copied.ensures ∙ c.last.ensures.value ∙ ap (λ ks. slice_get ks (length ks - 1)) c.deref.ensures.value in
    elim c.if-ne.branch [
      | then-ne+in_ok-push w ↦
          ap (λ (v : Vec ℕ Global). v.items) w.keys-is
          ∙ w.in_ok-push.ensures.items
          ∙ keys_grow c.args.placed.now l.p-index _ c.loop-p-test.true l.keys.items c.copied.result l.invariant last (sym c.ne.ensures ∙ w.if-ne.true)
      | else-ne w ↦
          ap (λ (v : Vec ℕ Global). v.items) w.keys-is
          ∙ keys_stay c.args.placed.now l.p-index _ c.loop-p-test.true l.keys.items c.copied.result l.invariant last (sym c.ne.ensures ∙ w.if-ne.false)
    ]

pub returns : goal.returns
returns c = c.loop-p.invariant ∙ ap keys_of (take_all c.loop-p.p-index c.args.placed.now c.loop-p-test.false)
