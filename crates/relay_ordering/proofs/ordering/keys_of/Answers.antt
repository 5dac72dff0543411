use Rattle.std.proofs.Common.{[], ◌∷◌, ◌++◌, map, ap, sym, ◌∙◌, subst, All}
use Rattle.std.proofs.lemmas.List.{map-append}
use Rattle.std.proofs.lemmas.List.Elements.{All-push}
use Rattle.relay_ordering.specs.Keys.{IsKeyed}
use Rattle.relay_ordering.proofs.ordering.keys_of.Goals as goal

pub loop-value-preserved : goal.loop-value-preserved
loop-value-preserved g c =
    let keys = c.loop-value.keys.items in
    let key = c.in_ok-keyed.field-0 in record {
      values = rw c.in_ok-push.ensures.items (map-append (λ k. k.value) keys (key ∷ []) ∙ ap (λ vs. vs ++ key.value ∷ []) c.loop-value.invariant.values ∙ ap (λ v. c.loop-value.yielded ++ v ∷ []) c.in_ok-keyed.ensures.value);
      keyed = rw c.in_ok-push.ensures.items (All-push (IsKeyed g.T.HasSender.sender_of) keys key c.loop-value.invariant.keyed c.in_ok-keyed.ensures.keyed);
    }
