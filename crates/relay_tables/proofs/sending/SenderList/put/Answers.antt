use Rattle.std.proofs.Common.{rules, arith, ◌≡◌, ℕ, Some, None, List, [], ◌∷◌, ◌++◌, ap, sym, ◌∙◌}
use Rattle.std.specs.Str.{bytes_eq}
use Rattle.relay_chains.specs.Keys.{number_of}
use Rattle.relay_tables.specs.Sending.{sender_key}
use Rattle.relay_tables.proofs.Numbers.{last_is}
use Rattle.relay_tables.proofs.SenderSteps.{interned, sender_found, sender_new}
use Rattle.relay_tables.proofs.sending.SenderList.put.Goals as goal

pub returns-in-Some-clause-number : goal.returns-in-Some-clause-number
returns-in-Some-clause-number c =
    let i = c.self.inside in
    let s = c.args.sender in
    let text : c.deref.result.now ≡ sender_key s = c.deref.ensures.value ∙ c.in-Ok.ensures in
    let there : number_of bytes_eq i.texts.keys (sender_key s) ≡ Some c.in-Some.number = ap (λ (t : List ℕ). number_of bytes_eq i.texts.keys t) (sym text) ∙ sym c.in-Some.ensures in
    sender_found i.senders.items i.texts.keys s c.in-Some.number c.self.invariant there

pub invariant_of-self-2 : goal.invariant_of-self-2
invariant_of-self-2 c =
    let i = c.self.inside in
    let s = c.args.sender in
    let text : c.deref.result.now ≡ sender_key s = c.deref.ensures.value ∙ c.in-Ok.ensures in
    let again : c.deref-2.result.now ≡ sender_key s = c.deref-2.ensures.value ∙ c.in-Ok.ensures in
    let gone : number_of bytes_eq i.texts.keys c.deref.result.now ≡ None = search rules in
    let same : c.deref-2.result.now ≡ c.deref.result.now = again ∙ sym text in
    let none : number_of bytes_eq i.texts.keys c.deref-2.result.now ≡ None = ap (λ (t : List ℕ). number_of bytes_eq i.texts.keys t) same ∙ gone in
    let keys : c.intern.new.self.keys ≡ i.texts.keys ++ sender_key s ∷ [] =
    interned i.texts.keys i.texts.limit c.deref-2.result.now c.intern.result c.intern.new.self.keys none (sym c.is_err.ensures.value ∙ c.if-is_err.false) c.intern.ensures.inserts
    ∙ ap (λ (t : List ℕ). i.texts.keys ++ t ∷ []) again in
    rw (c.push_reserved.ensures.items, c.reserve.ensures.items, keys)
    (sender_new i.senders.items i.texts.keys s c.self.invariant (ap (λ (t : List ℕ). number_of bytes_eq i.texts.keys t) (sym text) ∙ gone))

pub returns-clause-number : goal.returns-clause-number
returns-clause-number c =
    let i = c.self.inside in
    rw (c.push_reserved.ensures.items, c.reserve.ensures.items)
    (last_is i.senders.items c.args.sender c.len-number.result (omega (arith, i.senders.ok.0)))
