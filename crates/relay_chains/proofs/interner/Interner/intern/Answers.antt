use Rattle.std.proofs.Common.{rules, ◌≡◌, None, ◌++◌, length, sym, ◌∙◌, arith}
use Rattle.std.specs.Str.{bytes_eq}
use Rattle.std.proofs.lemmas.List.{length-map}
use Rattle.relay_chains.specs.Interner.{texts_from}
use Rattle.relay_chains.specs.Keys.{number_of}
use Rattle.relay_chains.specs.TextHash.{text_hash}
use Rattle.relay_chains.proofs.Interned.{texts-pushed, interned-push}
use Rattle.relay_chains.proofs.Texts.{length-texts}
use Rattle.relay_chains.proofs.Places.{inserts-new, inserts-full}
use Rattle.relay_chains.proofs.interner.Interner.intern.Goals as goal

pub push-requires : goal.push-requires
push-requires c =
    let texts = texts_from c.self.inside.bytes.items 0 c.self.inside.ends.items in
    let count : length c.self.inside.links ≡ length texts = rw c.self.invariant.hashed (length-map texts (text_hash c.self.inside.key)) in
    omega (arith, count, length-texts c.self.inside.bytes.items 0 c.self.inside.ends.items, c.self.invariant.within, c.self.invariant.small, c.len-number.ensures, c.if-number-self.false)

pub returns-then-number-self-clause-inserts : goal.returns-then-number-self-clause-inserts
returns-then-number-self-clause-inserts c =
    let texts = texts_from c.self.inside.bytes.items 0 c.self.inside.ends.items in
    let new : number_of bytes_eq texts c.args.text.now ≡ None = search rules in
    let full : length texts ≡ c.self.inside.limit = omega (arith, length-texts c.self.inside.bytes.items 0 c.self.inside.ends.items, c.len-number.ensures, c.if-number-self.true) in
    rw (← c.self.view_is) (inserts-full bytes_eq texts c.self.inside.limit c.args.text.now new full)

pub invariant_of-self-2 : goal.invariant_of-self-2
invariant_of-self-2 c =
    let bytes = c.self.inside.bytes.items in
    let ends = c.self.inside.ends.items in
    let text = c.args.text.now in
    let new : number_of bytes_eq (texts_from bytes 0 ends) text ≡ None = search rules in
    let bytes_are : c.extend_from_slice.new.self.items ≡ bytes ++ text = c.in_ok-extend_from_slice.ensures.items in
    let end : c.len-end.result ≡ length (bytes ++ text) = search rules in
    let count : c.len-number.result ≡ length ends = search rules in
    let room : length ends ≡ c.self.inside.limit → ⊥ = λ full. c.if-number-self.false (count ∙ full) in
    rw (c.in-Ok.ensures.ok, bytes_are, c.push_reserved.ensures.items, c.reserve.ensures.items, c.hash_text-hash.ensures)
    (interned-push c.self.inside.links bytes ends c.self.inside.key c.self.inside.limit c.len-end.result text c.self.invariant end new room)

pub returns-clause-inserts : goal.returns-clause-inserts
returns-clause-inserts c =
    let bytes = c.self.inside.bytes.items in
    let ends = c.self.inside.ends.items in
    let text = c.args.text.now in
    let new : number_of bytes_eq (texts_from bytes 0 ends) text ≡ None = search rules in
    let bytes_are : c.extend_from_slice.new.self.items ≡ bytes ++ text = c.in_ok-extend_from_slice.ensures.items in
    let end : c.len-end.result ≡ length (bytes ++ text) = search rules in
    let count : c.len-number.result ≡ length ends = search rules in
    let number : c.len-number.result ≡ length (texts_from bytes 0 ends) = count ∙ sym (length-texts bytes 0 ends) in
    rw (← c.self.view_is, bytes_are, c.push_reserved.ensures.items, c.reserve.ensures.items)
    (inserts-new bytes_eq (texts_from bytes 0 ends) c.self.inside.limit text c.len-number.result _ new number c.if-number-self.false
    (texts-pushed c.self.inside.links bytes ends c.self.inside.key c.self.inside.limit c.len-end.result text c.self.invariant end))

-- a new text is put where there are fewer than the limit

pub returns-in_err-reserve-clause-memory_within : goal.returns-in_err-reserve-clause-memory_within
returns-in_err-reserve-clause-memory_within c = λ _. rw (← c.self.view_is) (omega (arith, length-texts c.self.inside.bytes.items 0 c.self.inside.ends.items, c.self.invariant.within, c.len-number.ensures, c.if-number-self.false))

pub returns-in_err-extend_from_slice-clause-memory_within : goal.returns-in_err-extend_from_slice-clause-memory_within
returns-in_err-extend_from_slice-clause-memory_within c = λ _. rw (← c.self.view_is) (omega (arith, length-texts c.self.inside.bytes.items 0 c.self.inside.ends.items, c.self.invariant.within, c.len-number.ensures, c.if-number-self.false))

pub returns-in_default-push-clause-memory_within : goal.returns-in_default-push-clause-memory_within
returns-in_default-push-clause-memory_within c = λ _. rw (← c.self.view_is) (omega (arith, length-texts c.self.inside.bytes.items 0 c.self.inside.ends.items, c.self.invariant.within, c.len-number.ensures, c.if-number-self.false))
