use Rattle.std.proofs.Common.{arith, ap, subst, sym, ◌∙◌}
use Rattle.std.specs.Bool.{IsTrue}
use Rattle.relay_text.specs.AddressParts.{AddressParts}
use Rattle.relay_text.specs.Addresses.{is_address, is_dot_string}
use Rattle.relay_text.specs.Bytes.{folded}
use Rattle.relay_text.specs.JoinedAddresses.{joined_text_of}
use Rattle.relay_text.specs.declared.address.AddressHead.{AddressHead}
use Rattle.relay_text.proofs.JoinedAddresses.{row_parts}
use Rattle.relay_text.proofs.Writing.{limits}
use Rattle.relay_text.proofs.address.Address.of_spelled.Goals as goal

pub overflow_cast-head : goal.overflow_cast-head
overflow_cast-head c =
    let parts : AddressParts = record { local = c.args.local.now; domain = folded c.args.domain.now } in
    omega (arith, (limits parts c.requires.valid).local)

pub invariant_of-result : goal.invariant_of-result
invariant_of-result c =
    let text = c.in_ok-text.text in
    let head = c.in_ok-text.ensures.head in
    let parts = row_parts text.bytes c.args.local.now (folded c.args.domain.now) text.head.local_len c.in_ok-text.ensures.bytes (ap (λ (h : AddressHead). h.local_len) head) in
    let P : AddressParts → Type 0 = λ p. IsTrue (is_address p) in (
      c.in_ok-text.ensures.bytes ∙ sym (ap joined_text_of parts),
      ap (λ (h : AddressHead). h.is_plain) head ∙ c.requires.plain ∙ sym (ap (λ (p : AddressParts). is_dot_string p.local) parts),
      subst P (sym parts) c.requires.valid,
    )

pub returns : goal.returns
returns c =
    row_parts c.in_ok-text.text.bytes c.args.local.now (folded c.args.domain.now) c.in_ok-text.text.head.local_len c.in_ok-text.ensures.bytes (ap (λ (h : AddressHead). h.local_len) c.in_ok-text.ensures.head)
