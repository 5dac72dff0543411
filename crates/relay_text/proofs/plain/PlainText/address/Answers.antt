use Rattle.std.proofs.Common.{ℕ, List, ◌∙◌, sym, ap, subst, arith, Ok, length, take}
use Rattle.std.specs.Bool.{IsTrue}
use Rattle.std.proofs.lemmas.List.{take_rest}
use Rattle.relay_text.specs.AddressParts.{AddressParts}
use Rattle.relay_text.specs.Addresses.{address_of, is_address, local_text_of}
use Rattle.relay_text.specs.Bytes.{folded}
use Rattle.relay_text.proofs.Limits.{origin_parts, fault_long_local, fault_long_domain, fault_long_written, fault_long_path, address_of-read, is_address-read}
use Rattle.relay_text.proofs.PlainTexts.{plain_read, plain_local}
use Rattle.relay_text.proofs.plain.PlainText.address.Goals as goal
use Rattle.relay_text.proofs.plain.PlainText.address.Goals.{then-local-gt-MAX_LOCAL-via-then-local-gt-MAX_LOCAL, then-local-gt-MAX_LOCAL-via-else-local-gt-MAX_LOCAL+then-domain-gt-MAX_DOMAIN, then-written_len-gt-MAX_LOCAL-via-then-written_len-gt-MAX_LOCAL, then-written_len-gt-MAX_LOCAL-via-else-written_len-gt-MAX_LOCAL+then-written_len-domain-gt-MAX_PATH}

pub domain_behind-domain-requires : goal.domain_behind-domain-requires
domain_behind-domain-requires c = (origin_parts c.args.origin.now c.requires).1

pub returns-then-local-gt-MAX_LOCAL-clause-spelled : goal.returns-then-local-gt-MAX_LOCAL-clause-spelled
returns-then-local-gt-MAX_LOCAL-clause-spelled c =
    let n = c.self.inside.local_len in
    let text = c.self.inside.text.now in
    let read = plain_read n c.args.origin.now text c.domain_behind-domain.result.now _ c.self.invariant.1 c.requires (take_rest text n) c.domain_behind-domain.ensures in
    ap (address_of c.args.origin.now) (sym c.self.view_is) ∙ elim c.then-local-gt-MAX_LOCAL.branch [
      | then-local-gt-MAX_LOCAL-via-then-local-gt-MAX_LOCAL w ↦ fault_long_local _ _ _ (length (take n text)) read (ap length (sym (plain_local n text c.self.invariant.1))) w.if-local-gt-MAX_LOCAL.true
      | then-local-gt-MAX_LOCAL-via-else-local-gt-MAX_LOCAL+then-domain-gt-MAX_DOMAIN w ↦ fault_long_domain _ _ _ read w.if-domain-gt-MAX_DOMAIN.true
    ]

pub returns-then-written_len-gt-MAX_LOCAL-clause-spelled : goal.returns-then-written_len-gt-MAX_LOCAL-clause-spelled
returns-then-written_len-gt-MAX_LOCAL-clause-spelled c =
    let n = c.self.inside.local_len in
    let text = c.self.inside.text.now in
    let read = plain_read n c.args.origin.now text c.domain_behind-domain.result.now _ c.self.invariant.1 c.requires (take_rest text n) c.domain_behind-domain.ensures in
    let written = c.written_len-written_len.ensures ∙ ap (λ l. length (local_text_of l)) (sym (plain_local n text c.self.invariant.1)) in
    ap (address_of c.args.origin.now) (sym c.self.view_is) ∙ elim c.then-written_len-gt-MAX_LOCAL.branch [
      | then-written_len-gt-MAX_LOCAL-via-then-written_len-gt-MAX_LOCAL w ↦ fault_long_written _ _ _ c.written_len-written_len.result read written w.if-written_len-gt-MAX_LOCAL.true
      | then-written_len-gt-MAX_LOCAL-via-else-written_len-gt-MAX_LOCAL+then-written_len-domain-gt-MAX_PATH w ↦ fault_long_path _ _ _ c.written_len-written_len.result read written (omega (arith, w.if-written_len-gt-MAX_LOCAL.false)) w.if-written_len-domain-gt-MAX_PATH.true
    ]

pub of_spelled-requires-clause-valid : goal.of_spelled-requires-clause-valid
of_spelled-requires-clause-valid c =
    let n = c.self.inside.local_len in
    let text = c.self.inside.text.now in
    let domain : List ℕ = folded c.domain_behind-domain.result.now in
    let read = plain_read n c.args.origin.now text c.domain_behind-domain.result.now _ c.self.invariant.1 c.requires (take_rest text n) c.domain_behind-domain.ensures in
    let written = c.written_len-written_len.ensures ∙ ap (λ l. length (local_text_of l)) (sym (plain_local n text c.self.invariant.1)) in
    let P : List ℕ → Type 0 = λ local. IsTrue (is_address (record { local = local; domain = domain })) in
    subst P (plain_local n text c.self.invariant.1) (is_address-read _ _ _ c.written_len-written_len.result read written (omega (arith, c.if-domain-gt-MAX_DOMAIN.false)) (omega (arith, c.if-written_len-gt-MAX_LOCAL.false)) (omega (arith, c.if-written_len-domain-gt-MAX_PATH.false)))

pub returns-clause-spelled : goal.returns-clause-spelled
returns-clause-spelled c =
    let n = c.self.inside.local_len in
    let text = c.self.inside.text.now in
    let domain : List ℕ = folded c.domain_behind-domain.result.now in
    let read = plain_read n c.args.origin.now text c.domain_behind-domain.result.now _ c.self.invariant.1 c.requires (take_rest text n) c.domain_behind-domain.ensures in
    let written = c.written_len-written_len.ensures ∙ ap (λ l. length (local_text_of l)) (sym (plain_local n text c.self.invariant.1)) in
    let made : List ℕ → AddressParts = λ local. record { local = local; domain = domain } in
    ap (address_of c.args.origin.now) (sym c.self.view_is)
    ∙ address_of-read _ _ _ c.written_len-written_len.result read written (omega (arith, c.if-domain-gt-MAX_DOMAIN.false)) (omega (arith, c.if-written_len-gt-MAX_LOCAL.false)) (omega (arith, c.if-written_len-domain-gt-MAX_PATH.false))
    ∙ ap (λ a. Ok a) (ap made (plain_local n text c.self.invariant.1) ∙ sym c.in-Ok.ensures)
