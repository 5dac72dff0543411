use Rattle.std.proofs.Common.{ℕ, List, ◌++◌, ◌∷◌, ◌∙◌, sym, ap, subst, arith, Err, Ok, length}
use Rattle.std.specs.Bool.{IsTrue}
use Rattle.std.proofs.lemmas.Result.{err_from_is_err_and}
use Rattle.relay_text.specs.AddressParts.{AddressParts}
use Rattle.relay_text.specs.Addresses.{Answers, address_of, local_of, local_cut, is_bad_domain, spelled_domain, is_address}
use Rattle.relay_text.specs.JoinedAddresses.{joined_text_of}
use Rattle.relay_text.specs.Bytes.{folded}
use Rattle.relay_text.proofs.Faults.{answers_fault, address-local_fault, address-domain_fault}
use Rattle.relay_text.proofs.Limits.{check_of, read_of, origin_parts, fault_long_local, fault_long_domain, fault_long_written, fault_long_path, address_of-read, is_address-read, written_is}
use Rattle.relay_text.proofs.JoinedAddresses.{row_parts}
use Rattle.relay_text.proofs.PlainTexts.{front_whole}
use Rattle.relay_text.proofs.parse.parse_address.Goals as goal
use Rattle.relay_text.proofs.parse.parse_address.Goals.{then-local_len-gt-MAX_LOCAL-via-then-local_len-gt-MAX_LOCAL, then-local_len-gt-MAX_LOCAL-via-else-local_len-gt-MAX_LOCAL+then-domain-gt-MAX_DOMAIN, then-written_len-gt-MAX_LOCAL-via-then-written_len-gt-MAX_LOCAL, then-written_len-gt-MAX_LOCAL-via-else-written_len-gt-MAX_LOCAL+then-written_len-domain-gt-MAX_PATH}

pub domain_in-requires : goal.domain_in-requires
domain_in-requires c = (origin_parts c.args.origin.now c.requires).1

pub returns-in-Some-clause-spelled : goal.returns-in-Some-clause-spelled
returns-in-Some-clause-spelled c =
    let whole = front_whole c.args.bytes.now c.in-Some.front c.in-Some.ensures (omega (arith, ap length c.text.ensures.value, c.if-text-bytes.false)) in
    let P : List ℕ → Type 0 = λ t. Answers c.address.result (address_of c.args.origin.now t) in
    subst P whole c.address.ensures.spelled

pub returns-in_err-check-clause-spelled : goal.returns-in_err-check-clause-spelled
returns-in_err-check-clause-spelled c =
    let p = err_from_is_err_and c.from_residual.result c.from_residual.ensures.1 in
    rw (p.1, p.2) (answers_fault c.in_err-check.field-0.0 _ (address-local_fault c.args.origin.now c.args.bytes.now c.in_err-check.field-0.0 (check_of c.of-cut.result _ c.check.result _ c.of-cut.ensures c.check.ensures c.in_err-check.was)))

pub returns-in_err-domain-clause-spelled : goal.returns-in_err-domain-clause-spelled
returns-in_err-domain-clause-spelled c =
    let p = err_from_is_err_and c.from_residual-in_err-domain.result c.from_residual-in_err-domain.ensures.1 in
    let passes = check_of c.of-cut.result (local_cut c.args.bytes.now) c.check.result _ c.of-cut.ensures c.check.ensures c.in_ok-check.was in
    let rests = c.rest.ensures ∙ ap (λ k. k.rest) c.of-cut.ensures in
    let fault = address-domain_fault c.args.origin.now c.args.bytes.now passes (ap (λ x. is_bad_domain (spelled_domain x)) (sym rests) ∙ c.in_err-domain.ensures.err.0) in
    rw (p.1, p.2) (answers_fault c.in_err-domain.field-0.0 _ (fault ∙ ap (λ f. Err f) (sym c.in_err-domain.ensures.err.1)))

pub returns-then-local_len-gt-MAX_LOCAL-clause-spelled : goal.returns-then-local_len-gt-MAX_LOCAL-clause-spelled
returns-then-local_len-gt-MAX_LOCAL-clause-spelled c =
    let passes = check_of c.of-cut.result (local_cut c.args.bytes.now) c.check.result _ c.of-cut.ensures c.check.ensures c.in_ok-check.was in
    let read = read_of c.args.origin.now c.args.bytes.now c.in_ok-domain.domain.now c.rest.result.now c.of-cut.result c.requires c.of-cut.ensures passes c.rest.ensures c.in_ok-domain.ensures.ok in
    elim c.then-local_len-gt-MAX_LOCAL.branch [
      | then-local_len-gt-MAX_LOCAL-via-then-local_len-gt-MAX_LOCAL w ↦ fault_long_local _ _ _ c.local_len-local_len.result read (c.local_len-local_len.ensures ∙ ap (λ k. length (local_of k)) c.of-cut.ensures) w.if-local_len-gt-MAX_LOCAL.true
      | then-local_len-gt-MAX_LOCAL-via-else-local_len-gt-MAX_LOCAL+then-domain-gt-MAX_DOMAIN w ↦ fault_long_domain _ _ _ read w.if-domain-gt-MAX_DOMAIN.true
    ]

pub returns-then-written_len-gt-MAX_LOCAL-clause-spelled : goal.returns-then-written_len-gt-MAX_LOCAL-clause-spelled
returns-then-written_len-gt-MAX_LOCAL-clause-spelled c =
    let passes = check_of c.of-cut.result (local_cut c.args.bytes.now) c.check.result _ c.of-cut.ensures c.check.ensures c.in_ok-check.was in
    let read = read_of c.args.origin.now c.args.bytes.now c.in_ok-domain.domain.now c.rest.result.now c.of-cut.result c.requires c.of-cut.ensures passes c.rest.ensures c.in_ok-domain.ensures.ok in
    let items = c.in-Ok.ensures ∙ ap (λ k. local_of k ++ 64 ∷ folded c.in_ok-domain.domain.now) c.of-cut.ensures in
    let len = c.local_len-local_len.ensures ∙ ap (λ k. length (local_of k)) c.of-cut.ensures in
    let written = written_is c.in-Ok.text.bytes c.as_slice.result.now (local_of (local_cut c.args.bytes.now)) (64 ∷ folded c.in_ok-domain.domain.now) c.local_len-local_len.result c.written_len-written_len.result items c.as_slice.ensures len c.written_len-written_len.ensures in
    elim c.then-written_len-gt-MAX_LOCAL.branch [
      | then-written_len-gt-MAX_LOCAL-via-then-written_len-gt-MAX_LOCAL w ↦ fault_long_written _ _ _ c.written_len-written_len.result read written w.if-written_len-gt-MAX_LOCAL.true
      | then-written_len-gt-MAX_LOCAL-via-else-written_len-gt-MAX_LOCAL+then-written_len-domain-gt-MAX_PATH w ↦ fault_long_path _ _ _ c.written_len-written_len.result read written (omega (arith, w.if-written_len-gt-MAX_LOCAL.false)) w.if-written_len-domain-gt-MAX_PATH.true
    ]

pub from_joined-requires-clause-joined : goal.from_joined-requires-clause-joined
from_joined-requires-clause-joined c =
    let items = c.in-Ok.ensures ∙ ap (λ k. local_of k ++ 64 ∷ folded c.in_ok-domain.domain.now) c.of-cut.ensures in
    let len = c.local_len-local_len.ensures ∙ ap (λ k. length (local_of k)) c.of-cut.ensures in
    let parts = row_parts c.in-Ok.text.bytes (local_of (local_cut c.args.bytes.now)) (folded c.in_ok-domain.domain.now) c.local_len-local_len.result items len in
    items ∙ sym (ap joined_text_of parts)

pub from_joined-requires-clause-valid : goal.from_joined-requires-clause-valid
from_joined-requires-clause-valid c =
    let passes = check_of c.of-cut.result (local_cut c.args.bytes.now) c.check.result _ c.of-cut.ensures c.check.ensures c.in_ok-check.was in
    let read = read_of c.args.origin.now c.args.bytes.now c.in_ok-domain.domain.now c.rest.result.now c.of-cut.result c.requires c.of-cut.ensures passes c.rest.ensures c.in_ok-domain.ensures.ok in
    let items = c.in-Ok.ensures ∙ ap (λ k. local_of k ++ 64 ∷ folded c.in_ok-domain.domain.now) c.of-cut.ensures in
    let len = c.local_len-local_len.ensures ∙ ap (λ k. length (local_of k)) c.of-cut.ensures in
    let written = written_is c.in-Ok.text.bytes c.as_slice.result.now (local_of (local_cut c.args.bytes.now)) (64 ∷ folded c.in_ok-domain.domain.now) c.local_len-local_len.result c.written_len-written_len.result items c.as_slice.ensures len c.written_len-written_len.ensures in
    let parts = row_parts c.in-Ok.text.bytes (local_of (local_cut c.args.bytes.now)) (folded c.in_ok-domain.domain.now) c.local_len-local_len.result items len in
    let P : AddressParts → Type 0 = λ p. IsTrue (is_address p) in
    subst P (sym parts) (is_address-read _ _ _ c.written_len-written_len.result read written (omega (arith, c.if-domain-gt-MAX_DOMAIN.false)) (omega (arith, c.if-written_len-gt-MAX_LOCAL.false)) (omega (arith, c.if-written_len-domain-gt-MAX_PATH.false)))

pub returns-clause-spelled : goal.returns-clause-spelled
returns-clause-spelled c =
    let passes = check_of c.of-cut.result (local_cut c.args.bytes.now) c.check.result _ c.of-cut.ensures c.check.ensures c.in_ok-check.was in
    let read = read_of c.args.origin.now c.args.bytes.now c.in_ok-domain.domain.now c.rest.result.now c.of-cut.result c.requires c.of-cut.ensures passes c.rest.ensures c.in_ok-domain.ensures.ok in
    let items = c.in-Ok.ensures ∙ ap (λ k. local_of k ++ 64 ∷ folded c.in_ok-domain.domain.now) c.of-cut.ensures in
    let len = c.local_len-local_len.ensures ∙ ap (λ k. length (local_of k)) c.of-cut.ensures in
    let written = written_is c.in-Ok.text.bytes c.as_slice.result.now (local_of (local_cut c.args.bytes.now)) (64 ∷ folded c.in_ok-domain.domain.now) c.local_len-local_len.result c.written_len-written_len.result items c.as_slice.ensures len c.written_len-written_len.ensures in
    let parts = row_parts c.in-Ok.text.bytes (local_of (local_cut c.args.bytes.now)) (folded c.in_ok-domain.domain.now) c.local_len-local_len.result items len in
    address_of-read _ _ _ c.written_len-written_len.result read written (omega (arith, c.if-domain-gt-MAX_DOMAIN.false)) (omega (arith, c.if-written_len-gt-MAX_LOCAL.false)) (omega (arith, c.if-written_len-domain-gt-MAX_PATH.false))
    ∙ ap (λ a. Ok a) (sym parts ∙ sym c.from_joined.ensures)
