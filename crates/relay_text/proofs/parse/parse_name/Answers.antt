use Rattle.std.proofs.Common.{◌≡◌, ◌∙◌, ℕ, List, sym, ap, subst, refl, arith, Ok, length}
use Rattle.std.proofs.lemmas.Result.{err_from_is_err_and}
use Rattle.relay_text.specs.Addresses.{Answers, local_of, local_cut, local_text_of, name_of}
use Rattle.relay_text.proofs.Faults.{answers_fault, name-local_fault, name-domain_fault, name-too_long, name-ok}
use Rattle.relay_text.proofs.Limits.{check_of, rest_is, local_too_long, local_fits}
use Rattle.relay_text.proofs.PlainTexts.{front_whole}
use Rattle.relay_text.proofs.Writing.{local_text_longer}
use Rattle.relay_text.proofs.parse.parse_name.Goals as goal

pub returns-in-Some : goal.returns-in-Some
returns-in-Some c =
    let whole = front_whole c.args.bytes.now c.in-Some.front c.in-Some.ensures (omega (arith, ap length c.text.ensures.value, c.if-text-bytes.false)) in
    let P : List ℕ → Type 0 = λ t. Answers c.name.result (name_of t) in
    record { spelled = subst P whole c.name.ensures }

pub returns-in_err-check : goal.returns-in_err-check
returns-in_err-check c =
    let p = err_from_is_err_and c.from_residual.result c.from_residual.ensures.1 in
    let fault = name-local_fault c.args.bytes.now c.in_err-check.field-0.0 (check_of c.of-cut.result _ c.check.result _ c.of-cut.ensures c.check.ensures c.in_err-check.was) in
    record { spelled = rw (p.1, p.2) (answers_fault c.in_err-check.field-0.0 _ fault) }

pub returns-then-not-is_empty : goal.returns-then-not-is_empty
returns-then-not-is_empty c =
    let passes = check_of c.of-cut.result (local_cut c.args.bytes.now) c.check.result _ c.of-cut.ensures c.check.ensures c.in_ok-check.was in
    let rest = rest_is c.args.bytes.now c.rest.result.now c.of-cut.result _ c.of-cut.ensures c.rest.ensures (sym c.is_empty.ensures ∙ c.if-not-is_empty.true) in
    record { spelled = name-domain_fault c.args.bytes.now passes rest }

pub returns-then-local_len-gt-MAX_LOCAL : goal.returns-then-local_len-gt-MAX_LOCAL
returns-then-local_len-gt-MAX_LOCAL c =
    let passes = check_of c.of-cut.result (local_cut c.args.bytes.now) c.check.result _ c.of-cut.ensures c.check.ensures c.in_ok-check.was in
    let rest = rest_is c.args.bytes.now c.rest.result.now c.of-cut.result _ c.of-cut.ensures c.rest.ensures (sym c.is_empty.ensures ∙ c.if-not-is_empty.false) in
    let local = local_of (local_cut c.args.bytes.now) in
    let len : c.local_len.result ≡ length (local_of (local_cut c.args.bytes.now)) = c.local_len.ensures ∙ ap (λ k. length (local_of k)) c.of-cut.ensures in
    record { spelled = name-too_long c.args.bytes.now passes rest (local_too_long local (length (local_text_of local)) refl (omega (arith, len, local_text_longer local, c.if-local_len-gt-MAX_LOCAL.true))) }

pub returns-then-local_text_len-gt-MAX_LOCAL : goal.returns-then-local_text_len-gt-MAX_LOCAL
returns-then-local_text_len-gt-MAX_LOCAL c =
    let passes = check_of c.of-cut.result (local_cut c.args.bytes.now) c.check.result _ c.of-cut.ensures c.check.ensures c.in_ok-check.was in
    let rest = rest_is c.args.bytes.now c.rest.result.now c.of-cut.result _ c.of-cut.ensures c.rest.ensures (sym c.is_empty.ensures ∙ c.if-not-is_empty.false) in
    let items = c.in-Ok.ensures ∙ ap local_of c.of-cut.ensures in
    let written = c.local_text_len.ensures ∙ ap (λ xs. length (local_text_of xs)) (c.as_slice.ensures ∙ items) in
    record { spelled = name-too_long c.args.bytes.now passes rest (local_too_long (local_of (local_cut c.args.bytes.now)) c.local_text_len.result written c.if-local_text_len-gt-MAX_LOCAL.true) }

pub returns : goal.returns
returns c =
    let passes = check_of c.of-cut.result (local_cut c.args.bytes.now) c.check.result _ c.of-cut.ensures c.check.ensures c.in_ok-check.was in
    let rest = rest_is c.args.bytes.now c.rest.result.now c.of-cut.result _ c.of-cut.ensures c.rest.ensures (sym c.is_empty.ensures ∙ c.if-not-is_empty.false) in
    let items = c.in-Ok.ensures ∙ ap local_of c.of-cut.ensures in
    let written = c.local_text_len.ensures ∙ ap (λ xs. length (local_text_of xs)) (c.as_slice.ensures ∙ items) in
    record { spelled = name-ok c.args.bytes.now passes rest (local_fits (local_of (local_cut c.args.bytes.now)) c.local_text_len.result written c.if-local_text_len-gt-MAX_LOCAL.false) ∙ ap (λ x. Ok x) (sym (c.of_inline.ensures ∙ items)) }
