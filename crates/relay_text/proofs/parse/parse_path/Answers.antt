use Rattle.std.proofs.Common.{◌∙◌, sym, ap, Some}
use Rattle.std.proofs.lemmas.Result.{err_from_is_err_and}
use Rattle.relay_text.specs.Addresses.{result_map}
use Rattle.relay_text.proofs.PathFaults.{path-empty, path-no_angles, path-null, path-address, fails_in_path}
use Rattle.relay_text.proofs.parse.parse_path.Goals as goal

pub returns-then-is_empty-clause-spelled : goal.returns-then-is_empty-clause-spelled
returns-then-is_empty-clause-spelled c = path-empty c.args.origin.now c.args.bytes.now (sym c.is_empty.ensures ∙ c.if-is_empty.true)

pub returns-in_default-clause-spelled : goal.returns-in_default-clause-spelled
returns-in_default-clause-spelled c = path-no_angles c.args.origin.now c.args.bytes.now (sym c.is_empty.ensures ∙ c.if-is_empty.false) c.in_default.ensures

pub returns-then-is_empty-2-clause-spelled : goal.returns-then-is_empty-2-clause-spelled
returns-then-is_empty-2-clause-spelled c =
    path-null c.args.origin.now c.args.bytes.now c.in-Some.text.now (sym c.is_empty.ensures ∙ c.if-is_empty.false) c.in-Some.ensures (sym c.is_empty-2.ensures ∙ c.if-is_empty-2.true)

pub returns-in_err-address-clause-spelled : goal.returns-in_err-address-clause-spelled
returns-in_err-address-clause-spelled c =
    let p = err_from_is_err_and c.from_residual.result c.from_residual.ensures.1 in
    let path = path-address c.args.origin.now c.args.bytes.now c.in-Some.text.now (sym c.is_empty.ensures ∙ c.if-is_empty.false) c.in-Some.ensures (sym c.is_empty-2.ensures ∙ c.if-is_empty-2.false) in
    rw (p.1, p.2) (fails_in_path c.in_err-address.field-0.0 _ _ path c.in_err-address.ensures.spelled)

pub returns-clause-spelled : goal.returns-clause-spelled
returns-clause-spelled c =
    let path = path-address c.args.origin.now c.args.bytes.now c.in-Some.text.now (sym c.is_empty.ensures ∙ c.if-is_empty.false) c.in-Some.ensures (sym c.is_empty-2.ensures ∙ c.if-is_empty-2.false) in
    path ∙ ap (λ r. result_map (λ a. Some a) r) c.in_ok-address.ensures.spelled
