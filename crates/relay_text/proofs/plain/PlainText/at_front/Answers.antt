use Rattle.std.proofs.Common.{rules, ◌≡◌, ◌+◌, ◌<◌, true, ap, sym, arith, length, drop, get_or, ◌∙◌}
use Rattle.std.proofs.lemmas.Bool.{not-false}
use Rattle.std.proofs.lemmas.List.{length-take, take_rest}
use Rattle.std.proofs.lemmas.List.Sums.{prefix_len-le-length}
use Rattle.relay_text.specs.Runs.{run_byte, run_len, run_in, is_joined}
use Rattle.relay_text.specs.declared.run.Part.TheVariants.{Local, Domain}
use Rattle.relay_text.proofs.PlainTexts.{kept-name, kept-address_at, local-joined, front-address_at}
use Rattle.relay_text.proofs.plain.PlainText.at_front.Goals as goal

pub invariant_of-result : goal.invariant_of-result
invariant_of-result c =
    let n = c.run_at-local.result.len in
    let bytes = c.args.bytes.now in (
      omega (arith, c.run_at-local.ensures.len, length-take n bytes, prefix_len-le-length (run_byte Local) bytes),
      kept-name bytes n c.run_at-local.ensures.len (omega (arith, c.if-local-eq0.false)),
      local-joined bytes n n _ c.run_at-local.ensures.len (omega arith) c.run_at-local.ensures.joined,
    )

pub invariant_of-result-2 : goal.invariant_of-result-2
invariant_of-result-2 c =
    let n = c.run_at-local.result.len in
    let m = c.run_at-domain.result.len in
    let bytes = c.args.bytes.now in
    let some : 0 < c.run_at-local.result.len = omega (arith, c.if-local-eq0.false) in
    let longest = prefix_len-le-length (run_byte Local) bytes in
    let within : c.run_at-local.result.len < length c.args.bytes.now = omega (arith, c.run_at-local.ensures.len, longest, c.if-local-bytes.false) in
    let at : get_or c.args.bytes.now c.run_at-local.result.len 0 ≡ 64 = search rules in
    let rest = take_rest bytes (n + 1) in
    let is_m : c.run_at-domain.result.len ≡ run_len Domain (drop (c.run_at-local.result.len + 1) c.args.bytes.now) = c.run_at-domain.ensures.len ∙ ap (run_len Domain) rest in
    let good : is_joined Domain (run_in Domain (drop (c.run_at-local.result.len + 1) c.args.bytes.now)) ≡ true = ap (λ t. is_joined Domain (run_in Domain t)) (sym rest) ∙ sym c.run_at-domain.ensures.joined ∙ not-false _ c.if-not-domain.false in (
      omega (arith, within, length-take (n + 1 + m) bytes),
      kept-address_at bytes n m c.run_at-local.ensures.len some within at is_m good,
      local-joined bytes n (n + 1 + m) _ c.run_at-local.ensures.len (omega arith) c.run_at-local.ensures.joined,
    )

pub returns : goal.returns
returns c =
    let n = c.run_at-local.result.len in
    let m = c.run_at-domain.result.len in
    let bytes = c.args.bytes.now in
    let some : 0 < c.run_at-local.result.len = omega (arith, c.if-local-eq0.false) in
    let longest = prefix_len-le-length (run_byte Local) bytes in
    let within : c.run_at-local.result.len < length c.args.bytes.now = omega (arith, c.run_at-local.ensures.len, longest, c.if-local-bytes.false) in
    let at : get_or c.args.bytes.now c.run_at-local.result.len 0 ≡ 64 = search rules in
    let rest = take_rest bytes (n + 1) in
    let is_m : c.run_at-domain.result.len ≡ run_len Domain (drop (c.run_at-local.result.len + 1) c.args.bytes.now) = c.run_at-domain.ensures.len ∙ ap (run_len Domain) rest in
    let good : is_joined Domain (run_in Domain (drop (c.run_at-local.result.len + 1) c.args.bytes.now)) ≡ true = ap (λ t. is_joined Domain (run_in Domain t)) (sym rest) ∙ sym c.run_at-domain.ensures.joined ∙ not-false _ c.if-not-domain.false in
    sym (front-address_at bytes n m c.run_at-local.ensures.len some within at is_m good)
