use Rattle.std.proofs.Common.{sym, ◌∙◌, ◌+◌, ◌^◌, ◌<◌, ◌≤◌, length, flat_map, vec_capacity, arith, rules}
use Rattle.relay_text.specs.Addresses.{quoted_byte}
use Rattle.relay_text.proofs.Writing.{plain_text, quoted_text, quoted_text_length}
use Rattle.relay_text.proofs.write.write_local.Goals as goal

pub returns-then-is_dot_string-clause-ok : goal.returns-then-is_dot_string-clause-ok
returns-then-is_dot_string-clause-ok c =
    rw (plain_text c.args.local.now (sym c.is_dot_string.ensures ∙ c.if-is_dot_string.true)) (search rules)

pub returns-clause-ok : goal.returns-clause-ok
returns-clause-ok c =
    rw (quoted_text c.args.local.now (sym c.is_dot_string.ensures ∙ c.if-is_dot_string.false)) (search rules)

pub returns-then-is_dot_string-clause-full : goal.returns-then-is_dot_string-clause-full
returns-then-is_dot_string-clause-full c =
    rw (plain_text c.args.local.now (sym c.is_dot_string.ensures ∙ c.if-is_dot_string.true)) c.extend_from_slice.ensures.full

pub returns-in_err-reserve-clause-full : goal.returns-in_err-reserve-clause-full
returns-in_err-reserve-clause-full c =
    rw (quoted_text_length c.args.local.now (sym c.is_dot_string.ensures ∙ c.if-is_dot_string.false)) (search rules)

pub returns-in_default-clause-full : goal.returns-in_default-clause-full
returns-in_default-clause-full c =
    let more : 2 ^ 64 ≤ length (flat_map quoted_byte c.args.local.now) + 2 = c.in_default.ensures.none in
    let capacity : vec_capacity c.args.out.now < 2 ^ 63 = c.args.out.now.small in
    omega (arith, quoted_text_length c.args.local.now (sym c.is_dot_string.ensures ∙ c.if-is_dot_string.false))
