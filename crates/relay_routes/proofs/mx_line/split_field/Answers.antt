use Rattle.std.proofs.Common.{arith}
use Rattle.std.proofs.lemmas.Bool.Decides.{nat_tests}
use Rattle.relay_routes.proofs.MxFields.{no_field, some_field}
use Rattle.relay_routes.proofs.mx_line.split_field.Goals as goal

pub returns-then-is_empty-clause-none : goal.returns-then-is_empty-clause-none
returns-then-is_empty-clause-none c = no_field c.args.text.now c.trimmed_start-start.result.now c.trimmed_start-start.ensures (grind (arith, nat_tests))

pub returns-clause-some : goal.returns-clause-some
returns-clause-some c =
    rw (c.split_at.ensures.front, c.split_at.ensures.back)
    (some_field c.args.text.now c.trimmed_start-start.result.now c.field_len.result c.trimmed_start-start.ensures (grind (arith, nat_tests)) c.field_len.ensures.place)
