use Rattle.std.proofs.Common.{◌≡◌, ◌∙◌, ap, length, refl, arith}
use Rattle.std.specs.List.{position_or_len}
use Rattle.std.proofs.lemmas.Bool.Decides.{nat_tests}
use Rattle.std.proofs.lemmas.List.{take_rest}
use Rattle.relay_text.specs.Bytes.{is_white}
use Rattle.relay_routes.proofs.MxFields.{no_field, some_field}
use Rattle.relay_routes.proofs.Readings.{length-before_first}
use Rattle.relay_routes.proofs.field.Field.split.Goals as goal

pub returns-then-is_empty-clause-none : goal.returns-then-is_empty-clause-none
returns-then-is_empty-clause-none c = no_field c.args.text.now c.trimmed_start-start.result.now c.trimmed_start-start.ensures (grind (arith, nat_tests))

pub returns-clause-some : goal.returns-clause-some
returns-clause-some c =
    let start = c.trimmed_start-start.result.now in
    let len : length c.field.inside.text.now ≡ position_or_len is_white start = ap length (c.field.view_is ∙ c.at_front-field.ensures) ∙ length-before_first is_white start in
    rw (take_rest start (length c.field.inside.text.now), len, c.at_front-field.ensures)
    (some_field c.args.text.now start (position_or_len is_white start) c.trimmed_start-start.ensures (grind (arith, nat_tests)) refl)
