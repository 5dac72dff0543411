use Rattle.std.proofs.Common.{eqb, length, ap, ◌∙◌}
use Rattle.relay_text.specs.Runs.{run_byte}
use Rattle.relay_text.specs.declared.run.Part.TheVariants.{Local}
use Rattle.relay_text.proofs.Runs.{all_by_front}
use Rattle.relay_text.proofs.cut.all_plain.Goals as goal

pub returns : goal.returns
returns c = ap (λ len. eqb len (length c.args.raw.now)) c.run_at.ensures.len ∙ all_by_front (run_byte Local) c.args.raw.now
