use Rattle.std.proofs.Common.{◌==◌}
use Rattle.relay_text.proofs.Scans.{position_is}
use Rattle.relay_text.proofs.place.place_of.Goals as goal

pub returns : goal.returns
returns c = position_is (λ b. b == c.args.byte) c.args.text.now c.find_byte.result c.find_byte.ensures
