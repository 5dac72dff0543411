use Rattle.std.proofs.Common.{sym}
use Rattle.relay_text.proofs.Writing.{dot_string_from}
use Rattle.relay_text.proofs.local.is_dot_string.Goals as goal

pub loop-byte-init : goal.loop-byte-init
loop-byte-init c = sym (dot_string_from c.args.local.now)
