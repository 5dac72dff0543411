use Rattle.std.proofs.Common.{arith}
use Rattle.relay_text.proofs.JoinedAddresses.{local_len_fits}
use Rattle.relay_text.proofs.address.Address.from_joined.Goals as goal

pub overflow_cast-head : goal.overflow_cast-head
overflow_cast-head c = omega (arith, local_len_fits c.args.local_len c.args.text.bytes c.requires.joined c.requires.valid)
