use Rattle.relay_text.proofs.JoinedAddresses.{same_joined}
use Rattle.relay_text.proofs.address.one_joined_text.Goals as goal

pub returns : goal.returns
returns c = same_joined
