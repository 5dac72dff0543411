use Rattle.std.proofs.Common.{rules}
use Rattle.relay_text.proofs.SameBytes.{same_numbers}
use Rattle.relay_text.proofs.equality.is_same_word.Goals as goal

pub returns : goal.returns
returns c = same_numbers c.args.first c.args.second c.from_le_bytes.result c.from_le_bytes-2.result (search rules) (search rules) (search rules) (search rules) c.from_le_bytes.ensures c.from_le_bytes-2.ensures
