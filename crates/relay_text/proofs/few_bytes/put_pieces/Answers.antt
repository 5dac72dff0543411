use Rattle.std.proofs.Common.{refl}
use Rattle.relay_text.proofs.FewBytes.{two_pieces}
use Rattle.relay_text.proofs.few_bytes.put_pieces.Goals as goal

pub returns : goal.returns
returns c =
    two_pieces c.args.front.now c.args.more.now _ _ _ _ _ _ c.copy_from_slice.ensures.after c.copy_from_slice-2.ensures.after refl refl
