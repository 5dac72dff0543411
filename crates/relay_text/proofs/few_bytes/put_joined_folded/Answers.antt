use Rattle.std.proofs.Common.{refl}
use Rattle.relay_text.proofs.FewBytes.{folded_pieces}
use Rattle.relay_text.proofs.few_bytes.put_joined_folded.Goals as goal

pub returns : goal.returns
returns c =
    folded_pieces c.args.front.now c.args.back.now _ _ _ _ c.args.between _ _ c.copy_from_slice-2.ensures.after c.copy_from_slice.ensures.after c.make_ascii_lowercase.ensures.after refl c.requires
