use Rattle.std.proofs.Common.{◌∙◌, ◌++◌, ◌∷◌, [], ap}
use Rattle.relay_text.specs.Bytes.{folded}
use Rattle.relay_text.specs.Addresses.{local_text_of}
use Rattle.relay_routes.proofs.PatternFacts.{key_written}
use Rattle.relay_routes.proofs.pattern.address_key.Goals as goal

pub returns : goal.returns
returns c =
    let local = c.in_ok-write_local.ensures.ok ∙ ap (λ t. t ++ local_text_of c.args.local.now) c.in_ok-key.ensures.items in
    let at = c.in_ok-push.ensures.items ∙ ap (λ t. t ++ 64 ∷ []) local in
    let written = c.in_ok-extend_from_slice.ensures.items ∙ ap (λ t. t ++ c.args.domain.now) at in
    c.folded_text.ensures ∙ ap folded written ∙ key_written c.args.local.now c.args.domain.now
