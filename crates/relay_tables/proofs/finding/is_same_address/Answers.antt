use Rattle.std.proofs.Common.{ℕ, List, ap, ◌∙◌}
use Rattle.std.specs.Str.{bytes_eq}
use Rattle.relay_text.specs.JoinedAddresses.{joined_text_of}
use Rattle.relay_tables.proofs.NodeKeys.{address_joined}
use Rattle.relay_tables.proofs.finding.is_same_address.Goals as goal

pub returns : goal.returns
returns c =
    let a = c.args.first.now in
    let b = c.args.second.now in
    c.same_bytes.ensures
    ∙ ap (λ (xs : List ℕ). bytes_eq xs c.joined-2.result.now) c.joined.ensures.value
    ∙ ap (bytes_eq (joined_text_of a)) c.joined-2.ensures.value
    ∙ address_joined a b (c.one_joined_text.ensures a b c.joined.ensures.valid c.joined-2.ensures.valid)
