use Rattle.std.proofs.Common.{◌==◌, ◌∙◌, ap, length}
use Rattle.std.specs.Option.{unwrap_or}
use Rattle.relay_text.proofs.Spellings.{place_of, place_within}
use Rattle.relay_text.proofs.place.place_or_len.Goals as goal

pub returns-clause-place : goal.returns-clause-place
returns-clause-place c =
    c.unwrap_or.ensures
    ∙ ap (λ place. unwrap_or place (length c.args.text.now)) c.place_of.ensures
    ∙ place_of (λ b. b == c.args.byte) c.args.text.now

pub returns-clause-within : goal.returns-clause-within
returns-clause-within c =
    place_within (λ b. b == c.args.byte) c.args.text.now _ (c.unwrap_or.ensures ∙ ap (λ place. unwrap_or place (length c.args.text.now)) c.place_of.ensures)
