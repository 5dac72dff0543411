use Rattle.std.proofs.Common.{◌≡◌, ℕ, List, [], ◌∷◌, length, refl, sym, ap, ◌∙◌}
use Rattle.std.specs.Prelude.{slice_index}
use Rattle.std.specs.Option.{unwrap_or}
use Rattle.bstr.proofs.lemmas.ByteLemmas.{is_in-two, IsFirstByte-same}
use Rattle.bstr.specs.Bytes.{is_in}
use Rattle.relay_text.proofs.Scans.{position_is}
use Rattle.relay_text.specs.Bytes.{is_white}
use Rattle.relay_routes.proofs.Readings.{place_of}
use Rattle.relay_routes.proofs.mx_line.field_len.Goals as goal

pub returns-clause-place : goal.returns-clause-place
returns-clause-place c =
    let text = c.args.text.now in
    let white : List ℕ = 32 ∷ 9 ∷ [] in
    let found = IsFirstByte-same text (is_in white) is_white (λ k l. sym (is_in-two white (slice_index text k) refl)) c.find_byteset.result c.find_byteset.ensures in
    c.unwrap_or.ensures ∙ ap (λ place. unwrap_or place (length text)) (position_is is_white text c.find_byteset.result found) ∙ place_of is_white text
