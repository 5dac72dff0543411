use Rattle.std.proofs.Common.{arith, ◌≡◌, ℕ, List, ◌++◌, ap, ◌∙◌}
use Rattle.std.specs.Char.{to_ascii_lowercase}
use Rattle.std.proofs.lemmas.List.{with_items_is}
use Rattle.std.proofs.lemmas.Str.Ascii.{lowercase-lowercase}
use Rattle.relay_text.specs.Bytes.{folded}
use Rattle.relay_tables.proofs.Turning.{map_after}
use Rattle.relay_tables.proofs.folded_name.write_folded.Goals as goal

-- what is folded stays as it is
folded-folded : (name : List ℕ) → folded (folded name) ≡ folded name
folded-folded name = map_after to_ascii_lowercase to_ascii_lowercase to_ascii_lowercase lowercase-lowercase name

pub returns-clause-folded : goal.returns-clause-folded
returns-clause-folded c =
    let local = c.args.local.now in
    let name = with_items_is c.extend_from_slice.new.self c.fold.new.bytes (omega arith) ∙ c.fold.ensures
    ∙ ap folded (c.deref_mut.ensures.value ∙ c.in_ok-extend_from_slice.ensures.items ∙ ap (λ (xs : List ℕ). xs ++ local) c.clear.ensures.items) in
    rw name (folded-folded local)
