use Rattle.std.proofs.Common.{◌≡◌, ℕ, List, map, subst, ◌∙◌}
use Rattle.relay_text.specs.FirstPlaces.{first_place}
use Rattle.relay_aliasfile.proofs.FirstTexts.{all_first}
use Rattle.relay_aliasfile.proofs.distinct.distinct_texts.Goals as goal

pub returns-then-are_own : goal.returns-then-are_own
returns-then-are_own c =
    let texts = c.args.texts.items in
    let places = c.deref.result.now in
    let P : List (List ℕ) → Type 0 = λ ts. c.in_ok-places.places.items ≡ map (first_place ts) ts in
    let are : places ≡ map (first_place texts) texts = c.deref.ensures.value ∙ subst P c.as_slice.ensures.value c.in_ok-places.ensures in
    c.of.ensures ∙ all_first texts places are (c.are_own.ensures c.if-are_own.true)
