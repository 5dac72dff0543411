use Rattle.std.proofs.Common.{rules, ◌≡◌, ◌∙◌, ℕ, List, length, Bor}
use Rattle.std.specs.Str.{bytes_eq}
use Rattle.std.proofs.lemmas.Iterator.{YieldsList-from_slice, YieldsList-from_zip}
use Rattle.std.proofs.lemmas.Iterator.Search.{all_from_yields_List}
use Rattle.growth_answers.proofs.Texts.{list_all-zip_texts}
use Rattle.growth_answers.proofs.inputs.are_texts.Goals as goal

-- src/inputs.rt:26:1
pub returns-then-texts-wanted : goal.returns-then-texts-wanted
returns-then-texts-wanted c =
    let same_length : length c.args.texts.now ≡ length c.args.wanted.now = search rules in
    all_from_yields_List (λ (p : List ℕ × Bor (List ℕ)). bytes_eq p.0 p.1.now) c.all.new.self _ c.all.result c.all.ensures.ran
    (YieldsList-from_zip (YieldsList-from_slice c.args.texts.now cc) (YieldsList-from_slice c.args.wanted.now cc))
    (λ x b q k. search rules)
    ∙ list_all-zip_texts c.args.texts.now c.args.wanted.now same_length
