use Rattle.std.proofs.Common.{◌∙◌, rules, arith, eqb, ℕ, tests}
use Rattle.std.specs.Char.{to_ascii_lowercase}
use Rattle.std.proofs.lemmas.Iterator.{YieldsList-from_slice, YieldsList-from_zip}
use Rattle.std.proofs.lemmas.Iterator.Search.{all_from_yields_List}
use Rattle.relay_text.proofs.Scans.{list_all-zip_folded}
use Rattle.relay_text.proofs.scan.begins_with_word.Goals as goal

pub returns-then-word-text : goal.returns-then-word-text
returns-then-word-text c =
    all_from_yields_List (λ (p : ℕ × ℕ). eqb (to_ascii_lowercase p.0) p.1) c.all.new.self _ c.all.result c.all.ensures.ran
    (YieldsList-from_zip (YieldsList-from_slice c.args.text.now cc) (YieldsList-from_slice c.args.word.now cc))
    (λ x b q k. search (rules, tests))
    ∙ list_all-zip_folded c.args.word.now c.args.text.now (omega arith)
