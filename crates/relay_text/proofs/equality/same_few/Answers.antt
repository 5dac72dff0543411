use Rattle.std.proofs.Common.{◌∙◌, rules, eqb, ℕ, tests}
use Rattle.std.proofs.lemmas.Iterator.{YieldsList-from_slice, YieldsList-from_zip}
use Rattle.std.proofs.lemmas.Iterator.Search.{all_from_yields_List}
use Rattle.relay_text.proofs.SameBytes.{list_all-zip_same}
use Rattle.relay_text.proofs.equality.same_few.Goals as goal

pub returns : goal.returns
returns c =
    all_from_yields_List (λ (p : ℕ × ℕ). eqb p.0 p.1) c.all.new.self _ c.all.result c.all.ensures.ran
    (YieldsList-from_zip (YieldsList-from_slice c.args.first.now cc) (YieldsList-from_slice c.args.second.now cc))
    (λ x b q k. search (rules, tests))
    ∙ list_all-zip_same c.args.first.now c.args.second.now c.requires
