use Rattle.std.proofs.Common.{ℕ, eqb, rules, tests, ◌∙◌}
use Rattle.std.specs.Char.{to_ascii_lowercase}
use Rattle.std.proofs.lemmas.Iterator.{YieldsList-from_slice}
use Rattle.std.proofs.lemmas.Iterator.Search.{all_from_yields_List}
use Rattle.relay_wire.proofs.Lines.{folded_all}
use Rattle.relay_wire.proofs.hostname.is_folded.Goals as goal

pub returns : goal.returns
returns c =
    all_from_yields_List (λ (b : ℕ). eqb (to_ascii_lowercase b) b) c.all.new.self _ c.all.result c.all.ensures.ran
    (YieldsList-from_slice c.args.text.now cc)
    (λ x b q k. search (rules, tests))
    ∙ folded_all c.args.text.now
