use Rattle.std.proofs.Common.{ℕ, List, subst}
use Rattle.std.specs.Bool.{IsTrue}
use Rattle.relay_text.specs.PlainTexts.{is_open_text}
use Rattle.relay_text.proofs.PlainTexts.{plain_open}
use Rattle.relay_text.proofs.plain.PlainText.text.Goals as goal

pub returns-clause-open : goal.returns-clause-open
returns-clause-open c =
    let P : List ℕ → Type 0 = λ t. IsTrue (is_open_text t) in
    subst P c.self.view_is (plain_open c.self.inside.local_len c.self.inside.text.now c.self.invariant.1)
