use Rattle.std.proofs.Common.{◌≡◌, ◌<◌, ℕ, List, length, arith, subst, Some}
use Rattle.relay_text.specs.PlainTexts.{HasFault, plain_front}
use Rattle.relay_text.specs.declared.fault.TextFault.TheVariants.{BadByte, BadDomain}
use Rattle.relay_text.proofs.LongerTexts.{longer_address, longer_name}
use Rattle.relay_text.proofs.plain.PlainText.fault_of_longer.Goals as goal

pub returns-then-self : goal.returns-then-self
returns-then-self c =
    let P : List ℕ → Type 0 = λ t. (bytes : List ℕ) → plain_front bytes ≡ Some t → length t < length bytes → HasFault BadDomain bytes in
    subst P c.self.view_is (λ bytes h longer. longer_address c.self.inside.local_len bytes c.self.inside.text.now c.self.invariant.1 c.if-self.true h longer)

pub returns-else-self : goal.returns-else-self
returns-else-self c =
    let P : List ℕ → Type 0 = λ t. (bytes : List ℕ) → plain_front bytes ≡ Some t → length t < length bytes → HasFault BadByte bytes in
    subst P c.self.view_is (λ bytes h longer. longer_name c.self.inside.local_len bytes c.self.inside.text.now c.self.invariant.1 (omega (arith, c.if-self.false)) h longer)
