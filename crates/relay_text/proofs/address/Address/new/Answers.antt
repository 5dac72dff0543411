use Rattle.std.proofs.Common.{◌≡◌, List, ℕ, subst, sym}
use Rattle.std.specs.Bool.{IsTrue}
use Rattle.std.specs.Result.{IfOk}
use Rattle.relay_text.specs.AddressParts.{AddressParts}
use Rattle.relay_text.specs.Addresses.{is_address}
use Rattle.relay_text.proofs.Paths.{good_parts}
use Rattle.relay_text.proofs.address.Address.new.Goals as goal

pub of_spelled-requires-clause-valid : goal.of_spelled-requires-clause-valid
of_spelled-requires-clause-valid c =
    let parts : AddressParts = record { local = c.args.local.now; domain = c.args.domain.now } in
    let P : List ℕ → Type 0 = λ domain. IsTrue (is_address (record { local = c.args.local.now; domain = domain })) in
    subst P (sym (good_parts parts c.requires).is_folded) c.requires

pub returns : goal.returns
returns c =
    let parts : AddressParts = record { local = c.args.local.now; domain = c.args.domain.now } in
    let P : List ℕ → Type 0 = λ domain. IfOk c.of_spelled.result (λ (a : AddressParts). a ≡ record { local = c.args.local.now; domain = domain }) in
    subst P (good_parts parts c.requires).is_folded c.of_spelled.ensures
