use Rattle.std.proofs.Common.{◌≡◌, ◌∙◌, ℕ, List, [], ap, sym, false, arith}
use Rattle.std.proofs.lemmas.Bool.Decides.{nat_tests}
use Rattle.std.proofs.lemmas.List.{nil_from_length}
use Rattle.relay_routes.specs.Transports.{found_result, keys_of}
use Rattle.relay_routes.specs.TransportLines.{TransportLines}
use Rattle.relay_routes.specs.TableSteps.{has_address, domain_keys}
use Rattle.relay_routes.proofs.KeyFacts.{found_nothing, keys_of_domain}
use Rattle.relay_routes.proofs.transport_table.TransportTable.found.Goals as goal

pub returns-then-is_empty : goal.returns-then-is_empty
returns-then-is_empty c =
    let keys = keys_of c.args.address.now c.args.delimiter in
    let i = c.self.inside in
    let none : i.entries.items ≡ [] = nil_from_length i.entries.items (grind (arith, nat_tests, i.entries.ok.0)) in
    found_nothing keys ∙ ap (λ es. found_result es keys) (sym none) ∙ ap (λ (v : TransportLines). found_result v.entries keys) c.self.view_is

pub returns-then-not-self : goal.returns-then-not-self
returns-then-not-self c =
    let none : has_address c.args.self.now.entries ≡ false = sym (ap (λ (v : TransportLines). has_address v.entries) c.self.view_is) ∙ sym c.self.invariant.1 ∙ c.if-not-self.true in
    c.found_at_domain.ensures ∙ ap (λ (d : List ℕ). found_result c.args.self.now.entries (domain_keys d)) c.domain.ensures ∙ keys_of_domain c.args.self.now.entries c.args.address.now c.args.delimiter none
