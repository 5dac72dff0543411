use Rattle.std.proofs.Common.{◌≡◌, ◌∙◌, [], filter, refl, ap, sym, arith, true, false}
use Rattle.std.specs.Str.{bytes_eq}
use Rattle.std.proofs.lemmas.Bool.Decides.{nat_tests}
use Rattle.std.proofs.lemmas.List.{nil_from_length}
use Rattle.relay_text.specs.Bytes.{has_text}
use Rattle.relay_routes.specs.MxLines.{MxLines}
use Rattle.relay_routes.specs.declared.exchange.Exchange.{Exchange}
use Rattle.relay_routes.specs.Preferences.{exchanges_of}
use Rattle.relay_routes.proofs.HostChoices.{hosts_from}
use Rattle.relay_routes.proofs.mx.MxTable.hosts_beside.Goals as goal

pub returns-then-not-is_empty : goal.returns-then-not-is_empty
returns-then-not-is_empty c =
    let table = c.args.self.now in
    let domain = c.args.domain.now in
    let found : exchanges_of c.in_ok-found.found.items ≡ filter (λ e. bytes_eq e.domain domain) table.exchanges =
    c.in_ok-found.ensures ∙ ap (λ (t : MxLines). filter (λ (e : Exchange). bytes_eq e.domain domain) t.exchanges) c.self.view_is in
    rw (hosts_from table domain c.args.own_names.now c.args.seed (exchanges_of c.in_ok-found.found.items) (has_text table.addresses domain) found refl)
    (c.explicit_hosts.ensures domain (has_text table.addresses domain))

pub returns-then-has_address : goal.returns-then-has_address
returns-then-has_address c =
    let table = c.args.self.now in
    let domain = c.args.domain.now in
    let none : c.in_ok-found.found.items ≡ [] = nil_from_length c.in_ok-found.found.items (grind (arith, nat_tests, c.in_ok-found.found.ok.0)) in
    let found : exchanges_of [] ≡ filter (λ e. bytes_eq e.domain domain) table.exchanges =
    ap exchanges_of (sym none) ∙ c.in_ok-found.ensures ∙ ap (λ (t : MxLines). filter (λ (e : Exchange). bytes_eq e.domain domain) t.exchanges) c.self.view_is in
    let has : has_text table.addresses domain ≡ true = sym (ap (λ (t : MxLines). has_text t.addresses domain) c.self.view_is) ∙ sym c.if-has_address.ensures in
    rw (hosts_from table domain c.args.own_names.now c.args.seed [] true found has) (c.implicit_host.ensures c.args.seed)

pub returns : goal.returns
returns c =
    let table = c.args.self.now in
    let domain = c.args.domain.now in
    let none : c.in_ok-found.found.items ≡ [] = nil_from_length c.in_ok-found.found.items (grind (arith, nat_tests, c.in_ok-found.found.ok.0)) in
    let found : exchanges_of [] ≡ filter (λ e. bytes_eq e.domain domain) table.exchanges =
    ap exchanges_of (sym none) ∙ c.in_ok-found.ensures ∙ ap (λ (t : MxLines). filter (λ (e : Exchange). bytes_eq e.domain domain) t.exchanges) c.self.view_is in
    let has : has_text table.addresses domain ≡ false = sym (ap (λ (t : MxLines). has_text t.addresses domain) c.self.view_is) ∙ sym c.if-has_address.ensures in
    hosts_from table domain c.args.own_names.now c.args.seed [] false found has
