use Rattle.std.proofs.Common.{◌≡◌, ◌∙◌, [], Some, None, ap, sym, arith}
use Rattle.relay_routes.specs.declared.transport_line.TransportLine.{TransportLine}
use Rattle.relay_routes.specs.TransportLines.{TransportLines}
use Rattle.relay_routes.specs.Transports.{result_at}
use Rattle.relay_routes.proofs.TableFacts.{entry_place, entry_found, entry_missing}
use Rattle.relay_routes.proofs.transport_table.TransportTable.result_at.Goals as goal

pub returns-in_err-place : goal.returns-in_err-place
returns-in_err-place c =
    let es = c.self.inside.entries.items in
    let pattern = c.args.pattern.now in
    let none : entry_place es pattern ≡ None = ap (λ es. entry_place es pattern) (sym c.deref.ensures.value) ∙ sym c.place_of.ensures ∙ c.in_err-place.was in
    rw c.from_residual.ensures (sym (ap (λ (v : TransportLines). result_at v.entries pattern) (sym c.self.view_is) ∙ entry_missing es pattern none))

pub index-requires : goal.index-requires
index-requires c =
    let es = c.self.inside.entries.items in
    let pattern = c.args.pattern.now in
    let place = c.in_ok-place.place in
    let empty : TransportLine = record { pattern = []; result = [] } in
    let some : entry_place es pattern ≡ Some place = ap (λ es. entry_place es pattern) (sym c.deref.ensures.value) ∙ sym c.place_of.ensures ∙ c.in_ok-place.was in
    omega (arith, (entry_found es pattern place empty some).0, c.self.inside.entries.ok.0)

pub returns : goal.returns
returns c =
    let es = c.self.inside.entries.items in
    let pattern = c.args.pattern.now in
    let place = c.in_ok-place.place in
    let some : entry_place es pattern ≡ Some place = ap (λ es. entry_place es pattern) (sym c.deref.ensures.value) ∙ sym c.place_of.ensures ∙ c.in_ok-place.was in
    let found = entry_found es pattern place c.index.result.now some in
    ap (λ t. Some t) c.as_bytes.ensures
    ∙ ap (λ (e : TransportLine). Some e.result) c.index.ensures
    ∙ sym found.1
    ∙ ap (λ (v : TransportLines). result_at v.entries pattern) c.self.view_is
