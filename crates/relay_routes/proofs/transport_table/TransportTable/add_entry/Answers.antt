use Rattle.std.proofs.Common.{◌≡◌, ◌∙◌, ◌++◌, ◌∷◌, [], ap, sym, List}
use Rattle.relay_routes.specs.TransportLines.{TransportLines}
use Rattle.relay_routes.specs.TableSteps.{has_entry}
use Rattle.relay_routes.specs.declared.transport_line.TransportLine.{TransportLine}
use Rattle.relay_routes.proofs.TableFacts.{entry_there, same_lines}
use Rattle.relay_routes.proofs.transport_table.TransportTable.add_entry.Goals as goal

pub returns-then-is_some : goal.returns-then-is_some
returns-then-is_some c =
    let i = c.self.inside in
    let pattern = c.args.entry.pattern in
    let before : i.entries.items ≡ c.args.self.now.entries = ap (λ (v : TransportLines). v.entries) c.self.view_is in
    let has : has_entry c.args.self.now.entries pattern ≡ c.is_some.result =
    ap (λ es. has_entry es pattern) (sym before ∙ sym c.deref.ensures.value) ∙ ap (has_entry c.deref.result.now) (sym c.as_bytes-pattern.ensures)
    ∙ entry_there c.deref.result.now c.as_bytes-pattern.result.now c.place_of.result (sym c.place_of.ensures) ∙ sym c.is_some.ensures in
    rw (has, c.if-is_some.true) c.add_fault.ensures

pub returns : goal.returns
returns c =
    let i = c.self.inside in
    let pattern = c.args.entry.pattern in
    let before : i.entries.items ≡ c.args.self.now.entries = ap (λ (v : TransportLines). v.entries) c.self.view_is in
    let entries : c.reserve.new.self.items ≡ c.args.self.now.entries = c.in-Ok.ensures.items ∙ before in
    let has : has_entry c.args.self.now.entries pattern ≡ c.is_some.result =
    ap (λ es. has_entry es pattern) (sym before ∙ sym c.deref.ensures.value) ∙ ap (has_entry c.deref.result.now) (sym c.as_bytes-pattern.ensures)
    ∙ entry_there c.deref.result.now c.as_bytes-pattern.result.now c.place_of.result (sym c.place_of.ensures) ∙ sym c.is_some.ensures in
    rw (has, c.if-is_some.false)
    (same_lines _ _ _ _ (c.push_reserved.ensures.items ∙ ap (λ (t : List TransportLine). t ++ c.args.entry ∷ []) entries) (ap (λ (v : TransportLines). v.faults) c.self.view_is))
