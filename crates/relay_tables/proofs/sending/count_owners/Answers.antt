use Rattle.std.proofs.Common.{arith, ◌≡◌, ap, sym, ◌∙◌}
use Rattle.std.specs.Prelude.{is_some}
use Rattle.relay_tables.specs.Senders.{owner_number}
use Rattle.relay_tables.proofs.Runs.{counted_yes, counted_no, counted_within}
use Rattle.relay_tables.proofs.sending.count_owners.Goals as goal
use Rattle.relay_tables.proofs.sending.count_owners.Goals.{then-is_some, else-is_some}

pub overflow_add-count : goal.overflow_add-count
overflow_add-count c =
    let l = c.loop-alias in
    omega (arith, l.invariant, counted_within (λ alias. is_some (owner_number c.args.tables.now alias)) l.alias)

pub loop-alias-preserved : goal.loop-alias-preserved
loop-alias-preserved c =
    let l = c.loop-alias in
    let d = c.args.tables.now in
    let test : c.is_some.result ≡ is_some (owner_number d l.alias) = c.is_some.ensures ∙ ap (λ o. is_some o) c.owner_of.ensures in
    elim c.if-is_some.branch [
      | then-is_some w ↦ w.count-is ∙ counted_yes (λ alias. is_some (owner_number d alias)) l.alias l.count l.invariant (sym test ∙ w.if-is_some.true)
      | else-is_some w ↦ w.count-is ∙ counted_no (λ alias. is_some (owner_number d alias)) l.alias l.count l.invariant (sym test ∙ w.if-is_some.false)
    ]
