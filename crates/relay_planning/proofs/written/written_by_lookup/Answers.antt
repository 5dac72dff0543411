use Rattle.relay_planning.proofs.WrittenFacts.{written_for}
use Rattle.relay_planning.proofs.written.written_by_lookup.Goals as goal

pub returns-in-Ok-clause-written : goal.returns-in-Ok-clause-written
returns-in-Ok-clause-written g c =
    written_for c.args.job.now c.in_ok-transactions.field-0.transactions.items c.args.lines c.transactions_by_lookup.new.lines c.in-Ok.written c.in_ok-transactions.ensures.transactions c.in_ok-transactions.ensures.sound c.in_ok-transactions.ensures.fewest c.in_ok-transactions.ensures.lines c.requires.lines
    (rw c.deref.ensures.value at c.in-Ok.ensures)
