use Rattle.relay_wire.proofs.ScriptParts.{script_parts, first_of_script, second_of_script, no_sender_line}
use Rattle.relay_wire.proofs.scripts.read_script.Goals as goal

pub returns-in_default-greeting_in-clause-none : goal.returns-in_default-greeting_in-clause-none
returns-in_default-greeting_in-clause-none c = λ s good is.
    c.in_default-greeting_in.ensures.none s.greeting s.hostname (script_parts s good).0
    (first_of_script c.args.bytes.now c.in-Some.first.now c.in-Some.behind_first.now c.in-Some.ensures.lines c.in-Some.ensures.bytes s good is).0

pub returns-in_default-split_line-clause-none : goal.returns-in_default-split_line-clause-none
returns-in_default-split_line-clause-none c = λ s good is.
    no_sender_line c.in-Some.behind_first.now _ s.from c.in_default-split_line.ensures.none
    (first_of_script c.args.bytes.now c.in-Some.first.now c.in-Some.behind_first.now c.in-Some.ensures.lines c.in-Some.ensures.bytes s good is).1

pub returns-in_default-2-clause-none : goal.returns-in_default-2-clause-none
returns-in_default-2-clause-none c = λ s good is.
    let behind = first_of_script c.args.bytes.now c.in-Some.first.now c.in-Some.behind_first.now c.in-Some.ensures.lines c.in-Some.ensures.bytes s good is in
    let none = rw c.in_default-2.is at c.in_ok-from.ensures.none in
    none s.from (script_parts s good).1
    (second_of_script c.in-Some.behind_first.now c.in-Some-split_line.second.now c.in-Some-split_line.behind_second.now c.in-Some-split_line.ensures.lines c.in-Some-split_line.ensures.bytes s good behind.1).0

pub returns-in_default-3-clause-none : goal.returns-in_default-3-clause-none
returns-in_default-3-clause-none c = λ s good is.
    let behind = first_of_script c.args.bytes.now c.in-Some.first.now c.in-Some.behind_first.now c.in-Some.ensures.lines c.in-Some.ensures.bytes s good is in
    let rest = second_of_script c.in-Some.behind_first.now c.in-Some-split_line.second.now c.in-Some-split_line.behind_second.now c.in-Some-split_line.ensures.lines c.in-Some-split_line.ensures.bytes s good behind.1 in
    let none = rw c.in_default-3.is at c.in_ok-to.ensures.none in
    none (s.to, ((script_parts s good).2, rest.1))
