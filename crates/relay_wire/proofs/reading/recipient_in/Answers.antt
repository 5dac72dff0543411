use Rattle.std.proofs.Common.{Some, codes}
use Rattle.relay_text.specs.Addresses.{path_text_of}
use Rattle.relay_wire.proofs.ScriptParts.{one_text, no_recipient}
use Rattle.relay_wire.proofs.reading.recipient_in.Goals as goal

pub returns-in_default-clause-none : goal.returns-in_default-clause-none
returns-in_default-clause-none c = λ a good is. c.in_default.ensures.none (path_text_of (Some a)) is

pub returns-in-Some-2-clause-none : goal.returns-in-Some-2-clause-none
returns-in-Some-2-clause-none c =
    let found = rw c.in-Some-2.is at c.in_ok-path.ensures.some in
    no_recipient c.args.line.now c.in-Some.text.now c.in-Some-2.path found.0 found.1 c.in-Some.ensures.some

pub returns-in-None-clause-none : goal.returns-in-None-clause-none
returns-in-None-clause-none c =
    let none = rw c.in-None.is at c.in_ok-path.ensures.none in
    λ a good is. none (Some a) good (one_text (codes "RCPT TO:") c.args.line.now c.in-Some.text.now (path_text_of (Some a)) c.in-Some.ensures.some is)
