use Rattle.relay_wire.proofs.ScriptParts.{front_isnt, stripped_some, stripped_none}
use Rattle.relay_wire.proofs.reading.behind_word.Goals as goal

pub returns-in_err-strip_prefix-clause-none : goal.returns-in_err-strip_prefix-clause-none
returns-in_err-strip_prefix-clause-none c = rw c.from_residual.ensures (λ text is. front_isnt c.args.word.now c.args.line.now _ c.in_err-strip_prefix.ensures.cases is)

pub returns-clause-some : goal.returns-clause-some
returns-clause-some c =
    let front = c.in_ok-strip_prefix.ensures.cases in
    stripped_some c.args.word.now c.args.line.now c.in_ok-strip_prefix.field-0.now c.strip_suffix.result front.0 front.1 c.strip_suffix.ensures.cases

pub returns-clause-none : goal.returns-clause-none
returns-clause-none c =
    let front = c.in_ok-strip_prefix.ensures.cases in
    stripped_none c.args.word.now c.args.line.now c.in_ok-strip_prefix.field-0.now c.strip_suffix.result front.0 front.1 c.strip_suffix.ensures.cases
